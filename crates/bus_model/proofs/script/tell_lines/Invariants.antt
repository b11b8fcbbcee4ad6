use Rattle.std.proofs.Common.{◌≡◌, ◌<◌, ◌≤◌, ℕ, length, get_or}
use Rattle.scenario_text.specs.declared.script.ScriptLine.{ScriptLine}
use Rattle.plain_bus.specs.Networks.{IsReady}
use Rattle.bus_model.specs.FrameNodes.{HavePower, nodes_with, prior_ranks, puts_to, told_at}
use Rattle.bus_model.proofs.script.tell_lines.Given as goal

abbrev pub invariant-loop-next : goal.invariant-loop-next
invariant-loop-next g l = record {
  within : l.from ≤ l.next;
  upto : l.next ≤ length l.s.script;
  now_told : (i : ℕ) (d : ScriptLine) → l.from ≤ i → i < l.next → (get_or l.s.script i d).frame ≡ l.frame;
  have : HavePower l.s (told_at l.s l.frame l.next) l.next;
  nodes_are : l.net.nodes ≡ nodes_with l.s (prior_ranks l.s l.frame) (told_at l.s l.frame l.next);
  put : l.puts.items ≡ puts_to l.s l.next;
  ready : (m : ℕ) → IsReady l.s l.frame m l.fn.net → IsReady l.s l.frame m l.net;
  costs_are : l.net.costs ≡ l.fn.net.costs;
  delivered : l.net.deliveries ≡ l.fn.net.deliveries;
  sent : l.net.sent ≡ l.fn.net.sent;
}
