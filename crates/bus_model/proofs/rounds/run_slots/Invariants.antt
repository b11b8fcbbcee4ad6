use Rattle.std.proofs.Common.{◌≡◌, ◌+◌, ◌++◌, ◌==◌, ℕ, List, if◌then◌else◌, filter_map, flat_map, map}
use Rattle.std.specs.List.{range_with_len}
use Rattle.lwb_base.specs.Messages.{Plan}
use Rattle.bus_rules.specs.States.{State}
use Rattle.bus_terms.specs.Bus.{Cost}
use Rattle.bus_terms.specs.FloodOfText.{ids}
use Rattle.bus_terms.specs.Packets.{sent_in_slot}
use Rattle.bus_terms.specs.Rounds.{slot_deliveries}
use Rattle.plain_bus.specs.BusNodes.{nodes_before, nodes_in, ranks_in, AreOffOutside, HaveRoom}
use Rattle.plain_bus.specs.Leaders.{slot_parts}
use Rattle.plain_bus.specs.Networks.{IsReady}
use Rattle.plain_bus.specs.RunFloods.{HasRun, SlotFlood, slot_flood}
use Rattle.bus_model.specs.RoundCosts.{with_slots}
use Rattle.bus_model.proofs.rounds.run_slots.Given as goal

abbrev pub invariant-loop-slot : goal.invariant-loop-slot
invariant-loop-slot g l = record {
  ready : (m : ℕ) → IsReady l.s l.frame m l.fn.net → IsReady l.s l.frame (m + l.slot) l.net;
  nodes_are : (p : Plan) (start others : ℕ → State) → l.parts ≡ slot_parts p → l.fn.net.nodes ≡ nodes_in l.s l.rank start start others
      → ((j : ℕ) → HaveRoom l.s l.rank l.frame p start j) → l.net.nodes ≡ nodes_before l.s l.rank l.frame p start others l.slot;
  delivered : (p : Plan) (start others : ℕ → State) → l.parts ≡ slot_parts p → l.fn.net.nodes ≡ nodes_in l.s l.rank start start others
      → ((j : ℕ) → HaveRoom l.s l.rank l.frame p start j)
      → l.net.deliveries ≡ l.fn.net.deliveries ++ flat_map (slot_deliveries l.s l.rank l.frame p start) (range_with_len 0 l.slot);
  sent : (p : Plan) (start others : ℕ → State) → l.parts ≡ slot_parts p → l.fn.net.nodes ≡ nodes_in l.s l.rank start start others
      → ((j : ℕ) → HaveRoom l.s l.rank l.frame p start j) → AreOffOutside l.s start
      → l.net.sent ≡ l.fn.net.sent ++ filter_map (sent_in_slot l.s l.rank l.frame p start) (range_with_len 0 l.slot);
  ran : (p : Plan) (start others : ℕ → State) (before : List SlotFlood) → l.parts ≡ slot_parts p → l.fn.net.nodes ≡ nodes_in l.s l.rank start start others
      → ((j : ℕ) → HaveRoom l.s l.rank l.frame p start j) → HasRun l.s l.frame before l.fn.net.floods
      → HasRun l.s l.frame (before ++ map (slot_flood l.s l.rank l.frame p start) (range_with_len 0 l.slot)) l.net.floods;
  costs_are : (p : Plan) (start others : ℕ → State) (cost : ℕ → Cost) → l.parts ≡ slot_parts p → l.fn.net.nodes ≡ nodes_in l.s l.rank start start others
      → ((j : ℕ) → HaveRoom l.s l.rank l.frame p start j) → l.fn.net.costs ≡ map cost (ids l.s.nodes)
      → l.net.costs ≡ map (λ v. if ranks_in start v == l.rank then with_slots l.s l.rank l.frame p start l.slot v (cost v) else cost v) (ids l.s.nodes);
}
