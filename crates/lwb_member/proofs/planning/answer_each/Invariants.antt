use Rattle.std.proofs.Common.{◌≡◌, ◌≤◌, length, take}
use Rattle.bus_rules.specs.HostPlans.{answers_to}
use Rattle.lwb_member.specs.Planning.{AreAnswers, IsEarly}
use Rattle.lwb_member.proofs.Answering.{collected}
use Rattle.lwb_member.proofs.planning.answer_each.Given as goal

abbrev pub invariant-loop-asked : goal.invariant-loop-asked
invariant-loop-asked l = record {
  is : collected l.table l.answers.items ≡ answers_to l.frame (take l.asked-index l.kept) l.fn.table;
  few : length l.answers.items ≤ l.asked-index;
  are : AreAnswers l.answers.items;
  early : IsEarly l.frame l.table;
}
