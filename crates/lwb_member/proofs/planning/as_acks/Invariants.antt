use Rattle.std.proofs.Common.{◌≡◌, take}
use Rattle.lwb_member.proofs.planning.as_acks.Given as goal

abbrev pub invariant-loop-answer : goal.invariant-loop-answer
invariant-loop-answer l = l.acks ≡ take l.answer-index l.answers
