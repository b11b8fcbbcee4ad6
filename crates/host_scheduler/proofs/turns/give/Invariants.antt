use Rattle.std.proofs.Common.{◌≡◌, take}
use Rattle.host_scheduler.specs.Debts.{debts_from_place, turns_of, beyond}
use Rattle.host_scheduler.proofs.turns.give.Given as goal

abbrev pub invariant-loop-turn : goal.invariant-loop-turn
invariant-loop-turn l = record {
  given : l.given.items ≡ take 40 (turns_of (debts_from_place l.place l.debts) l.turn);
  line : l.line.items ≡ beyond l.turn (debts_from_place l.place l.debts);
}
