use Rattle.std.proofs.Common.{◌≡◌, replicate}
use Rattle.energy_account.proofs.times.zeros.Given as goal

abbrev pub invariant-loop : goal.invariant-loop
invariant-loop l = l.times.items ≡ replicate l.counter 0
