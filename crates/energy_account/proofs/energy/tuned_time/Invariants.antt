use Rattle.std.proofs.Common.{◌≡◌, sum_by, take}
use Rattle.energy_account.specs.ToldEnergies.{tuned_span}
use Rattle.energy_account.proofs.energy.tuned_time.Given as goal

abbrev pub invariant-loop-t : goal.invariant-loop-t
invariant-loop-t l = l.total ≡ sum_by tuned_span (take l.t-index l.tuned)
