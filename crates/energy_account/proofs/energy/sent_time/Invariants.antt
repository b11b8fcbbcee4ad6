use Rattle.std.proofs.Common.{◌≡◌, sum_by, take}
use Rattle.air_log.specs.Energies.{sending_time}
use Rattle.energy_account.proofs.energy.sent_time.Given as goal

abbrev pub invariant-loop-x : goal.invariant-loop-x
invariant-loop-x l = l.total ≡ sum_by sending_time (take l.x-index l.sent)
