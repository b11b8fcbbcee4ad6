use Rattle.law_trails.proofs.ProfilePackets.{errs_55, errs_48}
use Rattle.law_trails.proofs.packet_laws.schedules_allow_small_errors.Goals as goal

pub returns : goal.returns
returns c = record { within_55 = errs_55; within_48 = errs_48 }
