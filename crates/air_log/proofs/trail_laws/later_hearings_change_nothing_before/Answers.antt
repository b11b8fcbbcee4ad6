use Rattle.air_log.proofs.QuietTicks.{prefix, prefix_in, prefix_run}
use Rattle.air_log.proofs.trail_laws.later_hearings_change_nothing_before.Goals as goal

pub returns : goal.returns
returns c = record { before = prefix; within = prefix_in; run = prefix_run }
