use Rattle.air_log.proofs.QuietTicks.{quiet_ticks}
use Rattle.air_log.proofs.trail_laws.quiet_ticks_change_nothing.Goals as goal

pub returns : goal.returns
returns c = quiet_ticks
