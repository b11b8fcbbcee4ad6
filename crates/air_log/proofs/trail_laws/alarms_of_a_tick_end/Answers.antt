use Rattle.air_log.proofs.AlarmRuns.{alarms_are_run, runs_agree}
use Rattle.air_log.proofs.trail_laws.alarms_of_a_tick_end.Goals as goal

pub returns : goal.returns
returns c = record { end = alarms_are_run; agree = runs_agree }
