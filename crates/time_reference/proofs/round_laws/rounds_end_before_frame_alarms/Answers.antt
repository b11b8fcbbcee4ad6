use Rattle.time_reference.proofs.Points.{before_alarm}
use Rattle.time_reference.proofs.round_laws.rounds_end_before_frame_alarms.Goals as goal

pub returns : goal.returns
returns c = before_alarm
