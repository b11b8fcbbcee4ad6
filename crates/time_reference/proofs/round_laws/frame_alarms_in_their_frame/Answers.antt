use Rattle.time_reference.proofs.Run.{alarm_after_start, alarm_before_next}
use Rattle.time_reference.proofs.round_laws.frame_alarms_in_their_frame.Goals as goal

pub returns : goal.returns
returns c = record { after = alarm_after_start; before = alarm_before_next }
