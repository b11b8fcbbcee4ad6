use Rattle.time_reference.proofs.Points.{heard_now, heard_ahead}
use Rattle.time_reference.proofs.round_laws.heard_schedules_give_references.Goals as goal

pub returns : goal.returns
returns c = record { now = heard_now; ahead = heard_ahead }
