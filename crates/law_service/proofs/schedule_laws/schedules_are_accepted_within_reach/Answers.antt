use Rattle.law_service.proofs.AcceptedSchedules.{openings, closings}
use Rattle.law_service.proofs.schedule_laws.schedules_are_accepted_within_reach.Goals as goal

pub returns : goal.returns
returns c = record { openings = openings; closings = closings }
