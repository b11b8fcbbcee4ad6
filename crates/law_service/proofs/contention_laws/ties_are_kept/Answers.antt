use Rattle.law_service.proofs.TiedNodes.{contention_keeps, schedules_keep}
use Rattle.law_service.proofs.contention_laws.ties_are_kept.Goals as goal

pub returns : goal.returns
returns c = record { contention = contention_keeps; schedules = schedules_keep }
