use Rattle.law_service.proofs.Collisions.{collide, lost, stay_tied}
use Rattle.law_service.proofs.contention_laws.contenders_meet_again.Goals as goal

pub returns : goal.returns
returns c = record { step = collide; lost = lost; tied = stay_tied }
