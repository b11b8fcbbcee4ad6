use Rattle.law_trails.proofs.WalkOfRun.{known_before, known_in_phase}
use Rattle.law_trails.proofs.walks.nothing_due_is_left.Goals as goal

pub returns : goal.returns
returns c = record { before = known_before; within = known_in_phase }
