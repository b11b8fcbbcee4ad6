use Rattle.time_reference.proofs.ProfileSizes.{sizes}
use Rattle.time_reference.proofs.Steps.{of_61, of_74}
use Rattle.time_reference.proofs.fitting.budgets_cover_rounds.Goals as goal

pub returns-clause-schedules : goal.returns-clause-schedules
returns-clause-schedules c = λ p made n. let size = sizes p made in (of_61 p n size.byte size.turn, of_74 p n size.byte size.turn)
