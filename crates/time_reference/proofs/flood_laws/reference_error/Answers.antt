use Rattle.time_reference.proofs.Steps.{reference_error, small_error, of_61, of_74}
use Rattle.time_reference.proofs.flood_laws.reference_error.Goals as goal

pub returns : goal.returns
returns c = record { any = reference_error; small = small_error; of_61 = of_61; of_74 = of_74 }
