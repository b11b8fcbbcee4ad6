use Rattle.time_reference.proofs.HeardZeros.{zero_errs}
use Rattle.time_reference.proofs.flood_laws.heard_zeros_err_little.Goals as goal

pub returns : goal.returns
returns c = zero_errs
