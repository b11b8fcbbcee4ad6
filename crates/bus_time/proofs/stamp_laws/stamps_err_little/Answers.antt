use Rattle.bus_time.proofs.StampErrors.{stamps_err_little}
use Rattle.bus_time.proofs.stamp_laws.stamps_err_little.Goals as goal

pub returns : goal.returns
returns c = stamps_err_little
