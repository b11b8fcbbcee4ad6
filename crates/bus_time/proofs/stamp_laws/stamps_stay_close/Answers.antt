use Rattle.bus_time.proofs.StampAges.{stamps_stay_close}
use Rattle.bus_time.proofs.stamp_laws.stamps_stay_close.Goals as goal

pub returns : goal.returns
returns c = stamps_stay_close
