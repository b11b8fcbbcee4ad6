use Rattle.bus_time.proofs.OneList.{one_list}
use Rattle.bus_time.proofs.stamp_laws.logs_have_one_list_of_stamps.Goals as goal

pub returns : goal.returns
returns c = one_list
