use Rattle.law_trails.proofs.ObeyedOrders.{has_obeyed}
use Rattle.law_trails.proofs.walks.orders_do_what_they_say.Goals as goal

pub returns : goal.returns
returns c = has_obeyed
