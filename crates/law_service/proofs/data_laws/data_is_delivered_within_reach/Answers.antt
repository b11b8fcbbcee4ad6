use Rattle.law_service.proofs.DeliveredData.{delivered_within}
use Rattle.law_service.proofs.data_laws.data_is_delivered_within_reach.Goals as goal

pub returns : goal.returns
returns c = delivered_within
