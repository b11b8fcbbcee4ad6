use Rattle.law_service.proofs.LoneRequests.{kept, acknowledged}
use Rattle.law_service.proofs.request_laws.a_lone_request_is_acknowledged.Goals as goal

pub returns : goal.returns
returns c = record { kept = kept; acknowledged = acknowledged }
