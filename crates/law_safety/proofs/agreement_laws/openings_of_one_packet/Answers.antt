use Rattle.law_safety.proofs.WorkedOpenings.{host_opens, member_opens}
use Rattle.law_safety.proofs.agreement_laws.openings_of_one_packet.Goals as goal

pub returns : goal.returns
returns c = record { host = host_opens; member = member_opens }
