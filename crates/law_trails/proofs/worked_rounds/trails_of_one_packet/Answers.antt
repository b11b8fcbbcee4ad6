use Rattle.law_trails.proofs.HostSteps.{host_stands}
use Rattle.law_trails.proofs.MemberSteps.{member_stands}
use Rattle.law_trails.proofs.worked_rounds.trails_of_one_packet.Goals as goal

pub returns : goal.returns
returns c = record { host = host_stands; member = member_stands }
