use Rattle.law_packets.proofs.HostedSums.{hosted_sum}
use Rattle.law_packets.proofs.packet_laws.hosted_counts_add_up.Goals as goal

pub returns : goal.returns
returns c = hosted_sum
