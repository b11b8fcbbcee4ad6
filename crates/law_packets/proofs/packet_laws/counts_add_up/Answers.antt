use Rattle.law_packets.proofs.CountedFates.{counts_sum}
use Rattle.law_packets.proofs.packet_laws.counts_add_up.Goals as goal

pub returns : goal.returns
returns c = counts_sum
