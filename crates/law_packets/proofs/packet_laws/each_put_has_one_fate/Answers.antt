use Rattle.law_packets.proofs.FatesOfPuts.{one_fate_each}
use Rattle.law_packets.proofs.packet_laws.each_put_has_one_fate.Goals as goal

pub returns : goal.returns
returns c = one_fate_each
