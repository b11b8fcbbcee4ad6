use Rattle.law_trails.proofs.SaidPackets.{says, kind_says, packets_say}
use Rattle.law_trails.proofs.ProfilePackets.{in_slot}
use Rattle.law_trails.proofs.packet_laws.messages_tell_of_their_packets.Goals as goal

pub returns : goal.returns
returns c = record { packet = says; kind = kind_says; some = packets_say; place = in_slot }
