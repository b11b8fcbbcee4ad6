use Rattle.law_packets.proofs.LaterPackets.{sent_in_order, sent_once}
use Rattle.law_packets.proofs.packet_laws.packets_are_sent_once.Goals as goal

pub returns : goal.returns
returns c = record { order = sent_in_order; once = sent_once }
