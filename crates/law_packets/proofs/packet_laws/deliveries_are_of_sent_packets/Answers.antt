use Rattle.law_packets.proofs.ReceivedPackets.{sent_are_delivered}
use Rattle.law_packets.proofs.SendingsOfDeliveries.{of_sent_packets}
use Rattle.law_packets.proofs.packet_laws.deliveries_are_of_sent_packets.Goals as goal

pub returns : goal.returns
returns c = record { whole = sent_are_delivered; slots = of_sent_packets }
