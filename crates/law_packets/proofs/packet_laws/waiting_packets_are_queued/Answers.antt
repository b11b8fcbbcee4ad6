use Rattle.law_packets.proofs.WaitingPackets.{wait_in_queues}
use Rattle.law_packets.proofs.packet_laws.waiting_packets_are_queued.Goals as goal

pub returns : goal.returns
returns c = wait_in_queues
