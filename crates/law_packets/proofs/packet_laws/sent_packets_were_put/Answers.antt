use Rattle.law_packets.proofs.PutLines.{queued_once, were_put}
use Rattle.law_packets.proofs.packet_laws.sent_packets_were_put.Goals as goal

pub returns : goal.returns
returns c = record { put = were_put; once = queued_once }
