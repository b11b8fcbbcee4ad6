use Rattle.law_trails.proofs.WrittenAgain.{packet_again, same_packets}
use Rattle.law_trails.proofs.packet_laws.what_is_read_is_written_again.Goals as goal

pub returns : goal.returns
returns c = record { packet = packet_again; bodies = same_packets }
