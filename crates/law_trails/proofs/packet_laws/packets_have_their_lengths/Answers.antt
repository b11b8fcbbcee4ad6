use Rattle.law_trails.proofs.ProfilePackets.{least_long, most_long, schedules_short}
use Rattle.law_trails.proofs.packet_laws.packets_have_their_lengths.Goals as goal

pub returns : goal.returns
returns c = record { least = least_long; most = most_long; schedules = schedules_short }
