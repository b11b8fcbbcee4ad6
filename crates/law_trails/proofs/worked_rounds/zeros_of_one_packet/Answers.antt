use Rattle.law_trails.proofs.OnePacketZeros.{clocks_drift, opened, granted, reopened, closed}
use Rattle.law_trails.proofs.worked_rounds.zeros_of_one_packet.Goals as goal

pub returns : goal.returns
returns c = record { clocks = clocks_drift; opened = opened; granted = granted; reopened = reopened; closed = closed }
