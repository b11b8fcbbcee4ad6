use Rattle.law_trails.proofs.OnePacketLog.{lawful}
use Rattle.law_trails.proofs.OnePacketSafe.{safe}
use Rattle.law_trails.proofs.worked_rounds.the_log_of_one_packet_is_lawful_and_safe.Goals as goal

pub returns : goal.returns
returns c = record { lawful = lawful; safe = safe }
