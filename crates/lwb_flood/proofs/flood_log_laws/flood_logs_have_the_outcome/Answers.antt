use Rattle.lwb_flood.proofs.LogOutcome.{accepts_read_off, count_read_off}
use Rattle.lwb_flood.proofs.flood_log_laws.flood_logs_have_the_outcome.Goals as goal

pub returns : goal.returns
returns c = record { accepts = accepts_read_off; sent = count_read_off }
