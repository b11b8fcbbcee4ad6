use Rattle.lwb_flood.proofs.LogOutcome.{by_least_path}
use Rattle.lwb_flood.proofs.flood_log_laws.flood_logs_accept_by_the_least_relay_path.Goals as goal

pub returns : goal.returns
returns c = by_least_path
