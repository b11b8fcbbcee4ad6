use Rattle.lwb_flood.proofs.NodeClocks.{stated_clocks}
use Rattle.lwb_flood.proofs.flood_log_laws.stated_clocks_keep_the_drift_law.Goals as goal

pub returns : goal.returns
returns c = stated_clocks
