use Rattle.law_bus.proofs.BusCosts.{window_sendings}
use Rattle.law_bus.proofs.cost_laws.windows_send_as_on_the_bus.Goals as goal

pub returns : goal.returns
returns c = window_sendings
