use Rattle.energy_account.proofs.ReadOff.{sent_apart, tuned_apart}
use Rattle.energy_account.proofs.energy_laws.times_of_a_node_lie_apart.Goals as goal

pub returns : goal.returns
returns c = record { sent = sent_apart; tuned = tuned_apart }
