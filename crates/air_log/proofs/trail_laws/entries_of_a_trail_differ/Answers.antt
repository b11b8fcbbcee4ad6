use Rattle.air_log.proofs.TrailSendings.{in_order, each_sent}
use Rattle.air_log.proofs.TrailTunings.{each_tuned, tuned_in_turn}
use Rattle.air_log.proofs.trail_laws.entries_of_a_trail_differ.Goals as goal

pub returns : goal.returns
returns c = record { sent = in_order; each_sent = each_sent; tuned = tuned_in_turn; each_tuned = each_tuned }
