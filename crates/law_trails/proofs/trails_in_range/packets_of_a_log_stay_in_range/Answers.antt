use Rattle.law_trails.proofs.LogsInRange.{all_sent, all_heard, all_through}
use Rattle.law_trails.proofs.trails_in_range.packets_of_a_log_stay_in_range.Goals as goal

pub returns : goal.returns
returns c = record { sent = all_sent; heard = all_heard; nodes = all_through }
