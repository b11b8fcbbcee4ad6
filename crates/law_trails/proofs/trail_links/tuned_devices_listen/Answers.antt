use Rattle.law_trails.proofs.TunedInTrails.{tuned_listens, tuned_known, tuned_in_run}
use Rattle.law_trails.proofs.trail_links.tuned_devices_listen.Goals as goal

pub returns : goal.returns
returns c = record { listens = tuned_listens; known = tuned_known; in_run = tuned_in_run }
