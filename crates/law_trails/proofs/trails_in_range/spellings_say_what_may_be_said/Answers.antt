use Rattle.law_trails.proofs.SpokenInRange.{spoken, relay_spoken, own_spoken}
use Rattle.law_trails.proofs.trails_in_range.spellings_say_what_may_be_said.Goals as goal

pub returns : goal.returns
returns c = record { spelling = spoken; relay = relay_spoken; own = own_spoken }
