use Rattle.scenario_text.specs.Setups.{setup_of}
use Rattle.law_trails.proofs.RelayedMessages.{spoken_rules, proper_rules}
use Rattle.law_trails.proofs.TrailsInRange.{trail_is, through}
use Rattle.law_trails.proofs.trails_in_range.trails_stay_in_range.Goals as goal

pub returns : goal.returns
returns c = record {
  before = λ s sound v low high. trail_is s sound v low high _ _ (spoken_rules (setup_of s v));
  through = λ s sound v low high. through s sound v low high _ _ (spoken_rules (setup_of s v));
  proper = λ s sound v low high. through s sound v low high _ _ (proper_rules (setup_of s v));
}
