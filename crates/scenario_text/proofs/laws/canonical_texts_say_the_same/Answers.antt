use Rattle.std.proofs.Common.{refl}
use Rattle.scenario_text.specs.Canonical.{canonical}
use Rattle.scenario_text.proofs.Horizons.{says_again_to_run}
use Rattle.scenario_text.proofs.SaidParts.{says_again}
use Rattle.scenario_text.proofs.laws.canonical_texts_say_the_same.Goals as goal

pub returns-clause-long : goal.returns-clause-long
returns-clause-long c = λ s. says_again s (canonical s) refl

pub returns-clause-run : goal.returns-clause-run
returns-clause-run c = λ s. says_again_to_run s (canonical s) refl
