use Rattle.std.proofs.Common.{◌∙◌, ap, refl, List, ℕ, Option, option_map}
use Rattle.glossy_relay.specs.FloodState.{listening, initiating}
use Rattle.glossy_relay.specs.Relaying.{counter_of}
use Rattle.glossy_relay.specs.Runs.{flood_after_calls}
use Rattle.glossy_relay.proofs.WholeRuns.{counted, found, accepts, accepts_none}
use Rattle.glossy_relay.proofs.laws.accepts_the_first_that_fits.Goals as goal

pub returns : goal.returns
returns c = record {
  listening = λ kind slot n calls.
      let s = listening kind slot n in
      accepts s (flood_after_calls s calls) (counted calls s).initiated refl
      ∙ ap (λ (o : Option (List ℕ)). option_map {U = List ℕ × ℕ} (λ p. (p, counter_of p)) o) (found calls s refl);
  initiating = λ p n calls. let s = initiating p n in accepts_none s (flood_after_calls s calls) (counted calls s).initiated refl;
}
