-- The rounds of a frame one after another.
use Rattle.std.specs.Prelude.{ℕ, List, fold}
use Rattle.scenario_text.specs.ScenarioParts.{ScenarioParts}
use Rattle.bus_rules.specs.States.{State}
use Rattle.bus_terms.specs.Rounds.{round_of_rank}

-- the rounds of these ranks in turn, each from the states that the one before left
abbrev pub rounds_in_turn : ScenarioParts → ℕ → (ℕ → State) → List ℕ → ℕ → State
rounds_in_turn s f states ranks = fold (λ (g : ℕ → State) (rank : ℕ). round_of_rank s rank f g) states ranks
