-- The zeros of the rounds of a scenario, whose host is the one that it names for the rank.
use Rattle.std.specs.Prelude.{ℕ, slice_index}
use Rattle.time_reference.specs.Budgets.{budget_of}
use Rattle.time_reference.specs.Zeros.{Ref, Good}
use Rattle.scenario_text.specs.ScenarioParts.{ScenarioParts}

-- z is a zero for frame f by the clock of v, taken from the schedule of slot j of frame c
abbrev pub RefFor : ScenarioParts → (ℕ → ℕ → ℕ) → ℕ → ℕ → ℕ → ℕ → ℕ → ℕ → Type 0
RefFor s clocks rank v z f c j =
    Ref s.profile (budget_of s.profile) (clocks (slice_index s.hosts rank)) (clocks v) z f c j

-- z is one whose times from the offset `from` on may be used
abbrev pub GoodFor : ScenarioParts → (ℕ → ℕ → ℕ) → ℕ → ℕ → ℕ → ℕ → ℕ → Type 0
GoodFor s clocks rank v z f from =
    Good s.profile (budget_of s.profile) (clocks (slice_index s.hosts rank)) (clocks v) z f from
