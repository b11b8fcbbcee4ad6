-- What one flood gives.
use Rattle.std.specs.Prelude.{ℕ, List}

-- the accepting nodes, each with the step of its acceptance, and the number of transmissions
pub record Outcome : Type 0 where
  pub accepts : List (ℕ × ℕ)
  pub sent : ℕ
