-- How far nodes are from one another, by links among those that take part.
use Rattle.std.specs.Prelude.{◌≡◌, ◌<◌, ℕ, zero, suc, List, Bool, true, false, ◌&&◌, ◌==◌}
use Rattle.std.specs.List.{list_any}

-- whether a walk of this many links leads from the starting node to v
unfoldable pub walks : (ℕ → ℕ → Bool) → List ℕ → ℕ → ℕ → ℕ → Bool
walks link everyone start zero v = v == start
walks link everyone start (suc i) v = list_any (λ u. walks link everyone start i u && link u v) everyone

-- a walk of this many links leads to v, and none of fewer
pub record IsDistance (link : ℕ → ℕ → Bool) (everyone : List ℕ) (start links v : ℕ) : Type 0 where
  pub reached : walks link everyone start links v ≡ true
  pub nearest : (i : ℕ) → i < links → walks link everyone start i v ≡ false
