-- Relay paths of a flood with one initiator.
use Rattle.std.specs.Prelude.{◌≡◌, ℕ, ◌<◌, ◌≤◌, List, [], ◌∷◌, length, true, Some, None}
use Rattle.bus_terms.specs.Flooding.{Setting, moment, STEPS}

-- the nodes of a path, the last one first: each but the last sends in the step of its place, over a link that passes to the next, which
-- does not send then and has sent in fewer steps before than the limit
abbrev pub IsPath : Setting → ℕ → List ℕ → Type 0
IsPath s start [] = ⊥
IsPath s start (v ∷ []) = v ≡ start
IsPath s start (v ∷ u ∷ us) =
    IsPath s start (u ∷ us) × ((moment s (length us)).sends u ≡ Some start) × (s.passes (length us) u v ≡ true)
    × ((moment s (length us)).sends v ≡ None) × ((moment s (length us)).times v < s.limit)

-- a path of this many links leads to v
pub record HasPath (s : Setting) (start links v : ℕ) : Type 0 where
  pub nodes : List ℕ
  pub size : length nodes ≡ links
  pub path : IsPath s start (v ∷ nodes)

-- the shortest paths to v have this many links
pub record IsLeast (s : Setting) (start links v : ℕ) : Type 0 where
  pub range : (1 ≤ links) × (links ≤ STEPS)
  pub path : HasPath s start links v
  pub shorter : (m : ℕ) → m < links → HasPath s start m v → ⊥
