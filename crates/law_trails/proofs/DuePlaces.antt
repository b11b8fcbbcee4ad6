-- A trail that is written down, at each of its due ticks.
use Rattle.std.proofs.Common.{◌≡◌, ℕ, zero, suc, ◌<◌, List, [], ◌∷◌, length, get_or, Bool, true, ◌&&◌, nat_le, arith}
use Rattle.std.proofs.lemmas.Bool.{and_parts, leb-true}
use Rattle.scenario_text.specs.ScenarioParts.{ScenarioParts}
use Rattle.air_log.specs.Trails.{Reception, before_tick}
use Rattle.law_trails.specs.DueDevices.{DueDevice, IsDeviceWithWindows, StandsAs}

-- each due tick is at a or later, and after the one before it
abbrev pub rises : ℕ → List DueDevice → Bool
rises a [] = true
rises a (x ∷ xs) = nat_le a x.tick && rises (suc x.tick) xs

module _ (s : ScenarioParts) (v : ℕ) (clock : ℕ → ℕ) (hs : List Reception) where
  abbrev pub ShowsDue : DueDevice → Type 0
  ShowsDue x = IsDeviceWithWindows (before_tick s v clock hs x.tick) x.device

  pub at_place : (a : ℕ) (xs : List DueDevice) → rises a xs ≡ true → StandsAs s v clock hs a xs → (i : ℕ) (d : DueDevice) → i < length xs
      → ShowsDue (get_or xs i d)
  at_place a [] order stands i d within = absurd (omega (arith, within))
  at_place a (x ∷ xs) order stands zero d within = stands.0 x.tick (leb-true a x.tick (and_parts _ _ order).0) (omega arith)
  at_place a (x ∷ xs) order stands (suc i) d within = at_place (suc x.tick) xs (and_parts _ _ order).1 stands.1 i d (omega (arith, within))
