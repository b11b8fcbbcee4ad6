-- The transmissions that start at one tick are next to each other.
use Rattle.std.proofs.Common.{◌≡◌, ◌≢◌, ℕ, ◌<◌, ◌≤◌, List, length, inl, inr, true, false, nat_lt, arith, AllPairs, get_or}
use Rattle.std.proofs.lemmas.Bool.{cases_lt, ltb-true, ltb-false}
use Rattle.std.specs.List.Sorted.{IsPartitionPoint}
use Rattle.radio_model.specs.Hearing.{Before}
use Rattle.radio_model.specs.OnAir.{Sending}
use Rattle.radio_model.proofs.OverlapWindows.{by_start}

module _ (sent : List Sending) (in_order : AllPairs Before sent) (t begin end : ℕ)
    (parted : IsPartitionPoint (λ (y : Sending). nat_lt y.start t ≡ true) (λ y. nat_lt y.start t ≡ false) sent begin) (from : begin ≤ end) where
  abbrev AreWithin : Type 0
  AreWithin = (k : ℕ) (d : Sending) → k < length sent → (get_or sent k d).start ≡ t → (begin ≤ k) × (k < end)

  since : (k : ℕ) (d : Sending) → k < length sent → (get_or sent k d).start ≡ t → begin ≤ k
  since k d below at = elim (cases_lt k begin) [
    | inl early ↦ let so = ltb-true (get_or sent k d).start t (parted.0 k d (omega arith) early) in absurd (omega (arith, so, at))
    | inr from ↦ from
  ]

  -- all have been looked at
  pub up_to_all : length sent ≤ end → AreWithin
  up_to_all over k d below at = (since k d below at, omega (arith, below, over))

  -- the one at the end starts at another tick
  pub up_to_other : end < length sent → ((d : Sending) → (get_or sent end d).start ≢ t) → AreWithin
  up_to_other more other k d below at = elim (cases_lt k end) [
    | inl less ↦ (since k d below at, less)
    | inr late ↦
        let up = by_start sent in_order end k d late below in
        let low = ltb-false (get_or sent end d).start t (parted.1 end d from more) in
        absurd (other d (omega (arith, up, low, at)))
  ]
