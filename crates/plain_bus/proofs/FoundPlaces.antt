-- What a search for a node among ascending ones finds.
use Rattle.std.proofs.Common.{◌≡◌, ◌<◌, ℕ, List, false, inl, inr, Ok, Err, length, get_or}
use Rattle.std.proofs.Common.{arith}
use Rattle.std.specs.List.{AllPairs}
use Rattle.std.specs.List.Sorted.{IsBinarySearchResult}
use Rattle.std.specs.Ordering.{nat_cmp}
use Rattle.std.proofs.lemmas.Bool.{cases_lt, cases_Bool}
use Rattle.std.proofs.lemmas.List.Sorted.{searched}
use Rattle.lwb_base.proofs.Orders.{rising}
use Rattle.bus_terms.specs.Flooding.{has}
use Rattle.plain_bus.proofs.HeardByMasks.{place_of}

module _ (ids : List ℕ) (ascending : AllPairs (λ a b. a < b) ids) (v i : ℕ) where
  pub found_there : IsBinarySearchResult (λ y. nat_cmp y v) ids (Ok i) → (i < length ids) × (get_or ids i 0 ≡ v)
  found_there found = searched ids v (Ok i) found (rising ids ascending)

  pub found_nowhere : IsBinarySearchResult (λ y. nat_cmp y v) ids (Err i) → has ids v ≡ false
  found_nowhere parted = elim (cases_Bool (has ids v)) [
    | inl there ↦ absurd (
        let at = searched ids v (Err i) parted (rising ids ascending) in
        let place = place_of ids v there in
        elim (cases_lt place.0 i) [
          | inl before ↦ omega (arith, at.1 place.0 before, place.2)
          | inr after ↦ omega (arith, at.2 place.0 after place.1, place.2)
        ])
    | inr not ↦ not
  ]
