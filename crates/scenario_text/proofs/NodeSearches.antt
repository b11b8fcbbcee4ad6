-- A search by id among all nodes: what it finds, and that it misses none.
use Rattle.std.proofs.Common.{◌≡◌, ℕ, ◌<◌, ◌≤◌, List, [], ◌∷◌, Bool, true, false, ◌==◌, Ok, Err, length, get_or, AllPairs, ◌∙◌, ap, arith, inl, inr}
use Rattle.std.specs.List.Sorted.{IsBinarySearchResult}
use Rattle.std.specs.Ordering.{nat_cmp}
use Rattle.std.proofs.lemmas.Bool.{cases_lt, cases_Bool, eq-eqb, eqb-true}
use Rattle.std.proofs.lemmas.List.Elements.{Contains-get_or}
use Rattle.lwb_base.proofs.Elements.{any_of, some_of}
use Rattle.lwb_base.proofs.Orders.{compares_higher, not_greater, not_less, same_number}
use Rattle.scenario_text.specs.FloodParts.{knows}
use Rattle.scenario_text.specs.declared.lines.NodeLine.{NodeLine}

abbrev has_id : ℕ → NodeLine → Bool
has_id v n = n.node == v

-- what was found
pub found_node : (ns : List NodeLine) (v i : ℕ) → IsBinarySearchResult (λ n. nat_cmp n.node v) ns (Ok i) → (d : NodeLine) → (get_or ns i d).node ≡ v
found_node ns v i found d = same_number (get_or ns i d).node v (found d)

pub found_known : (ns : List NodeLine) (v i : ℕ) → i < length ns → IsBinarySearchResult (λ n. nat_cmp n.node v) ns (Ok i) → knows ns v ≡ true
found_known [] v i less found = absurd (omega (arith, less))
found_known (n ∷ ns) v i less found =
    any_of (has_id v) (n ∷ ns) (get_or (n ∷ ns) i n) (Contains-get_or (n ∷ ns) i n less)
    (eq-eqb (get_or (n ∷ ns) i n).node v (found_node (n ∷ ns) v i found n))

module _ (ns : List NodeLine) (ascending : AllPairs (λ a b. a.node < b.node) ns) where
  rising : (i j : ℕ) (d : NodeLine) → i ≤ j → j < length ns → (get_or ns i d).node ≤ (get_or ns j d).node
  rising i j d le inside = elim (cases_lt i j) [
    | inl before ↦ omega (arith, ascending i j d before inside)
    | inr later ↦ (let at : i ≡ j = omega (arith, le, later) in rw at (omega arith))
  ]

  -- no node is missed
  pub none_missed : (v i : ℕ) → knows ns v ≡ true → IsBinarySearchResult (λ n. nat_cmp n.node v) ns (Err i) → ⊥
  none_missed v i there parted =
      let w = some_of (has_id v) ns there in
      let n : NodeLine = w.0 in
      let k : ℕ = w.1.0 in
      let less : k < length ns = w.1.1 in
      let at : (get_or ns k n).node ≡ v = ap (λ (m : NodeLine). m.node) w.1.2 ∙ eqb-true n.node v w.2 in
      let point = parted (λ a b d le within. compares_higher (get_or ns a d).node (get_or ns b d).node v (rising a b d le within)) in
      elim (cases_lt k i) [
        | inl before ↦ not_less (get_or ns k n).node v at (point.0 k n (omega arith) before)
        | inr after ↦ not_greater (get_or ns k n).node v at (point.1 k n after less)
      ]

  pub none_known : (v i : ℕ) → IsBinarySearchResult (λ n. nat_cmp n.node v) ns (Err i) → knows ns v ≡ false
  none_known v i parted = elim (cases_Bool (knows ns v)) [ inl there ↦ absurd (none_missed v i there parted) | inr not ↦ not ]
