-- Masks of the nodes that receive a transmission.
use Rattle.std.proofs.Common.{◌≡◌, ℕ, ◌<◌, ◌↔◌, List, Bool, take, drop, bit_or, ◌+◌, subst, Contains, AllPairs, Ok, Err}
use Rattle.std.proofs.Common.{inl, inr, true, false, not, ◌&&◌, ◌||◌, ◌==◌, ap, length, get_or, nat_lt, refl, sym, ◌∙◌, arith}
use Rattle.std.proofs.lemmas.Bool.Decides.{nat_tests}
use Rattle.std.proofs.lemmas.Bool.{lt-ltb, false≢true, eqb-true, eq-eqb, cases_order, cases_lt}
use Rattle.std.proofs.lemmas.List.Sorted.{searched}
use Rattle.std.specs.List.Sorted.{IsBinarySearchResult}
use Rattle.std.specs.Ordering.{nat_cmp}
use Rattle.lwb_base.proofs.Orders.{rising}
use Rattle.std.proofs.lemmas.List.{get_or_default, take-append-drop}
use Rattle.std.proofs.lemmas.List.Folds.{list_any-append}
use Rattle.std.specs.Int.{bit_at}
use Rattle.std.specs.List.{list_any}
use Rattle.std.proofs.lemmas.Nat.Bits.{bit_at-zero}
use Rattle.lwb_base.proofs.Truths.{one_if, of_bit}
use Rattle.link_trace.specs.Masks.{IsMask}
use Rattle.radio_model.specs.OnAir.{Sending}
use Rattle.radio_model.specs.Reaches.{IsAmong}
use Rattle.link_trace.proofs.MaskBits.{empty_mask, same_tests, one_more_line}

set_if : (b : Bool) (n : ℕ) → n ≡ one_if b → (n ≡ 1) ↔ (b ≡ true)
set_if true n is = (λ one. refl, λ so. is)
set_if false n is = (λ one. absurd (omega (arith, is, one)), λ so. absurd (false≢true so))

-- what the first k settle stays
any_more : (test : Sending → Bool) (near : List Sending) (k : ℕ) → list_any test near ≡ (list_any test (take k near) || list_any test (drop k near))
any_more test near k = ap (list_any test) (sym (take-append-drop k near)) ∙ list_any-append test (take k near) (drop k near)

none_left : (n a b c l m : Bool) → one_if (n && (a && not b && not l)) ≡ 0 → one_if (n && (a && not (b || c) && not (l || m))) ≡ 0
none_left n a b c l m so = grind (arith, nat_tests)

pub unless_lost : (free mixed chosen : Bool) → (free && not (mixed && not chosen)) ≡ (free && (not mixed || chosen))
unless_lost free mixed chosen = grind (arith, nat_tests)

module _ (nodes : List ℕ) where
  -- the bit of a node says whether the test holds of it
  bit_says : (test : ℕ → Bool) (mask i : ℕ) → i < length nodes → IsMask test nodes mask → (bit_at mask i ≡ 1) ↔ (test (get_or nodes i 0) ≡ true)
  bit_says test mask i inside is = set_if (test (get_or nodes i 0)) (bit_at mask i) (is i ∙ rw (lt-ltb i (length nodes) inside) refl)

  -- the test holds of the nodes of its mask
  pub passes_test : (test : ℕ → Bool) (mask v : ℕ) → IsMask test nodes mask → IsAmong nodes mask v → test v ≡ true
  passes_test test mask v is among =
      subst (λ (u : ℕ). test u ≡ true) among.node ((bit_says test mask among.place among.below is).0 among.set)

  pub among_test : (test : ℕ → Bool) (mask v : ℕ) → IsMask test nodes mask → Contains nodes v → test v ≡ true → IsAmong nodes mask v
  among_test test mask v is (k, below, at) so =
      let here : get_or nodes k 0 ≡ v = get_or_default nodes k 0 v below ∙ at in
      record {
        place = k;
        below = below;
        node = here;
        set = (bit_says test mask k below is).1 (subst (λ (u : ℕ). test u ≡ true) (sym here) so);
      }

  pub bit_tests : (test : ℕ → Bool) (mask i : ℕ) → i < length nodes → IsMask test nodes mask → (bit_at mask i == 1) ≡ test (get_or nodes i 0)
  bit_tests test mask i inside is =
      ap (λ (n : ℕ). n == 1) (is i ∙ rw (lt-ltb i (length nodes) inside) refl) ∙ of_bit (test (get_or nodes i 0))

  -- what one transmission more does to the nodes
  pub one_more_near : (test : ℕ → Sending → Bool) (near : List Sending) (k : ℕ) (y : Sending) (a b new : ℕ) → k < length near → y ≡ get_or near k y
      → new ≡ bit_or a b
      → IsMask (λ v. list_any (test v) (take k near)) nodes a → IsMask (λ v. test v y) nodes b
      → IsMask (λ v. list_any (test v) (take (k + 1) near)) nodes new
  one_more_near test near k y a b new inside at both so_far here =
      subst (λ (n : ℕ). IsMask (λ v. list_any (test v) (take (k + 1) near)) nodes n) (sym both)
      (one_more_line nodes test near k y a b inside so_far (subst (λ (z : Sending). IsMask (λ v. test v z) nodes b) at here))

  -- a test before that of the nodes holds
  pub opened : (b : Bool) (test : ℕ → Bool) (mask : ℕ) → b ≡ true → IsMask test nodes mask → IsMask (λ v. b && test v) nodes mask
  opened b test mask so is = same_tests nodes test (λ v. b && test v) mask (λ v. rw so refl) is

  -- and it doesn't
  pub shut : (b : Bool) (test : ℕ → Bool) → b ≡ false → IsMask (λ v. b && test v) nodes 0
  shut b test not_so = same_tests nodes (λ v. false) (λ v. b && test v) 0 (λ v. rw not_so refl) (empty_mask nodes)

  -- where the first k leave no node
  pub left_by_none : (kept : ℕ → Bool) (busy late : ℕ → Sending → Bool) (near : List Sending) (k mask : ℕ) → mask ≡ 0
      → IsMask (λ v. kept v && not (list_any (busy v) (take k near)) && not (list_any (late v) (take k near))) nodes mask
      → IsMask (λ v. kept v && not (list_any (busy v) near) && not (list_any (late v) near)) nodes 0
  left_by_none kept busy late near k mask none is i =
      let v = get_or nodes i 0 in
      bit_at-zero i ∙ sym (rw (any_more (busy v) near k, any_more (late v) near k)
      (none_left (nat_lt i (length nodes)) (kept v) (list_any (busy v) (take k near)) (list_any (busy v) (drop k near)) (list_any (late v) (take k near))
      (list_any (late v) (drop k near)) (sym (is i) ∙ ap (λ (n : ℕ). bit_at n i) none ∙ bit_at-zero i)))

  -- where no node is in the mask
  pub none_lost : (test other : ℕ → Bool) (mask : ℕ) → mask ≡ 0 → IsMask test nodes mask → IsMask (λ v. test v && other v) nodes 0
  none_lost test other mask none is i =
      bit_at-zero i ∙ sym (unset (nat_lt i (length nodes)) (test (get_or nodes i 0)) (other (get_or nodes i 0))
      (sym (is i) ∙ ap (λ (n : ℕ). bit_at n i) none ∙ bit_at-zero i))
    where
      unset : (a b c : Bool) → one_if (a && b) ≡ 0 → one_if (a && (b && c)) ≡ 0
      unset a b c so = grind (arith, nat_tests)

-- what a search for a node says of a mask
module _ (nodes : List ℕ) (ascending : AllPairs (λ a b. a < b) nodes) (v mask i : ℕ) where
  pub found_among : i < length nodes → IsBinarySearchResult (λ y. nat_cmp y v) nodes (Ok i) → (bit : Bool) → bit ≡ (bit_at mask i == 1)
      → (bit ≡ true) ↔ IsAmong nodes mask v
  found_among below found bit is =
      let at = searched nodes v (Ok i) found (rising nodes ascending) in (
        λ so. record { place = i; below = below; node = at.1; set = eqb-true (bit_at mask i) 1 (sym is ∙ so) },
        λ among. is ∙ eq-eqb (bit_at mask i) 1 (subst (λ (k : ℕ). bit_at mask k ≡ 1) (one_place among.place among.below (among.node ∙ sym at.1)) among.set),
      )
    where
      one_place : (k : ℕ) → k < length nodes → get_or nodes k 0 ≡ get_or nodes i 0 → k ≡ i
      one_place k near same = elim (cases_order k i) [
        | inl here ↦ here
        | inr (inl before) ↦ absurd (omega (arith, ascending k i 0 before below, same))
        | inr (inr after) ↦ absurd (omega (arith, ascending i k 0 after near, same))
      ]

  pub none_among : IsBinarySearchResult (λ y. nat_cmp y v) nodes (Err i) → IsAmong nodes mask v → ⊥
  none_among parted among =
      let at = searched nodes v (Err i) parted (rising nodes ascending) in
      let k = among.place in
      let node = among.node in
      elim (cases_lt k i) [
        | inl before ↦ omega (arith, at.1 k before, node)
        | inr after ↦ omega (arith, at.2 k after among.below, node)
      ]
