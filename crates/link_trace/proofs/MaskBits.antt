-- Masks of nodes bit by bit: one more node, one node alone, both masks together, and one without the other.
use Rattle.std.proofs.Common.{◌≡◌, ◌≢◌, ℕ, ◌+◌, ◌-◌, ◌<◌, min, max, List, Bool, true, false, not, ◌||◌, ◌&&◌, ◌==◌, nat_lt}
use Rattle.std.proofs.Common.{length, get_or, take, bit_and, bit_or, Ok, Err, refl, sym, ◌∙◌, ap, arith, inl, inr}
use Rattle.std.proofs.lemmas.Bool.{cases_lt, cases_eq, lt-ltb, le-ltb, eq-eqb, ne_eqb}
use Rattle.std.proofs.lemmas.List.Folds.{list_any_more}
use Rattle.std.specs.List.{list_any, AllPairs}
use Rattle.std.proofs.lemmas.Bool.Decides.{nat_tests}
use Rattle.std.proofs.lemmas.Nat.Bits.{bit_at_and, bit_at_or, bit_at-zero, bit_at-lt}
use Rattle.std.proofs.lemmas.List.Sorted.{searched}
use Rattle.std.specs.List.Sorted.{IsBinarySearchResult}
use Rattle.std.specs.Ordering.{nat_cmp}
use Rattle.std.specs.Int.{bit_at}
use Rattle.lwb_base.proofs.Truths.{one_if}
use Rattle.lwb_base.proofs.Orders.{rising}
use Rattle.link_trace.specs.Masks.{IsMask, IsMaskAmong, IsMaskUpto}

either : (a b : Bool) → max (one_if a) (one_if b) ≡ one_if (a || b)
either a b = grind (arith, nat_tests)

without : (a b : Bool) → min (one_if a) (1 - one_if b) ≡ one_if (a && not b)
without a b = grind (arith, nat_tests)

spread : (n a b : Bool) → ((n && a) || (n && b)) ≡ (n && (a || b))
spread n a b = grind (arith, nat_tests)

less : (n a b : Bool) → ((n && a) && not (n && b)) ≡ (n && (a && not b))
less n a b = grind (arith, nat_tests)

both : (a b : Bool) → min (one_if a) (one_if b) ≡ one_if (a && b)
both a b = grind (arith, nat_tests)

shared : (n a b : Bool) → ((n && a) && (n && b)) ≡ (n && (a && b))
shared n a b = grind (arith, nat_tests)

asked : (e n a b : Bool) → max (one_if (e && (n && a))) (one_if (e && (n && b))) ≡ one_if (e && (n && (a || b)))
asked e n a b = grind (arith, nat_tests)

set_so : (n p : Bool) → one_if (n && p) ≡ 1 → p ≡ true
set_so n p is = grind (arith, nat_tests)

unset_so : (n p : Bool) → n ≡ true → one_if (n && p) ≡ 0 → p ≡ false
unset_so n p inside is = grind (arith, nat_tests)

nothing : (b : Bool) → one_if (b && false) ≡ 0
nothing true = refl
nothing false = refl

module _ (nodes : List ℕ) where
  pub empty_mask : IsMask (λ u. false) nodes 0
  empty_mask i = bit_at-zero i ∙ sym (nothing (nat_lt i (length nodes)))

  pub joined : (p q : ℕ → Bool) (a b : ℕ) → IsMask p nodes a → IsMask q nodes b → IsMask (λ u. p u || q u) nodes (bit_or a b)
  joined p q a b a_is b_is i =
      let u = get_or nodes i 0 in
      let n = nat_lt i (length nodes) in
      bit_at_or a b i ∙ rw (a_is i, b_is i) (either (n && p u) (n && q u)) ∙ ap one_if (spread n (p u) (q u))

  pub same_tests : (p q : ℕ → Bool) (a : ℕ) → ((u : ℕ) → p u ≡ q u) → IsMask p nodes a → IsMask q nodes a
  same_tests p q a same is i = is i ∙ ap (λ (b : Bool). one_if (nat_lt i (length nodes) && b)) (same (get_or nodes i 0))

  -- those of a that are not in b
  pub left_out : (p q : ℕ → Bool) (a b new : ℕ) → ((i : ℕ) → bit_at new i ≡ min (bit_at a i) (1 - bit_at b i)) → IsMask p nodes a → IsMask q nodes b
      → IsMask (λ u. p u && not (q u)) nodes new
  left_out p q a b new bits a_is b_is i =
      let u = get_or nodes i 0 in
      let n = nat_lt i (length nodes) in
      bits i ∙ rw (a_is i, b_is i) (without (n && p u) (n && q u)) ∙ ap one_if (less n (p u) (q u))

  -- those that are in both
  pub in_both : (p q : ℕ → Bool) (a b : ℕ) → IsMask p nodes a → IsMask q nodes b → IsMask (λ u. p u && q u) nodes (bit_and a b)
  in_both p q a b a_is b_is i =
      let u = get_or nodes i 0 in
      let n = nat_lt i (length nodes) in
      bit_at_and a b i ∙ rw (a_is i, b_is i) (both (n && p u) (n && q u)) ∙ ap one_if (shared n (p u) (q u))

  -- those of a set
  pub in_set : (p : ℕ → Bool) (a b : ℕ) → IsMask p nodes a → IsMaskAmong p nodes b (bit_and a b)
  in_set p a b a_is i =
      let t = nat_lt i (length nodes) && p (get_or nodes i 0) in
      bit_at_and a b i ∙ rw (a_is i) (kept t (bit_at b i) (bit_at-lt b i))
    where
      kept : (t : Bool) (b : ℕ) → b < 2 → min (one_if t) b ≡ one_if ((b == 1) && t)
      kept t b small = grind (arith, nat_tests)

  -- a node whose bit is not set
  pub if_unset : (p : ℕ → Bool) (a : ℕ) → IsMask p nodes a → (i : ℕ) → i < length nodes → bit_at a i ≡ 0 → p (get_or nodes i 0) ≡ false
  if_unset p a is i inside none = unset_so (nat_lt i (length nodes)) (p (get_or nodes i 0)) (lt-ltb i (length nodes) inside) (sym (is i) ∙ none)

  -- of those of a set: none, and both masks together
  pub none_among : (among : ℕ) → IsMaskAmong (λ u. false) nodes among 0
  none_among among i =
      let e = bit_at among i == 1 in
      let n = nat_lt i (length nodes) in
      bit_at-zero i ∙ sym (ap (λ (b : Bool). one_if (e && b)) (second n) ∙ nothing e)
    where
      second : (b : Bool) → (b && false) ≡ false
      second true = refl
      second false = refl

  pub joined_among : (p q : ℕ → Bool) (among a b : ℕ) → IsMaskAmong p nodes among a → IsMaskAmong q nodes among b
      → IsMaskAmong (λ u. p u || q u) nodes among (bit_or a b)
  joined_among p q among a b a_is b_is i =
      let u = get_or nodes i 0 in
      let n = nat_lt i (length nodes) in
      bit_at_or a b i ∙ rw (a_is i, b_is i) (asked (bit_at among i == 1) n (p u) (q u))

  pub same_among : (p q : ℕ → Bool) (among a : ℕ) → ((u : ℕ) → p u ≡ q u) → IsMaskAmong p nodes among a → IsMaskAmong q nodes among a
  same_among p q among a same is i =
      is i ∙ ap (λ (b : Bool). one_if ((bit_at among i == 1) && (nat_lt i (length nodes) && b))) (same (get_or nodes i 0))

  -- what a bit tells of a node, if the node was asked for
  pub set_among : (p : ℕ → Bool) (among a : ℕ) → IsMaskAmong p nodes among a → (i : ℕ) → bit_at a i ≡ 1 → p (get_or nodes i 0) ≡ true
  set_among p among a is i one =
      let n = nat_lt i (length nodes) in
      let t = p (get_or nodes i 0) in
      set_so n t (ap one_if (set_so (bit_at among i == 1) (n && t) (sym (is i) ∙ one)))

  pub unset_among : (p : ℕ → Bool) (among a : ℕ) → IsMaskAmong p nodes among a → (i : ℕ) → i < length nodes → bit_at among i ≡ 1 → bit_at a i ≡ 0
      → p (get_or nodes i 0) ≡ false
  unset_among p among a is i inside there none =
      let n = nat_lt i (length nodes) in
      let t = p (get_or nodes i 0) in
      unset_so n t (lt-ltb i (length nodes) inside)
      (ap one_if (unset_so (bit_at among i == 1) (n && t) (ap (λ (b : ℕ). b == 1) there) (sym (is i) ∙ none)))

  -- no node
  pub none : (v : ℕ) → ((k : ℕ) → k < length nodes → v ≢ get_or nodes k 0) → IsMask (λ u. v == u) nodes 0
  none v absent k = bit_at-zero k ∙ sym (elim (cases_lt k (length nodes)) [
    | inl near ↦ rw (ne_eqb v (get_or nodes k 0) (absent k near)) (nothing (nat_lt k (length nodes)))
    | inr far ↦ rw (le-ltb k (length nodes) far) refl
  ])

  -- what one more line names
  pub one_more_line : {L : Type 0} (names : ℕ → L → Bool) (ls : List L) (i : ℕ) (d : L) (a b : ℕ) → i < length ls
      → IsMask (λ u. list_any (names u) (take i ls)) nodes a → IsMask (λ u. names u (get_or ls i d)) nodes b
      → IsMask (λ u. list_any (names u) (take (i + 1) ls)) nodes (bit_or a b)
  one_more_line names ls i d a b inside a_is b_is =
      same_tests (λ u. list_any (names u) (take i ls) || names u (get_or ls i d)) (λ u. list_any (names u) (take (i + 1) ls)) (bit_or a b)
      (λ u. sym (list_any_more (names u) ls i d inside)) (joined (λ u. list_any (names u) (take i ls)) (λ u. names u (get_or ls i d)) a b a_is b_is)

  -- node i alone
  pub only : AllPairs (λ a b. a < b) nodes → (i v new : ℕ) → i < length nodes → get_or nodes i 0 ≡ v → bit_at new i ≡ 1
      → ((k : ℕ) → k ≢ i → bit_at new k ≡ bit_at 0 k) → IsMask (λ u. v == u) nodes new
  only ascending i v new inside here set others k =
      elim (cases_eq k i) [
        | inl same ↦ rw (same, lt-ltb i (length nodes) inside, here, eq-eqb v v refl) set
        | inr other ↦ others k other ∙ bit_at-zero k ∙ sym (no_other k other)
      ]
    where
      differs : (k : ℕ) → k ≢ i → k < length nodes → v ≢ get_or nodes k 0
      differs k other near same = elim (cases_lt k i) [
        | inl before ↦ omega (arith, ascending k i 0 before inside)
        | inr after ↦ omega (arith, ascending i k 0 (omega arith) near)
      ]

      no_other : (k : ℕ) → k ≢ i → one_if (nat_lt k (length nodes) && (v == get_or nodes k 0)) ≡ 0
      no_other k other = elim (cases_lt k (length nodes)) [
        | inl near ↦ rw (ne_eqb v (get_or nodes k 0) (differs k other near)) (nothing (nat_lt k (length nodes)))
        | inr far ↦ rw (le-ltb k (length nodes) far) refl
      ]

  module _ (p : ℕ → Bool) (i mask : ℕ) (is : IsMaskUpto p nodes i mask) where
    one_more_bit : (k : ℕ) (b : Bool) → p (get_or nodes i 0) ≡ b → k ≢ i
        → one_if (nat_lt k i && p (get_or nodes k 0)) ≡ one_if (nat_lt k (i + 1) && p (get_or nodes k 0))
    one_more_bit k b here other = ap (λ (c : Bool). one_if (c && p (get_or nodes k 0))) (lower k other)
      where
        lower : (k : ℕ) → k ≢ i → nat_lt k i ≡ nat_lt k (i + 1)
        lower k other = grind (arith, nat_tests)

    within : nat_lt i (i + 1) ≡ true
    within = lt-ltb i (i + 1) (omega arith)

    beyond : nat_lt i i ≡ false
    beyond = grind (arith, nat_tests)

    -- with node i
    pub one_with : (new : ℕ) → bit_at new i ≡ 1 → ((k : ℕ) → k ≢ i → bit_at new k ≡ bit_at mask k) → p (get_or nodes i 0) ≡ true
        → IsMaskUpto p nodes (i + 1) new
    one_with new set others here k = elim (cases_eq k i) [
      | inl same ↦ rw (same, within, here) set
      | inr other ↦ others k other ∙ is k ∙ one_more_bit k true here other
    ]

    -- and without it
    pub one_without : p (get_or nodes i 0) ≡ false → IsMaskUpto p nodes (i + 1) mask
    one_without here k = elim (cases_eq k i) [
      | inl same ↦ rw same (is i ∙ rw (beyond, within, here) refl)
      | inr other ↦ is k ∙ one_more_bit k false here other
    ]

-- what a search for a node finds
pub found_only : (nodes : List ℕ) → AllPairs (λ a b. a < b) nodes → (v i new : ℕ) → i < length nodes → bit_at new i ≡ 1
    → ((k : ℕ) → k ≢ i → bit_at new k ≡ bit_at 0 k) → IsBinarySearchResult (λ y. nat_cmp y v) nodes (Ok i) → IsMask (λ u. v == u) nodes new
found_only nodes ascending v i new inside set others found =
    let at = searched nodes v (Ok i) found (rising nodes ascending) in
    only nodes ascending i v new inside at.1 set others

pub found_none : (nodes : List ℕ) → AllPairs (λ a b. a < b) nodes → (v i : ℕ) → IsBinarySearchResult (λ y. nat_cmp y v) nodes (Err i)
    → IsMask (λ u. v == u) nodes 0
found_none nodes ascending v i parted =
    let at = searched nodes v (Err i) parted (rising nodes ascending) in
    none nodes v (λ k near same. elim (cases_lt k i) [ inl before ↦ omega (arith, at.1 k before) | inr after ↦ omega (arith, at.2 k after near) ])
