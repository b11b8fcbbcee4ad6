-- Orders that wait stay in order, where one comes in or leaves.
use Rattle.std.proofs.Common.{◌≡◌, ◌⊎◌, ℕ, ◌+◌, ◌-◌, ◌<◌, ◌≤◌, List, [], ◌∷◌, ◌++◌, true, false, length, get_or, refl, sym, ◌∙◌, ap, subst, inl, inr, arith}
use Rattle.std.specs.List.{Contains, insert, remove}
use Rattle.std.specs.List.Sorted.{IsPermutation}
use Rattle.std.proofs.lemmas.Bool.{cases_eq, cases_lt}
use Rattle.std.proofs.lemmas.Bool.Decides.{nat_tests}
use Rattle.std.proofs.lemmas.List.{get_or_read}
use Rattle.std.proofs.lemmas.List.Edits.{insert_end, length-insert, length-remove, get_or-insert_below}
use Rattle.std.proofs.lemmas.List.Edits.{get_or-insert_at, get_or-insert_above, get_or-remove_below, get_or-remove_above}
use Rattle.std.proofs.lemmas.List.Elements.{Contains-append_cases, Contains-append_right}
use Rattle.std.proofs.lemmas.List.Quantifiers.{all_pairs_remove}
use Rattle.std.proofs.lemmas.List.Sorted.{IsPermutation-insert, IsPermutation-remove}
use Rattle.event_calendar.specs.declared.placed_order.PlacedOrder.{PlacedOrder}
use Rattle.event_calendar.specs.Waiting.{is_before, IsBefore, EntriesAreInOrder, IsAdded, IsRemoved}

pub same_entry : (x y : PlacedOrder) → x.tick ≡ y.tick → x.place ≡ y.place → x ≡ y
same_entry x y tick place =
    let by_tick : ◌≡◌ {A = PlacedOrder} x (record { tick = y.tick; place = x.place }) = ap (λ (t : ℕ). record { tick = t; place = x.place }) tick in
    let by_place : ◌≡◌ {A = PlacedOrder} (record { tick = y.tick; place = x.place }) y = ap (λ (p : ℕ). record { tick = y.tick; place = p }) place in
    ◌∙◌ {b = record { tick = y.tick; place = x.place }} by_tick by_place

pub before_by_test : (x y : PlacedOrder) → is_before x y ≡ true → IsBefore x y
before_by_test x y is = grind (arith, nat_tests)

pub after_by_test : (x y : PlacedOrder) → is_before x y ≡ false → (x ≡ y → ⊥) → IsBefore y x
after_by_test x y is apart =
    elim (cases_eq x.tick y.tick) [
      | inl tick ↦ elim (cases_eq x.place y.place) [
        | inl place ↦ absurd (apart (same_entry x y tick place))
        | inr other ↦ grind (arith, nat_tests)
      ]
      | inr other ↦ grind (arith, nat_tests)
    ]

not_before_itself : (x : PlacedOrder) → IsBefore x x → ⊥
not_before_itself x is = let less = is.place refl in omega arith

pub before_on : (x y z : PlacedOrder) → IsBefore x y → IsBefore y z → IsBefore x z
before_on x y z first second = omega (arith, first, second)

before_as : {x y u v : PlacedOrder} → x ≡ u → y ≡ v → IsBefore u v → IsBefore x y
before_as {x} {y} {u} {v} first second is = subst (λ (a : PlacedOrder). IsBefore a y) (sym first) (subst (λ (b : PlacedOrder). IsBefore u b) (sym second) is)

-- those below a place come before an order, and those from there on after it
abbrev pub AllBefore : List PlacedOrder → ℕ → PlacedOrder → Type 0
AllBefore xs at e = (k : ℕ) (d : PlacedOrder) → k < at → IsBefore (get_or xs k d) e

abbrev pub AllAfter : List PlacedOrder → ℕ → PlacedOrder → Type 0
AllAfter xs at e = (k : ℕ) (d : PlacedOrder) → at ≤ k → k < length xs → IsBefore e (get_or xs k d)

-- what is at a place after an order came in
abbrev Placed : List PlacedOrder → ℕ → PlacedOrder → ℕ → PlacedOrder → Type 0
Placed xs at e k d =
    let now : PlacedOrder = get_or (insert xs at e) k d in
    ((k < at) × (now ≡ get_or xs k d)) ⊎ (((k ≡ at) × (now ≡ e)) ⊎ ((at < k) × (now ≡ get_or xs (k - 1) d)))

placed : (xs : List PlacedOrder) (at : ℕ) (e : PlacedOrder) (k : ℕ) (d : PlacedOrder) → at ≤ length xs → Placed xs at e k d
placed xs at e k d within =
    elim (cases_lt k at) [
      | inl low ↦ inl (low, get_or-insert_below xs at e d k low within)
      | inr high ↦ elim (cases_eq k at) [
        | inl same ↦ inr (inl (same, ap (λ (n : ℕ). get_or (insert xs at e) n d) same ∙ get_or-insert_at xs at e d within))
        | inr other ↦
            let is : k ≡ k - 1 + 1 = omega arith in
            inr (inr (omega arith, ap (λ (n : ℕ). get_or (insert xs at e) n d) is ∙ get_or-insert_above xs at e d (k - 1) (omega arith) within))
      ]
    ]

pair_in_order : (xs : List PlacedOrder) (at i j : ℕ) (e d : PlacedOrder) → EntriesAreInOrder xs → AllBefore xs at e → AllAfter xs at e
    → at ≤ length xs → i < j → j ≤ length xs → Placed xs at e i d → Placed xs at e j d
    → IsBefore (get_or (insert xs at e) i d) (get_or (insert xs at e) j d)
pair_in_order xs at i j e d order before after within less below (inl a) (inl b) =
    before_as a.1 b.1 (order i j d less (omega (arith, a.0, b.0)))
pair_in_order xs at i j e d order before after within less below (inl a) (inr (inl b)) =
    before_as a.1 b.1 (before i d a.0)
pair_in_order xs at i j e d order before after within less below (inl a) (inr (inr b)) =
    before_as a.1 b.1 (order i (j - 1) d (omega (arith, a.0, b.0)) (omega (arith, b.0)))
pair_in_order xs at i j e d order before after within less below (inr (inl a)) (inl b) = absurd (omega (arith, a.0, b.0))
pair_in_order xs at i j e d order before after within less below (inr (inl a)) (inr (inl b)) = absurd (omega (arith, a.0, b.0))
pair_in_order xs at i j e d order before after within less below (inr (inl a)) (inr (inr b)) =
    before_as a.1 b.1 (after (j - 1) d (omega (arith, b.0)) (omega (arith, b.0)))
pair_in_order xs at i j e d order before after within less below (inr (inr a)) (inl b) = absurd (omega (arith, a.0, b.0))
pair_in_order xs at i j e d order before after within less below (inr (inr a)) (inr (inl b)) = absurd (omega (arith, a.0, b.0))
pair_in_order xs at i j e d order before after within less below (inr (inr a)) (inr (inr b)) =
    before_as a.1 b.1 (order (i - 1) (j - 1) d (omega (arith, a.0, b.0)) (omega (arith, b.0)))

in_order_with : (xs : List PlacedOrder) (at : ℕ) (e : PlacedOrder) → EntriesAreInOrder xs → AllBefore xs at e → AllAfter xs at e → at ≤ length xs
    → EntriesAreInOrder (insert xs at e)
in_order_with xs at e order before after within i j d less below =
    let size = length-insert xs at e within in
    pair_in_order xs at i j e d order before after within less (omega (arith, size)) (placed xs at e i d within) (placed xs at e j d within)

pub added : (xs ys : List PlacedOrder) (at more room : ℕ) (e : PlacedOrder) → EntriesAreInOrder xs → AllBefore xs at e → AllAfter xs at e → at ≤ length xs
    → ys ≡ insert xs at e → room ≤ more → IsAdded e (record { entries = xs; room = room }) (record { entries = ys; room = more })
added xs ys at more room e order before after within is grows = record {
  entries = subst (λ (zs : List PlacedOrder). IsPermutation (e ∷ xs) zs) (sym is) (IsPermutation-insert xs at e);
  order = subst EntriesAreInOrder (sym is) (in_order_with xs at e order before after within);
  room = grows;
}

gone : (xs : List PlacedOrder) (at : ℕ) (e : PlacedOrder) → at < length xs → get_or xs at e ≡ e → EntriesAreInOrder xs → Contains (remove xs at) e → ⊥
gone xs at e within is order c =
    let k : ℕ = c.0 in
    let size = length-remove xs at within in
    elim (cases_lt k at) [
      | inl low ↦
          let here : get_or xs k e ≡ e = sym (get_or-remove_below xs at e k low within) ∙ c.2 in
          not_before_itself e (before_as (sym here) (sym is) (order k at e low within))
      | inr high ↦
          let here : get_or xs (k + 1) e ≡ e = sym (get_or-remove_above xs at e k high within) ∙ c.2 in
          let before = order at (k + 1) e (omega arith) (omega (arith, size, c.1)) in
          not_before_itself e (before_as (sym is) (sym here) before)
    ]

pub removed : (xs ys : List PlacedOrder) (at more room : ℕ) (e : PlacedOrder) → EntriesAreInOrder xs → at < length xs → get_or xs at e ≡ e → ys
    ≡ remove xs at → room ≤ more
    → IsRemoved e (record { entries = xs; room = room }) (record { entries = ys; room = more })
removed xs ys at more room e order within here is grows = record {
  entries = subst (λ (zs : List PlacedOrder). IsPermutation xs (e ∷ zs)) (sym is) (IsPermutation-remove xs at e within (sym here));
  gone = λ c. gone xs at e within here order (subst (λ (zs : List PlacedOrder). Contains zs e) is c);
  order = subst EntriesAreInOrder (sym is) (all_pairs_remove IsBefore xs at within order);
  room = grows;
}

-- what is among one order and others
pub one_or_other : (x e : PlacedOrder) (xs : List PlacedOrder) → Contains (x ∷ xs) e → (x ≡ e) ⊎ Contains xs e
one_or_other x e xs c = elim (Contains-append_cases (x ∷ []) xs e c) [
  | inl first ↦ let zero : 0 ≡ first.0 = omega (arith, first.1) in inl (subst (λ (k : ℕ). get_or (x ∷ []) k e ≡ e) (sym zero) first.2)
  | inr later ↦ inr later
]

pub the_one : (x : PlacedOrder) (xs : List PlacedOrder) → Contains (x ∷ xs) x
the_one x xs = (0, omega arith, refl)

pub the_other : (x e : PlacedOrder) (xs : List PlacedOrder) → Contains xs e → Contains (x ∷ xs) e
the_other x e xs c = Contains-append_right (x ∷ []) xs e c

-- the scan from the back: an order that comes before the new one, and all before that do
pub all_before : (xs : List PlacedOrder) (at : ℕ) (last e : PlacedOrder) → EntriesAreInOrder xs → 0 < at → at ≤ length xs → last ≡ get_or xs (at - 1) last
    → is_before last e ≡ true → AllBefore xs at e
all_before xs at last e order some within is test k d less =
    let read : last ≡ get_or xs (at - 1) d = get_or_read xs (at - 1) last (omega arith) is d in
    let before : IsBefore (get_or xs (at - 1) d) e = subst (λ (y : PlacedOrder). IsBefore y e) read (before_by_test last e test) in
    elim (cases_eq k (at - 1)) [
      | inl same ↦ subst (λ (n : ℕ). IsBefore (get_or xs n d) e) (sym same) before
      | inr other ↦ before_on (get_or xs k d) (get_or xs (at - 1) d) e (order k (at - 1) d (omega arith) (omega arith)) before
    ]

-- and one that does not comes after it
pub all_after : (xs : List PlacedOrder) (at : ℕ) (last e : PlacedOrder) → (Contains xs e → ⊥) → 0 < at → at ≤ length xs → last ≡ get_or xs (at - 1) last
    → is_before last e ≡ false → AllAfter xs at e → AllAfter xs (at - 1) e
all_after xs at last e apart some within is test after k d low below =
    elim (cases_eq k (at - 1)) [
      | inl same ↦
          let read : last ≡ get_or xs (at - 1) d = get_or_read xs (at - 1) last (omega arith) is d in
          let other : last ≡ e → ⊥ = λ eq. apart (at - 1, omega arith, sym (get_or_read xs (at - 1) last (omega arith) is e) ∙ eq) in
          subst (λ (n : ℕ). IsBefore e (get_or xs n d)) (sym same) (subst (λ (y : PlacedOrder). IsBefore e y) read (after_by_test last e test other))
      | inr other ↦ after k d (omega arith) below
    ]

pub at_end : (xs items ys : List PlacedOrder) (at : ℕ) (e : PlacedOrder) → items ≡ xs → ys ≡ items ++ e ∷ [] → at ≡ length xs → ys ≡ insert xs at e
at_end xs items ys at e same is last = is ∙ ap (λ (l : List PlacedOrder). l ++ e ∷ []) same ∙ sym (insert_end xs e) ∙ ap (λ (n : ℕ). insert xs n e) (sym last)
