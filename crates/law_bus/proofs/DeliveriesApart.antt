-- Lists of deliveries in which no two are of one frame, rank, slot and node.
use Rattle.std.proofs.Common.{◌≡◌, ◌+◌, List, [], ◌∷◌, Bool, true, false, not, ◌&&◌, cond, filter, inl, inr, Contains, get_or, refl, sym, ◌∙◌, ap, subst, arith}
use Rattle.std.proofs.Common.{true≢false}
use Rattle.std.specs.Prelude.{◌⊎◌}
use Rattle.std.specs.List.{AllByRecursion}
use Rattle.std.specs.List.Sorted.{IsSortedBy, ties}
use Rattle.std.proofs.lemmas.Bool.{cases_Bool}
use Rattle.bus_rules.specs.declared.delivery.Delivery.{Delivery}
use Rattle.air_log.specs.Deliveries.{delivery_comes_before}
use Rattle.lwb_base.specs.Sorting.{in_order}
use Rattle.air_log.proofs.DeliveryOrder.{Before, SamePlace, is_order, tied_place}
use Rattle.lwb_base.proofs.Elements.{not_in_none, contains_cases, contains_head, in_filtered, filtered}
use Rattle.lwb_base.proofs.Truths.{both_not}
use Rattle.lwb_base.proofs.StableSorts.{sorted_by_insertion}
use Rattle.bus_terms.proofs.ListsInTurn.{in_turn_pairs}
use Rattle.scenario_text.specs.FloodDrafts.{Climbs}

abbrev pub Apart : Delivery → Delivery → Type 0
Apart a b = ties delivery_comes_before a b ≡ false

pub places_apart : (a b : Delivery) → (SamePlace a b → ⊥) → Apart a b
places_apart a b other = elim (cases_Bool (ties delivery_comes_before a b)) [ inl tied ↦ absurd (other (tied_place a b tied)) | inr apart ↦ apart ]

pub before_apart : (a b : Delivery) → Before a b → Apart a b
before_apart a b is = ap (λ (x : Bool). not x && not (delivery_comes_before b a)) is

-- of what is apart one at most ties with z
tied_so : (z x y : Delivery) → ties delivery_comes_before z x ≡ true → Apart x y → (b : Bool) → ties delivery_comes_before z y ≡ b → b ≡ false
tied_so z x y first apart false is = refl
tied_so z x y first apart true is =
    let one = tied_place z x first in
    let two = tied_place z y is in
    let so = both_not (delivery_comes_before z x) (delivery_comes_before x z) first in
    let then_ = both_not (delivery_comes_before z y) (delivery_comes_before y z) is in
    let up : delivery_comes_before x y ≡ false = is_order.chain x z y so.1 then_.0 in
    let down : delivery_comes_before y x ≡ false = is_order.chain y z x then_.1 so.0 in
    absurd (true≢false (ap (λ (c : Bool). not c && not false) (sym up) ∙ ap (λ (c : Bool). not (delivery_comes_before x y) && not c) (sym down) ∙ apart))

none_tied : (z : Delivery) (xs : List Delivery) → AllByRecursion (λ y. ties delivery_comes_before z y ≡ false) xs
    → filter (ties delivery_comes_before z) xs ≡ []
none_tied z [] all = refl
none_tied z (x ∷ xs) all =
    ap (λ (b : Bool). cond b (x ∷ filter (ties delivery_comes_before z) xs) (filter (ties delivery_comes_before z) xs)) all.0 ∙ none_tied z xs all.1

all_so : (z x : Delivery) → ties delivery_comes_before z x ≡ true → (xs : List Delivery) → AllByRecursion
    (Apart x) xs → AllByRecursion (λ y. ties delivery_comes_before z y ≡ false) xs
all_so z x tied [] all = tt
all_so z x tied (y ∷ xs) all = (tied_so z x y tied all.0 (ties delivery_comes_before z y) refl, all_so z x tied xs all.1)

abbrev OneOrNone : List Delivery → Type 0
OneOrNone xs = (xs ≡ []) ⊎ ((a : Delivery) × (xs ≡ a ∷ []))

one_tied : (z : Delivery) (xs : List Delivery) → Climbs Apart xs → OneOrNone (filter (ties delivery_comes_before z) xs)
one_tied z [] turn = inl refl
one_tied z (x ∷ xs) turn =
    elim (cases_Bool (ties delivery_comes_before z x)) [
      | inl tied ↦ inr (
        x,
        ap (λ (b : Bool). cond b (x ∷ filter (ties delivery_comes_before z) xs) (filter (ties delivery_comes_before z) xs)) tied
            ∙ ap (λ (l : List Delivery). x ∷ l) (none_tied z xs (all_so z x tied xs turn.0)),
      )
      | inr other ↦
          subst OneOrNone (sym (ap (λ (b : Bool). cond b (x ∷ filter (ties delivery_comes_before z) xs) (filter (ties delivery_comes_before z) xs)) other))
          (one_tied z xs turn.1)
    ]

only_one : (a b : Delivery) → Contains (b ∷ []) a → a ≡ b
only_one a b there = elim (contains_cases b [] a there) [ inl same ↦ sym same | inr none ↦ absurd (not_in_none a none) ]

-- a list in turn is what another with the same elements is in order
module _ (xs ys : List Delivery) (apart : Climbs Apart xs) (turn : Climbs Before ys)
    (there : (d : Delivery) → Contains xs d → Contains ys d) (here : (d : Delivery) → Contains ys d → Contains xs d) where
  each_apart : (zs : List Delivery) (x : Delivery) → AllByRecursion (Before x) zs → AllByRecursion (Apart x) zs
  each_apart [] x all = tt
  each_apart (z ∷ zs) x all = (before_apart x z all.0, each_apart zs x all.1)

  turn_apart : (zs : List Delivery) → Climbs Before zs → Climbs Apart zs
  turn_apart [] all = tt
  turn_apart (z ∷ zs) all = (each_apart zs z all.0, turn_apart zs all.1)

  tied : (z d : Delivery) (zs : List Delivery) → Contains zs d → ties delivery_comes_before z d ≡ true → Contains (filter (ties delivery_comes_before z) zs) d
  tied z d zs within is = in_filtered (ties delivery_comes_before z) zs d within is

  moved : (z d : Delivery) (us ws : List Delivery) → ((e : Delivery) → Contains us e → Contains ws e) → Contains (filter (ties delivery_comes_before z) us) d
      → Contains (filter (ties delivery_comes_before z) ws) d
  moved z d us ws all within = let so = filtered (ties delivery_comes_before z) us d within in tied z d ws (all d so.0) so.1

  same_ties : (z : Delivery) → filter (ties delivery_comes_before z) ys ≡ filter (ties delivery_comes_before z) xs
  same_ties z = by_lists (filter (ties delivery_comes_before z) ys) (filter (ties delivery_comes_before z) xs) refl refl
      (one_tied z ys (turn_apart ys turn)) (one_tied z xs apart)
    where
      by_lists : (us ws : List Delivery) → filter (ties delivery_comes_before z) ys ≡ us → filter (ties delivery_comes_before z) xs ≡ ws → OneOrNone us
          → OneOrNone ws → us ≡ ws
      by_lists us ws at also (inl none) (inl nothing) = none ∙ sym nothing
      by_lists us ws at also (inl none) (inr one) =
          absurd (not_in_none one.0 (subst (λ (l : List Delivery). Contains l one.0) (at ∙ none)
          (moved z one.0 xs ys there (subst (λ (l : List Delivery). Contains l one.0) (sym (also ∙ one.1)) (contains_head one.0 [])))))
      by_lists us ws at also (inr one) (inl none) =
          absurd (not_in_none one.0 (subst (λ (l : List Delivery). Contains l one.0) (also ∙ none)
          (moved z one.0 ys xs here (subst (λ (l : List Delivery). Contains l one.0) (sym (at ∙ one.1)) (contains_head one.0 [])))))
      by_lists us ws at also (inr one) (inr other) =
          (let within = subst (λ (l : List Delivery). Contains l one.0) (also ∙ other.1)
          (moved z one.0 ys xs here (subst (λ (l : List Delivery). Contains l one.0) (sym (at ∙ one.1)) (contains_head one.0 []))) in
          one.1 ∙ ap (λ (d : Delivery). d ∷ []) (only_one one.0 other.0 within) ∙ sym other.1)

  sorted : IsSortedBy delivery_comes_before ys
  sorted k d from less = is_order.one_way (get_or ys k d) (get_or ys (k + 1) d) (in_turn_pairs Before ys turn k (k + 1) d (omega arith) (omega (arith, less)))

  pub put_in_order : ys ≡ in_order delivery_comes_before xs
  put_in_order = sorted_by_insertion delivery_comes_before is_order xs ys sorted same_ties
