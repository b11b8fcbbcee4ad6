-- What a stable sort leaves is the list by insertion: the same elements, in order.
use Rattle.std.proofs.Common.{◌≡◌, ℕ, suc, ◌+◌, Bool, true, false, cond, not, ◌&&◌, if◌then◌else◌, List, []}
use Rattle.std.proofs.Common.{◌∷◌, map, refl, sym, ap, subst, ◌∙◌, arith}
use Rattle.std.specs.Bool.{⊤}
use Rattle.std.specs.Cmp.{IsStrictWeakOrder}
use Rattle.std.specs.List.{filter, AllByRecursion}
use Rattle.std.specs.List.Sorted.{IsPermutation, IsSortedBy, IsStableBy, ties}
use native.Mathlib.Numerals.{unary_clauses}
use lib.ListN.{get_or}
use Rattle.std.proofs.lemmas.Bool.{cond_both, true≢false}
use Rattle.std.proofs.lemmas.List.Elements.{recursion_from_All}
use Rattle.std.proofs.lemmas.List.Sorted.{sorted_far, IsPermutation-refl, IsPermutation-cons, IsPermutation-trans, IsPermutation-append_comm}
use Rattle.std.proofs.lemmas.List.Sorted.{IsPermutation-append_left}
use Rattle.lwb_base.proofs.Truths.{both_not}
use Rattle.lwb_base.specs.Sorting.{with_inserted, in_order}
use Rattle.lwb_base.proofs.Lists.{each_more}

-- insertion of images
module _ {X Y : Type 0} (g : X → Y) (before : Y → Y → Bool) where
  map-cond : (b : Bool) (us vs : List X) → map g (cond b us vs) ≡ cond b (map g us) (map g vs)
  map-cond true us vs = refl
  map-cond false us vs = refl

  map-placed : (x : X) (xs : List X) → map g (with_inserted (λ a b. before (g a) (g b)) x xs) ≡ with_inserted before (g x) (map g xs)
  map-placed x [] = refl
  map-placed x (y ∷ ys) = rw (map-cond (before (g y) (g x)) (y ∷ with_inserted (λ a b. before (g a) (g b)) x ys) (x ∷ y ∷ ys), map-placed x ys) refl

  pub map-in_order : (xs : List X) → map g (in_order (λ a b. before (g a) (g b)) xs) ≡ in_order before (map g xs)
  map-in_order [] = refl
  map-in_order (x ∷ xs) = map-placed x (in_order (λ a b. before (g a) (g b)) xs) ∙ ap (with_inserted before (g x)) (map-in_order xs)

module _ {X : Type 0} where
  abbrev head_or : X → List X → X
  head_or d [] = d
  head_or d (x ∷ xs) = x

  abbrev rest_of : List X → List X
  rest_of [] = []
  rest_of (x ∷ xs) = xs

  abbrev is_none : List X → Bool
  is_none [] = true
  is_none (x ∷ xs) = false

  -- two neighbours of which one at most is kept
  exchanged : (a b : Bool) (x y : X) (xs : List X) → (a ≡ true → b ≡ false)
      → cond a (y ∷ cond b (x ∷ xs) xs) (cond b (x ∷ xs) xs) ≡ cond b (x ∷ cond a (y ∷ xs) xs) (cond a (y ∷ xs) xs)
  exchanged true true x y xs h = absurd (true≢false (h refl))
  exchanged true false x y xs h = refl
  exchanged false b x y xs h = refl

  next_of : (x : X) (xs : List X) (k : ℕ) (d : X) → get_or (x ∷ xs) (suc k + 1) d ≡ get_or xs (k + 1) d
  next_of x xs k d = simp unary_clauses refl

  same_rest : (b : Bool) (x : X) (xs ys : List X) → cond b (x ∷ xs) xs ≡ cond b (x ∷ ys) ys → xs ≡ ys
  same_rest true x xs ys is = ap rest_of is
  same_rest false x xs ys is = is

not_both : (a b : Bool) → a ≡ false → b ≡ false → (not a && not b) ≡ true
not_both true b p q = absurd (true≢false p)
not_both false true p q = absurd (true≢false q)
not_both false false p q = refl

module _ {X : Type 0} (lt : X → X → Bool) where
  -- no element is less than one before it
  abbrev pub Rises : List X → Type 0
  Rises [] = ⊤
  Rises (x ∷ xs) = AllByRecursion (λ y. lt y x ≡ false) xs × Rises xs

  -- insertion keeps the elements
  swap_front : (x y : X) (ys : List X) → IsPermutation (x ∷ y ∷ ys) (y ∷ x ∷ ys)
  swap_front x y ys = IsPermutation-append_left ys (x ∷ y ∷ []) (y ∷ x ∷ []) (IsPermutation-append_comm (x ∷ []) (y ∷ []))

  placed_moves : (x : X) (ys : List X) → IsPermutation (x ∷ ys) (with_inserted lt x ys)
  placed_moves x [] = IsPermutation-refl (x ∷ [])
  placed_moves x (y ∷ ys) =
      cond_both (lt y x) (y ∷ with_inserted lt x ys) (x ∷ y ∷ ys) (IsPermutation (x ∷ y ∷ ys))
      (λ later. IsPermutation-trans (x ∷ y ∷ ys) (y ∷ x ∷ ys) (y ∷ with_inserted lt x ys) (swap_front x y ys)
      (IsPermutation-cons y (x ∷ ys) (with_inserted lt x ys) (placed_moves x ys)))
      (λ here. IsPermutation-refl (x ∷ y ∷ ys))

  pub in_order_moves : (xs : List X) → IsPermutation xs (in_order lt xs)
  in_order_moves [] = IsPermutation-refl []
  in_order_moves (x ∷ xs) =
      IsPermutation-trans (x ∷ xs) (x ∷ in_order lt xs) (with_inserted lt x (in_order lt xs))
      (IsPermutation-cons x xs (in_order lt xs) (in_order_moves xs)) (placed_moves x (in_order lt xs))

module _ {X : Type 0} (lt : X → X → Bool) (o : IsStrictWeakOrder lt) where
  itself_by : (x : X) (b : Bool) → lt x x ≡ b → lt x x ≡ false
  itself_by x true is = o.one_way x x is
  itself_by x false is = is

  itself : (x : X) → lt x x ≡ false
  itself x = itself_by x (lt x x) refl

  tied_itself : (x : X) → ties lt x x ≡ true
  tied_itself x = not_both (lt x x) (lt x x) (itself x) (itself x)

  -- insertion keeps the order
  placed_all_by : (P : X → Type 0) (x y : X) (ys us : List X) (b : Bool) → P x → P y → AllByRecursion P ys → AllByRecursion P us
      → AllByRecursion P (if b then y ∷ us else x ∷ y ∷ ys)
  placed_all_by P x y ys us true h k all later = (k, later)
  placed_all_by P x y ys us false h k all later = (h, (k, all))

  placed_all : (P : X → Type 0) (x : X) (ys : List X) → P x → AllByRecursion P ys → AllByRecursion P (with_inserted lt x ys)
  placed_all P x [] h all = (h, tt)
  placed_all P x (y ∷ ys) h all = placed_all_by P x y ys (with_inserted lt x ys) (lt y x) h all.0 all.1 (placed_all P x ys h all.1)

  placed_rises_by : (x y : X) (ys : List X) (b : Bool) → lt y x ≡ b → Rises lt (y ∷ ys) → Rises lt (with_inserted lt x ys)
      → Rises lt (if b then y ∷ with_inserted lt x ys else x ∷ y ∷ ys)
  placed_rises_by x y ys true is up later = (placed_all (λ z. lt z y ≡ false) x ys (o.one_way y x is) up.0, later)
  placed_rises_by x y ys false is up later = ((is, each_more (λ z. lt z y ≡ false) (λ z. lt z x ≡ false) (λ z h. o.chain z y x h is) ys up.0), up)

  placed_rises : (x : X) (ys : List X) → Rises lt ys → Rises lt (with_inserted lt x ys)
  placed_rises x [] up = (tt, tt)
  placed_rises x (y ∷ ys) up = placed_rises_by x y ys (lt y x) refl up (placed_rises x ys up.1)

  pub in_order_rises : (xs : List X) → Rises lt (in_order lt xs)
  in_order_rises [] = tt
  in_order_rises (x ∷ xs) = placed_rises x (in_order lt xs) (in_order_rises xs)

  -- insertion keeps ties in their order
  apart : (x y z : X) → lt y x ≡ true → ties lt z y ≡ true → (b : Bool) → ties lt z x ≡ b → b ≡ false
  apart x y z less tied true is = absurd (true≢false (sym less ∙ o.chain y z x (both_not (lt z y) (lt y z) tied).1 (both_not (lt z x) (lt x z) is).0))
  apart x y z less tied false is = refl

  placed_ties_by : (z x y : X) (ys : List X) (b : Bool) → lt y x ≡ b → filter (ties lt z) (with_inserted lt x ys) ≡ filter (ties lt z) (x ∷ ys)
      → filter (ties lt z) (if b then y ∷ with_inserted lt x ys else x ∷ y ∷ ys) ≡ filter (ties lt z) (x ∷ y ∷ ys)
  placed_ties_by z x y ys true is later =
      ap (λ (us : List X). cond (ties lt z y) (y ∷ us) us) later
      ∙ exchanged (ties lt z y) (ties lt z x) x y (filter (ties lt z) ys) (λ tied. apart x y z is tied (ties lt z x) refl)
  placed_ties_by z x y ys false is later = refl

  placed_ties : (z x : X) (ys : List X) → filter (ties lt z) (with_inserted lt x ys) ≡ filter (ties lt z) (x ∷ ys)
  placed_ties z x [] = refl
  placed_ties z x (y ∷ ys) = placed_ties_by z x y ys (lt y x) refl (placed_ties z x ys)

  in_order_ties : (z : X) (xs : List X) → filter (ties lt z) (in_order lt xs) ≡ filter (ties lt z) xs
  in_order_ties z [] = refl
  in_order_ties z (x ∷ xs) = placed_ties z x (in_order lt xs) ∙ ap (λ (us : List X). cond (ties lt z x) (x ∷ us) us) (in_order_ties z xs)

  -- a list in order is known by its ties
  kept : (x : X) (xs : List X) → filter (ties lt x) (x ∷ xs) ≡ x ∷ filter (ties lt x) xs
  kept x xs = ap (λ (b : Bool). cond b (x ∷ filter (ties lt x) xs) (filter (ties lt x) xs)) (tied_itself x)

  least_by : (x y z : X) (zs us : List X) (b : Bool) → ties lt x z ≡ b → lt z y ≡ false → cond b (z ∷ filter (ties lt x) zs) (filter (ties lt x) zs) ≡ x ∷ us
      → (filter (ties lt x) zs ≡ x ∷ us → lt x y ≡ false) → lt x y ≡ false
  least_by x y z zs us true tied h is later = o.chain x z y (both_not (lt x z) (lt z x) tied).0 h
  least_by x y z zs us false tied h is later = later is

  least : (x y : X) (ys us : List X) → filter (ties lt x) ys ≡ x ∷ us → AllByRecursion (λ z. lt z y ≡ false) ys → lt x y ≡ false
  least x y [] us is all = absurd (true≢false (ap is_none is))
  least x y (z ∷ zs) us is all = least_by x y z zs us (ties lt x z) refl all.0 is (λ later. least x y zs us later all.1)

  same : (xs ys : List X) → Rises lt xs → Rises lt ys → ((z : X) → filter (ties lt z) xs ≡ filter (ties lt z) ys) → xs ≡ ys
  same [] [] up vp alike = refl
  same [] (y ∷ ys) up vp alike = absurd (true≢false (ap is_none (alike y ∙ kept y ys)))
  same (x ∷ xs) [] up vp alike = absurd (true≢false (ap is_none (sym (alike x) ∙ kept x xs)))
  same (x ∷ xs) (y ∷ ys) up vp alike =
      let below : lt x y ≡ false = least x y (y ∷ ys) (filter (ties lt x) xs) (sym (alike x) ∙ kept x xs) (itself y, vp.0) in
      let above : lt y x ≡ false = least y x (x ∷ xs) (filter (ties lt y) ys) (alike y ∙ kept y ys) (itself x, up.0) in
      let tied : ties lt x y ≡ true = not_both (lt x y) (lt y x) below above in
      let there : filter (ties lt x) (y ∷ ys) ≡ y ∷ filter (ties lt x) ys =
      ap (λ (b : Bool). cond b (y ∷ filter (ties lt x) ys) (filter (ties lt x) ys)) tied in
      let first : x ≡ y = ap (head_or x) (sym (kept x xs) ∙ alike x ∙ there) in
      let rest : xs ≡ ys = same xs ys up.1 vp.1 (λ z. same_rest (ties lt z x) x (filter (ties lt z) xs) (filter (ties lt z) ys)
      (alike z ∙ ap (λ (w : X). cond (ties lt z w) (w ∷ filter (ties lt z) ys) (filter (ties lt z) ys)) (sym first))) in
      ap (λ (w : X). w ∷ xs) first ∙ ap (λ (us : List X). y ∷ us) rest

  pub rises : (xs : List X) → IsSortedBy lt xs → Rises lt xs
  rises [] up = tt
  rises (x ∷ xs) up = (
    recursion_from_All (λ y. lt y x ≡ false) xs (λ k d less. sorted_far lt o (x ∷ xs) up 0 (suc k) d (omega arith) (omega arith)),
    rises xs (λ k d from less. subst (λ (w : X). lt w (get_or xs k d) ≡ false) (next_of x xs k d) (up (suc k) d (omega arith) (omega arith))),
  )

  pub sorted_by_insertion : (xs ys : List X) → IsSortedBy lt ys → IsStableBy lt xs ys → ys ≡ in_order lt xs
  sorted_by_insertion xs ys up stable = same ys (in_order lt xs) (rises ys up) (in_order_rises xs) (λ z. stable z ∙ sym (in_order_ties z xs))

  -- lists whose ties are in one order
  pub same_in_order : (xs ys : List X) → ((z : X) → filter (ties lt z) xs ≡ filter (ties lt z) ys) → in_order lt xs ≡ in_order lt ys
  same_in_order xs ys alike =
      same (in_order lt xs) (in_order lt ys) (in_order_rises xs) (in_order_rises ys) (λ z. in_order_ties z xs ∙ alike z ∙ sym (in_order_ties z ys))
