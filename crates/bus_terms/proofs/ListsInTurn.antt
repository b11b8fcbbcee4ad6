-- Lists in which a relation holds of each element and each later one, also where they are put together.
use Rattle.std.proofs.Common.{◌≡◌, ℕ, zero, suc, ◌+◌, ◌<◌, List, [], ◌∷◌, ◌++◌, Option, Some, None, AllPairs, filter_map, flat_map, refl, arith}
use Rattle.std.specs.List.{AllByRecursion, cons_option, range_with_len}
use Rattle.std.proofs.lemmas.List.Kept.{AllPairs-cons}
use Rattle.std.proofs.lemmas.List.Elements.{All-from_recursion, recursion_from_All}
use Rattle.lwb_base.proofs.Lists.{each_more, each_append}
use Rattle.scenario_text.specs.FloodDrafts.{Climbs}

pub in_turn_pairs : {X : Type 0} (R : X → X → Type 0) (xs : List X) → Climbs R xs → AllPairs R xs
in_turn_pairs R [] is i j d before within = absurd (omega arith)
in_turn_pairs R (x ∷ xs) is i j d before within =
    AllPairs-cons R x xs (All-from_recursion (R x) xs is.0) (in_turn_pairs R xs is.1) i j d before within

pub pairs_in_turn : {X : Type 0} (R : X → X → Type 0) (xs : List X) → AllPairs R xs → Climbs R xs
pairs_in_turn R [] pairs = tt
pairs_in_turn R (x ∷ xs) pairs = (
  recursion_from_All (R x) xs (λ j d within. pairs 0 (suc j) d (omega arith) (omega arith)),
  pairs_in_turn R xs (λ i j d before within. pairs (suc i) (suc j) d (omega arith) (omega arith)),
)

pub turn_append : {X : Type 0} (R : X → X → Type 0) (xs ys : List X) → Climbs R xs → Climbs R ys → AllByRecursion (λ x. AllByRecursion (R x) ys) xs
    → Climbs R (xs ++ ys)
turn_append R [] ys first second across = second
turn_append R (x ∷ xs) ys first second across = (each_append (R x) xs ys first.0 across.0, turn_append R xs ys first.1 second across.1)

-- pieces one after another
module _ {X Y : Type 0} (S : X → X → Type 0) (R : Y → Y → Type 0) (T : X → Y → Type 0) (g : X → List Y)
    (each : (x : X) → AllByRecursion (T x) (g x)) (within : (x : X) → Climbs R (g x))
    (across : (x y : X) → S x y → (a b : Y) → T x a → T y b → R a b) where
  piece_before : (x : X) (a : Y) → T x a → (ys : List X) → AllByRecursion (S x) ys → AllByRecursion (R a) (flat_map g ys)
  piece_before x a at [] before = tt
  piece_before x a at (y ∷ ys) before =
      each_append (R a) (g y) (flat_map g ys) (each_more (T y) (R a) (λ b there. across x y before.0 a b at there) (g y) (each y))
      (piece_before x a at ys before.1)

  pub pieces_in_turn : (xs : List X) → Climbs S xs → Climbs R (flat_map g xs)
  pieces_in_turn [] is = tt
  pieces_in_turn (x ∷ xs) is =
      turn_append R (g x) (flat_map g xs) (within x) (pieces_in_turn xs is.1)
      (each_more (T x) (λ a. AllByRecursion (R a) (flat_map g xs)) (λ a at. piece_before x a at xs is.0) (g x) (each x))

-- what holds of each element of each piece
pub each_of_pieces : {X Y : Type 0} (P : Y → Type 0) (g : X → List Y) → ((x : X) → AllByRecursion P (g x)) → (xs : List X) → AllByRecursion P (flat_map g xs)
each_of_pieces P g each [] = tt
each_of_pieces P g each (x ∷ xs) = each_append P (g x) (flat_map g xs) (each x) (each_of_pieces P g each xs)

-- what a filter gives, in the order of what it was given for
module _ {X Y : Type 0} (S : X → X → Type 0) (R : Y → Y → Type 0) (h : X → Option Y)
    (across : (x y : X) → S x y → (a b : Y) → h x ≡ Some a → h y ≡ Some b → R a b) where
  given_before : (x : X) (a : Y) → h x ≡ Some a → (ys : List X) → AllByRecursion (S x) ys → AllByRecursion (R a) (filter_map h ys)
  given_before x a at [] before = tt
  given_before x a at (y ∷ ys) before = by_given (h y) refl (given_before x a at ys before.1)
    where
      by_given : (o : Option Y) → h y ≡ o → AllByRecursion (R a) (filter_map h ys) → AllByRecursion (R a) (cons_option o (filter_map h ys))
      by_given None is rest = rest
      by_given (Some b) is rest = (across x y before.0 a b at is, rest)

  pub given_in_turn : (xs : List X) → Climbs S xs → Climbs R (filter_map h xs)
  given_in_turn [] is = tt
  given_in_turn (x ∷ xs) is = by_given (h x) refl (given_in_turn xs is.1)
    where
      by_given : (o : Option Y) → h x ≡ o → Climbs R (filter_map h xs) → Climbs R (cons_option o (filter_map h xs))
      by_given None at rest = rest
      by_given (Some a) at rest = (given_before x a at xs is.0, rest)

module _ {X Y : Type 0} (P : Y → Type 0) (h : X → Option Y) (holds : (x : X) (a : Y) → h x ≡ Some a → P a) where
  pub each_given : (xs : List X) → AllByRecursion P (filter_map h xs)
  each_given [] = tt
  each_given (x ∷ xs) = by_given (h x) refl (each_given xs)
    where
      by_given : (o : Option Y) → h x ≡ o → AllByRecursion P (filter_map h xs) → AllByRecursion P (cons_option o (filter_map h xs))
      by_given None at rest = rest
      by_given (Some a) at rest = (holds x a at, rest)

-- numbers of a range ascend
range_from : (low a n : ℕ) → low < a → AllByRecursion (λ x. low < x) (range_with_len a n)
range_from low a zero below = tt
range_from low a (suc n) below = (below, range_from low (a + 1) n (omega arith))

pub range_in_turn : (a n : ℕ) → Climbs (λ x y. x < y) (range_with_len a n)
range_in_turn a zero = tt
range_in_turn a (suc n) = (range_from a (a + 1) n (omega arith), range_in_turn (a + 1) n)
