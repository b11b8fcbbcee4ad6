-- Elements of lists, and what a map, a filter, a choice and a reversal do to them.
use Rattle.std.proofs.Common.{◌≡◌, ◌≢◌, ℕ, zero, suc, ◌+◌, ◌<◌, Bool, true, Option, Some, None, filter, filter_map, option_to_list, reverse, take, length}
use Rattle.std.proofs.Common.{get_or, ◌∙◌, sym, ap, List, [], ◌∷◌, ◌++◌, inl, inr, refl, subst, arith, map, drop}
use Rattle.std.specs.Prelude.{Contains, ◌⊎◌, AllPairs, slice_get}
use Rattle.std.specs.List.{cons_option, flat_map, list_all, list_any}
use Rattle.std.proofs.lemmas.Bool.{cond_both, cond-true, cases_eq, and_parts, or_cases, or_left, or_right, false≢true}
use Rattle.std.proofs.lemmas.List.{reverse-append, map_more, length-map, get_or-map}
use Rattle.std.proofs.lemmas.List.Elements.{Contains-append_cases, Contains-append_left, Contains-append_right, Contains-push}
use Rattle.std.proofs.lemmas.List.Elements.{Contains-push_cases, Contains-get_or, All-contains, All-filter, All-contains_itself, filter_passes}
use Rattle.std.proofs.lemmas.Option.{slice_get_within, get_or_from_slice_get}

pub not_in_none : {X : Type 0} (x : X) → Contains [] x → ⊥
not_in_none x (k, less, is) = omega arith

pub contains_head : {X : Type 0} (x : X) (xs : List X) → Contains (x ∷ xs) x
contains_head x xs = Contains-append_left (x ∷ []) xs x (Contains-push [] x)

pub contains_tail : {X : Type 0} (x : X) (xs : List X) (y : X) → Contains xs y → Contains (x ∷ xs) y
contains_tail x xs y there = Contains-append_right (x ∷ []) xs y there

pub contains_cases : {X : Type 0} (x : X) (xs : List X) (y : X) → Contains (x ∷ xs) y → (x ≡ y) ⊎ Contains xs y
contains_cases x xs y there =
    elim (Contains-append_cases (x ∷ []) xs y there) [
      | inl at ↦
          elim (Contains-push_cases [] x y at) [ inl none ↦ absurd (not_in_none y none) | inr is ↦ inl is ]
      | inr later ↦ inr later
    ]

-- lists of one or two elements, and the first element
pub one_of : {X : Type 0} (x y : X) → Contains (x ∷ []) y → x ≡ y
one_of x y there = elim (contains_cases x [] y there) [ inl is ↦ is | inr none ↦ absurd (not_in_none y none) ]

pub one_of_two : {X : Type 0} (x y z : X) → Contains (x ∷ y ∷ []) z → (x ≡ z) ⊎ (y ≡ z)
one_of_two x y z there = elim (contains_cases x (y ∷ []) z there) [ inl is ↦ inl is | inr later ↦ inr (one_of y z later) ]

pub first_of : {X : Type 0} (xs : List X) (x : X) → slice_get xs 0 ≡ Some x → xs ≡ x ∷ drop 1 xs
first_of [] x is = cc
first_of (y ∷ xs) x is = let same : y ≡ x = cc in ap (λ (z : _). z ∷ xs) same

pub none_in : {X : Type 0} (xs : List X) → slice_get xs 0 ≡ None → xs ≡ []
none_in [] is = refl
none_in (x ∷ xs) is = cc

pub map_contains : {X Y : Type 0} (g : X → Y) (xs : List X) (x : X) → Contains xs x → Contains (map g xs) (g x)
map_contains g [] x there = absurd (not_in_none x there)
map_contains g (y ∷ ys) x there =
    elim (contains_cases y ys x there) [
      | inl is ↦ subst (λ (w : _). Contains (map g (y ∷ ys)) (g w)) is (contains_head (g y) (map g ys))
      | inr later ↦ contains_tail (g y) (map g ys) (g x) (map_contains g ys x later)
    ]

-- pairs of an element and a later one
module _ {X : Type 0} (R : X → X → Type 0) where
  pub pairs_tail : (x : X) (xs : List X) → AllPairs R (x ∷ xs) → AllPairs R xs
  pairs_tail x xs all i j d less within = all (suc i) (suc j) d (omega arith) (omega arith)

  pub pairs_head : (x : X) (xs : List X) → AllPairs R (x ∷ xs) → (y : X) → Contains xs y → R x y
  pairs_head x xs all y (k, less, is) = subst (λ (z : X). R x z) is (all 0 (suc k) y (omega arith) (omega arith))

pub pairs_of_map : {X Y : Type 0} (g : X → Y) (R : Y → Y → Type 0) (xs : List X) → AllPairs (λ a b. R (g a) (g b)) xs → AllPairs R (map g xs)
pairs_of_map g R [] all i j d less within = absurd (omega arith)
pairs_of_map g R (x ∷ xs) all i j d less within =
    let long = length-map (x ∷ xs) g in
    let at_i = get_or-map g (x ∷ xs) i x d (omega arith) in
    let at_j = get_or-map g (x ∷ xs) j x d (omega arith) in
    subst (λ (y : _). R y (get_or (map g (x ∷ xs)) j d)) (sym at_i) (subst (λ (y : _). R (g (get_or (x ∷ xs) i x)) y) (sym at_j) (all i j x less (omega arith)))

-- no element is there twice
abbrev pub Distinct : {X : Type 0} → List X → Type 0
Distinct [] = Unit {0}
Distinct (x ∷ xs) = (Contains xs x → ⊥) × Distinct xs

pub distinct_from_pairs : {X : Type 0} (xs : List X) → AllPairs (λ x y. x ≢ y) xs → Distinct xs
distinct_from_pairs [] all = tt
distinct_from_pairs (x ∷ xs) all = (λ there. pairs_head (λ x y. x ≢ y) x xs all x there refl, distinct_from_pairs xs (pairs_tail (λ x y. x ≢ y) x xs all))

pub map_from : {X Y : Type 0} (g : X → Y) (xs : List X) (y : Y) → Contains (map g xs) y → (x : X) × Contains xs x × (g x ≡ y)
map_from g [] y there = absurd (not_in_none y there)
map_from g (x ∷ xs) y there =
    elim (contains_cases (g x) (map g xs) y there) [
      | inl is ↦ (x, contains_head x xs, is)
      | inr later ↦ (let w = map_from g xs y later in (w.0, contains_tail x xs w.0 w.1, w.2))
    ]

-- what a filter gives
pub filter_from : {X Y : Type 0} (g : X → Option Y) (xs : List X) (y : Y) → Contains (filter_map g xs) y → (x : X) × Contains xs x × (g x ≡ Some y)
filter_from g [] y there = absurd (not_in_none y there)
filter_from {X = X} {Y = Y} g (x ∷ xs) y there = by_cases (g x) refl (λ later. filter_from g xs y later) there
  where
    by_cases : (c : Option Y) → g x ≡ c → (Contains (filter_map g xs) y → (z : X) × Contains xs z × (g z ≡ Some y))
        → Contains (cons_option c (filter_map g xs)) y → (z : X) × Contains (x ∷ xs) z × (g z ≡ Some y)
    by_cases None at rest there = let w = rest there in (w.0, contains_tail x xs w.0 w.1, w.2)
    by_cases (Some z) at rest there =
        elim (contains_cases z (filter_map g xs) y there) [
          | inl is ↦ (x, contains_head x xs, at ∙ ap (λ (w : Y). Some w) is)
          | inr later ↦ (let w = rest later in (w.0, contains_tail x xs w.0 w.1, w.2))
        ]

pub filter_same : {X Y : Type 0} (g h : X → Option Y) (xs : List X) → ((x : X) → Contains xs x → g x ≡ h x) → filter_map g xs ≡ filter_map h xs
filter_same g h [] same = refl
filter_same g h (x ∷ xs) same =
    ap (λ c. cons_option c (filter_map g xs)) (same x (contains_head x xs))
    ∙ ap (λ l. cons_option (h x) l) (filter_same g h xs (λ y there. same y (contains_tail x xs y there)))

-- what a filter gives is there once, if it tells what it comes from
pub filter_distinct : {X Y : Type 0} (g : X → Option Y) → ((d e : X) (y : Y) → g d ≡ Some y → g e ≡ Some y → d ≡ e) → (xs : List X) → AllPairs (λ d e. d ≢ e) xs
    → Distinct (filter_map g xs)
filter_distinct g tells [] all = tt
filter_distinct {X = X} {Y = Y} g tells (x ∷ xs) all = by_cases (g x) refl (filter_distinct g tells xs (pairs_tail (λ d e. d ≢ e) x xs all))
  where
    twice : (y : Y) → g x ≡ Some y → (z : X) × Contains xs z × (g z ≡ Some y) → ⊥
    twice y at z = pairs_head (λ d e. d ≢ e) x xs all z.0 z.1 (tells x z.0 y at z.2)

    by_cases : (c : Option Y) → g x ≡ c → Distinct (filter_map g xs) → Distinct (cons_option c (filter_map g xs))
    by_cases None at rest = rest
    by_cases (Some y) at rest = (λ there. twice y at (filter_from g xs y there), rest)

-- a push of what a map gives at the next place
pub map_pushed : {X Y : Type 0} (g : X → Y) (xs : List X) (i : ℕ) (x : X) (items : List Y) (y : Y) → i < length xs → x ≡ get_or xs i x
    → items ≡ map g (take i xs) → y ≡ g x → items ++ y ∷ [] ≡ map g (take (i + 1) xs)
map_pushed g xs i x items y below at is value =
    ap (λ (l : List _). l ++ y ∷ []) is ∙ ap (λ (z : _). map g (take i xs) ++ z ∷ []) (value ∙ ap g at) ∙ sym (map_more g xs i x below)

pub filtered : {X : Type 0} (test : X → Bool) (xs : List X) (x : X) → Contains (filter test xs) x → Contains xs x × (test x ≡ true)
filtered test xs x there = (
  All-contains (Contains xs) (filter test xs) x (All-filter test (Contains xs) xs (All-contains_itself xs)) there,
  All-contains (λ y. test y ≡ true) (filter test xs) x (filter_passes test xs) there,
)

-- what a filter takes, and conversely
pub in_filtered : {X : Type 0} (test : X → Bool) (xs : List X) (x : X) → Contains xs x → test x ≡ true → Contains (filter test xs) x
in_filtered test [] x there is = absurd (not_in_none x there)
in_filtered {X} test (y ∷ xs) x there is =
    elim (contains_cases y xs x there) [
      | inl same ↦ subst (λ (l : List X). Contains l x) (sym (cond-true (test y) (y ∷ filter test xs) (filter test xs) (ap test same ∙ is)))
          (subst (Contains (y ∷ filter test xs)) same (contains_head y (filter test xs)))
      | inr rest ↦ cond_both (test y) (y ∷ filter test xs) (filter test xs) (λ (l : List X). Contains l x)
          (λ at. contains_tail y (filter test xs) x (in_filtered test xs x rest is)) (λ not. in_filtered test xs x rest is)
    ]

pub reversed : {X : Type 0} (y : X) (xs : List X) → reverse (y ∷ xs) ≡ reverse xs ++ y ∷ []
reversed y xs = reverse-append (y ∷ []) xs

pub in_reverse : {X : Type 0} (xs : List X) (x : X) → Contains xs x → Contains (reverse xs) x
in_reverse [] x there = absurd (not_in_none x there)
in_reverse {X} (y ∷ xs) x there =
    subst (λ (l : List X). Contains l x) (sym (reversed y xs)) (elim (contains_cases y xs x there) [
      | inl same ↦ subst (Contains (reverse xs ++ y ∷ [])) same (Contains-push (reverse xs) y)
      | inr rest ↦ Contains-append_left (reverse xs) (y ∷ []) x (in_reverse xs x rest)
    ])

pub from_reverse : {X : Type 0} (xs : List X) (x : X) → Contains (reverse xs) x → Contains xs x
from_reverse [] x there = absurd (not_in_none x there)
from_reverse {X} (y ∷ xs) x there =
    elim (Contains-push_cases (reverse xs) y x (subst (λ (l : List X). Contains l x) (reversed y xs) there)) [
      | inl rest ↦ contains_tail y xs x (from_reverse xs x rest)
      | inr same ↦ subst (Contains (y ∷ xs)) same (contains_head y xs)
    ]

-- an element by its place, and numbers that are there or not
pub contains_at : {X : Type 0} (xs : List X) (i : ℕ) (x : X) → slice_get xs i ≡ Some x → Contains xs x
contains_at xs i x at = (i, slice_get_within xs i x at, get_or_from_slice_get xs i x x at)

pub among_or_not : (xs : List ℕ) (q : ℕ) → Contains xs q ⊎ (Contains xs q → ⊥)
among_or_not [] q = inr (not_in_none q)
among_or_not (x ∷ xs) q =
    elim (cases_eq x q) [
      | inl is ↦ inl (subst (λ (n : ℕ). Contains (x ∷ xs) n) is (contains_head x xs))
      | inr not ↦ elim (among_or_not xs q) [
        | inl later ↦ inl (contains_tail x xs q later)
        | inr none ↦ inr (λ there. elim (contains_cases x xs q there) [ inl is ↦ not is | inr later ↦ none later ])
      ]
    ]

-- the one element of an option
pub in_option : {X : Type 0} (o : Option X) (x : X) → Contains (option_to_list o) x → o ≡ Some x
in_option None x there = absurd (not_in_none x there)
in_option (Some y) x there = ap (λ (z : _). Some z) (one_of y x there)

pub of_option : {X : Type 0} (o : Option X) (x : X) → o ≡ Some x → Contains (option_to_list o) x
of_option {X} o x is = subst (λ (p : Option X). Contains (option_to_list p) x) (sym is) (contains_head x [])

-- what a choice gives of an element, and what several lists give
pub in_filter : {X Y : Type 0} (f : X → Option Y) (xs : List X) (x : X) (y : Y) → Contains xs x → f x ≡ Some y → Contains (filter_map f xs) y
in_filter f [] x y there is = absurd (not_in_none x there)
in_filter {X} {Y} f (z ∷ xs) x y there is =
    elim (contains_cases z xs x there) [
      | inl here ↦ subst (λ (o : Option Y). Contains (cons_option o (filter_map f xs)) y) (sym (ap f here ∙ is)) (contains_head y (filter_map f xs))
      | inr rest ↦ behind (f z) (filter_map f xs) y (in_filter f xs x y rest is)
    ]
  where
    behind : (o : Option Y) (ys : List Y) (y : Y) → Contains ys y → Contains (cons_option o ys) y
    behind None ys y there = there
    behind (Some w) ys y there = contains_tail w ys y there

pub in_flat : {X Y : Type 0} (f : X → List Y) (xs : List X) (x : X) (y : Y) → Contains xs x → Contains (f x) y → Contains (flat_map f xs) y
in_flat f [] x y there in_it = absurd (not_in_none x there)
in_flat {X} {Y} f (z ∷ xs) x y there in_it =
    elim (contains_cases z xs x there) [
      | inl is ↦ Contains-append_left (f z) (flat_map f xs) y (subst (λ (w : X). Contains (f w) y) (sym is) in_it)
      | inr rest ↦ Contains-append_right (f z) (flat_map f xs) y (in_flat f xs x y rest in_it)
    ]

pub from_flat : {X Y : Type 0} (f : X → List Y) (xs : List X) (y : Y) → Contains (flat_map f xs) y → (x : X) × Contains xs x × Contains (f x) y
from_flat f [] y there = absurd (not_in_none y there)
from_flat f (x ∷ xs) y there =
    elim (Contains-append_cases (f x) (flat_map f xs) y there) [
      | inl here ↦ (x, contains_head x xs, here)
      | inr rest ↦ let w = from_flat f xs y rest in (w.0, contains_tail x xs w.0 w.1, w.2)
    ]

-- what a test of a list says of its elements
pub any_of : {X : Type 0} (test : X → Bool) (xs : List X) (x : X) → Contains xs x → test x ≡ true → list_any test xs ≡ true
any_of test [] x there is = absurd (not_in_none x there)
any_of test (y ∷ xs) x there is =
    elim (contains_cases y xs x there) [
      | inl same ↦ or_left (test y) (list_any test xs) (ap test same ∙ is)
      | inr rest ↦ or_right (test y) (list_any test xs) (any_of test xs x rest is)
    ]

pub some_of : {X : Type 0} (test : X → Bool) (xs : List X) → list_any test xs ≡ true → (x : X) × Contains xs x × (test x ≡ true)
some_of test [] is = absurd (false≢true is)
some_of test (x ∷ xs) is =
    elim (or_cases (test x) (list_any test xs) is) [
      | inl here ↦ (x, contains_head x xs, here)
      | inr rest ↦ let w = some_of test xs rest in (w.0, contains_tail x xs w.0 w.1, w.2)
    ]

pub all_passes : {X : Type 0} (p : X → Bool) (xs : List X) → list_all p xs ≡ true → (x : X) → Contains xs x → p x ≡ true
all_passes p [] all x there = absurd (not_in_none x there)
all_passes p (y ∷ ys) all x there =
    let both = and_parts _ _ all in
    elim (contains_cases y ys x there) [ inl is ↦ ap p (sym is) ∙ both.0 | inr later ↦ all_passes p ys both.1 x later ]

-- what holds of any two elements, by what is known of each
pub weaker_pairs : {X : Type 0} (R Q : X → X → Type 0) (xs : List X) → AllPairs R xs
    → ((x y : X) → Contains xs x → Contains xs y → R x y → Q x y) → AllPairs Q xs
weaker_pairs R Q xs all gives i j d less within =
    gives (get_or xs i d) (get_or xs j d) (Contains-get_or xs i d (omega (arith, less, within))) (Contains-get_or xs j d within) (all i j d less within)

-- pairs of a longer list
pub pairs_cons : {X : Type 0} (R : X → X → Type 0) (x : X) (xs : List X) → ((y : X) → Contains xs y → R x y) → AllPairs R xs → AllPairs R (x ∷ xs)
pairs_cons R x xs first rest zero zero d less below = absurd (omega arith)
pairs_cons R x xs first rest zero (suc j) d less below = first (get_or xs j d) (Contains-get_or xs j d (omega arith))
pairs_cons R x xs first rest (suc i) zero d less below = absurd (omega arith)
pairs_cons R x xs first rest (suc i) (suc j) d less below = rest i j d (omega arith) (omega arith)

pub pairs_append : {X : Type 0} (R : X → X → Type 0) (xs ys : List X) → AllPairs R xs → AllPairs R ys
    → ((x y : X) → Contains xs x → Contains ys y → R x y) → AllPairs R (xs ++ ys)
pairs_append R [] ys first second across = second
pairs_append R (x ∷ xs) ys first second across =
    pairs_cons R x (xs ++ ys)
    (λ y there. elim (Contains-append_cases xs ys y there) [
      | inl in_first ↦ pairs_head R x xs first y in_first
      | inr in_second ↦ across x y (contains_head x xs) in_second
    ])
    (pairs_append R xs ys (pairs_tail R x xs first) second (λ z y in_first in_second. across z y (contains_tail x xs z in_first) in_second))
