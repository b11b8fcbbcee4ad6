-- Lists made along a range of numbers: one number more, and what is true of all of them.
use Rattle.std.proofs.Common.{◌≡◌, ℕ, zero, suc, ◌+◌, ◌-◌, ◌*◌, ◌<◌, ◌≤◌, List, [], ◌∷◌, ◌++◌, Bool, map, filter, length}
use Rattle.std.proofs.Common.{get_or, All, if◌then◌else◌, refl, sym, ◌∙◌, ap, subst, arith, inl, inr}
use Rattle.std.proofs.lemmas.Bool.{cases_lt}
use Rattle.std.proofs.lemmas.List.{map-id, append-nil, append_assoc, length-append, get_or_append_left, get_or-append_right}
use Rattle.std.proofs.lemmas.List.Concat.{flat_map-append, flat_map-cons, length-flat_map}
use Rattle.std.proofs.lemmas.List.Elements.{All-nil, All-append, All-get_or, filter-append}
use Rattle.std.proofs.lemmas.List.FromFn.{length-range_with_len, get_or-range_with_len}
use Rattle.std.proofs.lemmas.List.FromFn.{length-map-range_with_len, get_or-map-range_with_len, map-range_with_len_more}
use Rattle.std.proofs.lemmas.List.Sums.{fold_push, sum_by-le}
use Rattle.std.specs.List.{fold, flat_map, range_with_len, AllPairs}

pub range_more : (a n : ℕ) → range_with_len a (n + 1) ≡ range_with_len a n ++ (a + n) ∷ []
range_more a n =
    sym (map-id (range_with_len a (n + 1))) ∙ map-range_with_len_more (λ (x : ℕ). x) a n (a + n) refl
    ∙ ap (λ (xs : List ℕ). xs ++ (a + n) ∷ []) (map-id (range_with_len a n))

-- with the lists before
pub mapped_more : {X : Type 0} (f : ℕ → X) (before : List X) (a n : ℕ)
    → (before ++ map f (range_with_len a n)) ++ f (a + n) ∷ [] ≡ before ++ map f (range_with_len a (n + 1))
mapped_more f before a n =
    append_assoc before (map f (range_with_len a n)) (f (a + n) ∷ []) ∙ ap (λ (ys : _). before ++ ys) (sym (map-range_with_len_more f a n (a + n) refl))

pub folded_more : {X B : Type 0} (g : B → X → B) (z : B) (f : ℕ → X) (a n : ℕ)
    → fold g z (map f (range_with_len a (n + 1))) ≡ g (fold g z (map f (range_with_len a n))) (f (a + n))
folded_more g z f a n = ap (fold g z) (map-range_with_len_more f a n (a + n) refl) ∙ fold_push g z (map f (range_with_len a n)) (f (a + n))

pub flat_more : {X : Type 0} (f : ℕ → List X) (a n : ℕ) → flat_map f (range_with_len a (n + 1)) ≡ flat_map f (range_with_len a n) ++ f (a + n)
flat_more f a n =
    ap (flat_map f) (range_more a n) ∙ flat_map-append f (range_with_len a n) ((a + n) ∷ [])
    ∙ ap (λ (ys : _). flat_map f (range_with_len a n) ++ ys) (flat_map-cons f (a + n) [] ∙ append-nil (f (a + n)))

pub filtered_more : (p : ℕ → Bool) (a n : ℕ) → filter p (range_with_len a (n + 1)) ≡ filter p (range_with_len a n) ++ (if p (a + n) then (a + n) ∷ [] else [])
filtered_more p a n = ap (filter p) (range_more a n) ∙ filter-append p (range_with_len a n) ((a + n) ∷ [])

pub all_range : (P : ℕ → Type 0) (a n : ℕ) → ((i : ℕ) → a ≤ i → i < a + n → P i) → All P (range_with_len a n)
all_range P a n each =
    λ i d less.
    let within : i < n = omega (arith, less, length-range_with_len a n) in
    subst P (sym (get_or-range_with_len a n i d within)) (each (a + i) (omega arith) (omega (arith, within)))

pub pairs_range : {X : Type 0} (R : X → X → Type 0) (f : ℕ → X) (a n : ℕ) → ((i j : ℕ) → i < j → R (f i) (f j)) → AllPairs R (map f (range_with_len a n))
pairs_range R f a n each i j d less inside =
    let within : j < n = omega (arith, inside, length-map-range_with_len f a n) in
    rw (get_or-map-range_with_len f a n i (a + i) d (omega (arith, within, less)) refl, get_or-map-range_with_len f a n j (a + j) d within refl)
    (each (a + i) (a + j) (omega (arith, less)))

pub all_flat : {X : Type 0} (P : X → Type 0) (f : ℕ → List X) (a n : ℕ) → ((i : ℕ) → a ≤ i → i < a + n → All P (f i)) → All P (flat_map f (range_with_len a n))
all_flat P f a zero each = All-nil P
all_flat P f a (suc n) each =
    subst (All P) (sym (flat_map-cons f a (range_with_len (a + 1) n)))
    (All-append P (f a) (flat_map f (range_with_len (a + 1) n)) (each a (omega arith) (omega arith))
    (all_flat P f (a + 1) n (λ i low high. each i (omega (arith, low)) (omega (arith, high)))))

pub pairs_append : {X : Type 0} (R : X → X → Type 0) (xs ys : List X) → AllPairs R xs → AllPairs R ys → All (λ x. All (R x) ys) xs → AllPairs R (xs ++ ys)
pairs_append R xs ys first second across i j d less inside =
    elim (cases_lt j (length xs)) [
      | inl early ↦ rw (get_or_append_left xs ys d i (omega arith), get_or_append_left xs ys d j early) (first i j d less early)
      | inr late ↦ elim (cases_lt i (length xs)) [
        | inl before ↦ rw (get_or_append_left xs ys d i before, get_or-append_right xs ys (length xs) j d refl late)
            (All-get_or (R (get_or xs i d)) ys (j - length xs) d (omega (arith, inside, length-append xs ys))
            (All-get_or (λ x. All (R x) ys) xs i d before across))
        | inr behind ↦ rw (get_or-append_right xs ys (length xs) i d refl behind, get_or-append_right xs ys (length xs) j d refl late)
            (second (i - length xs) (j - length xs) d (omega (arith, less)) (omega (arith, inside, length-append xs ys)))
      ]
    ]

pub pairs_flat : {X : Type 0} (R : X → X → Type 0) (f : ℕ → List X) → ((i : ℕ) → AllPairs R (f i))
    → ((i j : ℕ) → i < j → All (λ x. All (R x) (f j)) (f i)) → (a n : ℕ) → AllPairs R (flat_map f (range_with_len a n))
pairs_flat R f own across a zero = λ i j d less inside. absurd (omega (arith, inside))
pairs_flat R f own across a (suc n) =
    subst (AllPairs R) (sym (flat_map-cons f a (range_with_len (a + 1) n)))
    (pairs_append R (f a) (flat_map f (range_with_len (a + 1) n)) (own a) (pairs_flat R f own across (a + 1) n)
    (λ i e within. all_flat (R (get_or (f a) i e)) f (a + 1) n (λ j low high. across a j (omega (arith, low)) i e within)))

pub few_flat : {X : Type 0} (f : ℕ → List X) (m a n : ℕ) → ((i : ℕ) → length (f i) ≤ m) → length (flat_map f (range_with_len a n)) ≤ n * m
few_flat f m a n few =
    let total = sum_by-le (λ i. length (f i)) m (range_with_len a n) (all_range (λ i. length (f i) ≤ m) a n (λ i low high. few i)) in
    omega (arith, length-flat_map f (range_with_len a n), ap (λ (k : ℕ). k * m) (length-range_with_len a n), total)
