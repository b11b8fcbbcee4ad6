-- Lists of what stations give, those at places one after the other.
use Rattle.std.proofs.Common.{◌≡◌, ℕ, zero, suc, ◌<◌, List, [], ◌∷◌, ◌++◌, length, get_or, Option}
use Rattle.std.proofs.Common.{Some, None, option_to_list, filter_map, refl, sym, ◌∙◌, ap, arith, ◌⊎◌, inl, inr}
use Rattle.std.specs.List.{cons_option}
use Rattle.radio_model.specs.declared.station.Station.{Station}

pub same_filter : {X Y : Type 0} (f g : X → Option Y) (xs : List X) (d : X) → ((i : ℕ) → i < length xs → f (get_or xs i d) ≡ g (get_or xs i d))
    → filter_map f xs ≡ filter_map g xs
same_filter f g [] d same = refl
same_filter {X} {Y} f g (x ∷ xs) d same =
    ap (λ (o : Option Y). cons_option o (filter_map f xs)) (same 0 (omega arith))
    ∙ ap (λ (l : List Y). cons_option (g x) l) (same_filter f g xs d (λ i below. same (suc i) (omega arith)))

as_list : {Y : Type 0} (o : Option Y) (ys : List Y) → cons_option o ys ≡ option_to_list o ++ ys
as_list None ys = refl
as_list (Some y) ys = refl

-- two functions of which the first gives the next element at one place, and before it both give none
pub next_one : {X Y : Type 0} (f g : X → Option Y) (xs : List X) (k : ℕ) (d : X) → k < length xs → ((i : ℕ) → i < k → f (get_or xs i d) ≡ None) → ((i : ℕ)
    → i < k → g (get_or xs i d) ≡ None)
    → g (get_or xs k d) ≡ None → ((i : ℕ) → k < i → i < length xs → f (get_or xs i d) ≡ g (get_or xs i d)) → filter_map f xs
    ≡ option_to_list (f (get_or xs k d)) ++ filter_map g xs
next_one f g [] k d below before_f before_g none behind = absurd (omega arith)
next_one {X} {Y} f g (x ∷ xs) zero d below before_f before_g none behind =
    as_list (f x) (filter_map f xs) ∙ ap (λ (l : List Y). option_to_list (f x) ++ l) (same_filter f g xs d (λ i inside. behind (suc i) (omega arith)
    (omega arith)))
    ∙ ap (λ (o : Option Y). option_to_list (f x) ++ cons_option o (filter_map g xs)) (sym none)
next_one {X} {Y} f g (x ∷ xs) (suc k) d below before_f before_g none behind =
    ap (λ (o : Option Y). cons_option o (filter_map f xs)) (before_f 0 (omega arith))
    ∙ next_one f g xs k d (omega arith) (λ i less. before_f (suc i) (omega arith)) (λ i less. before_g (suc i) (omega arith)) none (λ i more inside. behind
    (suc i) (omega arith) (omega arith))
    ∙ ap (λ (o : Option Y). option_to_list (f (get_or xs k d)) ++ cons_option o (filter_map g xs)) (sym (before_g 0 (omega arith)))

pub bit_cases : (b : ℕ) → b < 2 → (b ≡ 0) ⊎ (b ≡ 1)
bit_cases zero below = inl refl
bit_cases (suc zero) below = inr refl
bit_cases (suc (suc n)) below = absurd (omega arith)

abbrev pub InOrder : List Station → Type 0
InOrder sts = (k : ℕ) (d : Station) → k < length sts → (get_or sts k d).place ≡ k
