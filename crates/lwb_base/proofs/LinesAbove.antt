-- What each element of a list gives by those above it: by its place, or by a recursion that carries those above.
use Rattle.std.proofs.Common.{◌≡◌, ◌∙◌, ◌+◌, ℕ, List, [], ◌∷◌, ◌++◌, Option, None, Some, length, take, option_to_list, refl, sym, ap, append_assoc, arith}
use Rattle.std.specs.Prelude.{filter_map}
use Rattle.std.specs.List.{cons_option, enumerate_from}

-- for any rule that says what an element gives where these are above it
module _ {X Y : Type 0} (gives : List X → X → Option Y) where
  abbrev pub given_below : List X → List X → List Y
  given_below above [] = []
  given_below above (x ∷ xs) = option_to_list (gives above x) ++ given_below (above ++ x ∷ []) xs

  -- all but the first of these are above
  take_above : (above xs : List X) → take (length above) (above ++ xs) ≡ above
  take_above [] xs = refl
  take_above (a ∷ above) xs = ap (λ (l : List X). a ∷ l) (take_above above xs)

  one_longer : (above : List X) (x : X) → length (above ++ x ∷ []) ≡ length above + 1
  one_longer [] x = refl
  one_longer (a ∷ above) x = (let more = one_longer above x in omega (arith, more))

  first_given : (o : Option Y) (ys : List Y) → cons_option o ys ≡ option_to_list o ++ ys
  first_given None ys = refl
  first_given (Some y) ys = refl

  from_place : (all above xs : List X) → all ≡ above ++ xs
      → filter_map (λ (x : ℕ × X). gives (take x.0 all) x.1) (enumerate_from (length above) xs) ≡ given_below above xs
  from_place all above [] is = refl
  from_place all above (x ∷ xs) is =
      let rule : ℕ × X → Option Y = λ p. gives (take p.0 all) p.1 in
      let further : all ≡ (above ++ x ∷ []) ++ xs = is ∙ sym (append_assoc above (x ∷ []) xs) in
      first_given (rule (length above, x)) (filter_map rule (enumerate_from (length above + 1) xs))
      ∙ ap (λ (l : List X). option_to_list (gives l x) ++ filter_map rule (enumerate_from (length above + 1) xs))
      (ap (take (length above)) is ∙ take_above above (x ∷ xs))
      ∙ ap (λ (n : ℕ). option_to_list (gives above x) ++ filter_map rule (enumerate_from n xs)) (sym (one_longer above x))
      ∙ ap (λ (l : List Y). option_to_list (gives above x) ++ l) (from_place all (above ++ x ∷ []) xs further)

  pub by_place : (xs : List X) → filter_map (λ (x : ℕ × X). gives (take x.0 xs) x.1) (enumerate_from 0 xs) ≡ given_below [] xs
  by_place xs = from_place xs [] xs refl
