-- Where an element is in a list with one more at its end.
use Rattle.std.proofs.Common.{◌≡◌, ◌⊎◌, inl, inr, List, [], ◌∷◌, ◌++◌, refl, sym, ◌∙◌, ap}

pub nothing_in : {X : Type 0} (x : X) (before after : List X) → [] ≡ before ++ x ∷ after → ⊥
nothing_in x [] after is = absurd cc
nothing_in x (y ∷ before) after is = absurd cc

-- before the end, or at it
pub record IsWithin {X : Type 0} (xs : List X) (e x : X) (before after : List X) : Type 0 where
  pub rest : List X
  pub is : xs ≡ before ++ x ∷ rest
  pub after_is : after ≡ rest ++ e ∷ []

pub record IsAtEnd {X : Type 0} (xs : List X) (e x : X) (before after : List X) : Type 0 where
  pub before_is : before ≡ xs
  pub same : x ≡ e
  pub none : after ≡ []

pub where_in : {X : Type 0} (xs : List X) (e x : X) (before after : List X) → xs ++ e ∷ [] ≡ before ++ x ∷ after
    → IsWithin xs e x before after ⊎ IsAtEnd xs e x before after
where_in [] e x [] after is = let same : e ≡ x = cc in let none : [] ≡ after = cc in inr (record { before_is = refl; same = sym same; none = sym none })
where_in [] e x (y ∷ before) after is = let rest : [] ≡ before ++ x ∷ after = cc in absurd (nothing_in x before after rest)
where_in (z ∷ xs) e x [] after is = let same : z ≡ x = cc in let rest : xs ++ e ∷ [] ≡ after = cc in inl (record {
  rest = xs;
  is = ap (λ y. y ∷ xs) same;
  after_is = sym rest;
})
where_in {X = X} (z ∷ xs) e x (y ∷ before) after is =
    let same : z ≡ y = cc in
    let rest : xs ++ e ∷ [] ≡ before ++ x ∷ after = cc in
    elim (where_in xs e x before after rest) [
      | inl within ↦ inl (record {
        rest = within.rest;
        is = ap (λ (l : List X). z ∷ l) within.is ∙ ap (λ (u : X). u ∷ (before ++ x ∷ within.rest)) same;
        after_is = within.after_is;
      })
      | inr end ↦ inr (record {
        before_is = ap (λ (l : List X). y ∷ l) end.before_is ∙ ap (λ (u : X). u ∷ xs) (sym same);
        same = end.same;
        none = end.none;
      })
    ]
