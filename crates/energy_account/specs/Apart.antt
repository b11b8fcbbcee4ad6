-- Times that lie one after another.
use Rattle.std.specs.Prelude.{ℕ, ◌≤◌, List, [], ◌∷◌, ⊤}

-- from tick `since` on, and each begins when the one before it has ended
abbrev pub AreApart : {X : Type 0} → (X → ℕ) → (X → ℕ) → ℕ → List X → Type 0
AreApart start end since [] = ⊤
AreApart start end since (x ∷ xs) = (since ≤ start x) × (start x ≤ end x) × AreApart start end (end x) xs
