-- Lists in order.
use Rattle.std.specs.Prelude.{◌≡◌, List, [], ◌∷◌, Bool, true}
use Rattle.std.specs.List.{AllByRecursion}

-- each element comes by all after it
abbrev pub IsOrdered : {X : Type 0} → (X → X → Bool) → List X → Type 0
IsOrdered by [] = Unit {0}
IsOrdered by (x ∷ xs) = AllByRecursion (λ y. by x y ≡ true) xs × IsOrdered by xs
