-- Lists put in order, where elements that the order leaves equal stay in theirs.
use Rattle.std.specs.Prelude.{List, [], ◌∷◌, Bool, if◌then◌else◌}

-- x in front of the first that is not before it
abbrev pub with_inserted : {X : Type 0} → (X → X → Bool) → X → List X → List X
with_inserted before x [] = x ∷ []
with_inserted before x (y ∷ ys) = if before y x then y ∷ with_inserted before x ys else x ∷ y ∷ ys

-- each in its place among those that come after it in the list
abbrev pub in_order : {X : Type 0} → (X → X → Bool) → List X → List X
in_order before [] = []
in_order before (x ∷ xs) = with_inserted before x (in_order before xs)
