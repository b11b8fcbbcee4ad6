-- Words after a first one, each after a space.
use Rattle.std.proofs.Common.{◌≡◌, ℕ, List, [], ◌∷◌, ◌++◌, map, flat_map, sym, ap, append-nil}
use Rattle.std.specs.List.{join_with_byte}

pub joined : {A : Type 0} (text : A → List ℕ) (word : List ℕ) (xs : List A) → join_with_byte 32 (word ∷ map text xs) ≡ word ++ flat_map (λ x. 32 ∷ text x) xs
joined text word [] = sym (append-nil word)
joined text word (x ∷ xs) = ap (λ (l : List ℕ). word ++ 32 ∷ l) (joined text (text x) xs)
