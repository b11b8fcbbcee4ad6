-- Words joined by spaces, one word more.
use Rattle.std.proofs.Common.{◌≡◌, ℕ, List, [], ◌∷◌, ◌++◌, refl, sym, ◌∙◌, ap}
use Rattle.std.specs.List.{join_with_byte}
use Rattle.std.proofs.lemmas.List.{append_assoc}

-- a word more
pub word_more : (w : List ℕ) (ws : List (List ℕ)) (v : List ℕ) → join_with_byte 32 (w ∷ ws ++ v ∷ []) ≡ join_with_byte 32 (w ∷ ws) ++ 32 ∷ v
word_more w [] v = refl
word_more w (x ∷ ws) v = ap (λ (l : List ℕ). w ++ 32 ∷ l) (word_more x ws v) ∙ sym (append_assoc w (32 ∷ join_with_byte 32 (x ∷ ws)) (32 ∷ v))
