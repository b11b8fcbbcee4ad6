-- Words joined by spaces, some at a time.
use Rattle.std.proofs.Common.{◌≡◌, ℕ, List, [], ◌∷◌, ◌++◌, append_assoc, append-nil, flat_map, sym, ◌∙◌, ap}
use Rattle.std.specs.List.{join_with_byte}
use Rattle.fate_report.specs.FateLines.{after_space}

-- words more
pub words_more : (w : List ℕ) (ws vs : List (List ℕ)) → join_with_byte 32 (w ∷ ws ++ vs) ≡ join_with_byte 32 (w ∷ ws) ++ flat_map after_space vs
words_more w [] [] = sym (append-nil w)
words_more w [] (v ∷ vs) = ap (λ (l : List ℕ). w ++ 32 ∷ l) (words_more v [] vs)
words_more w (x ∷ ws) vs =
    ap (λ (l : List ℕ). w ++ 32 ∷ l) (words_more x ws vs)
    ∙ sym (append_assoc w (32 ∷ join_with_byte 32 (x ∷ ws)) (flat_map after_space vs))

-- a space and words
pub after_one : (w : List ℕ) (ws : List (List ℕ)) → 32 ∷ join_with_byte 32 (w ∷ ws) ≡ flat_map after_space (w ∷ ws)
after_one w ws = ap (λ (l : List ℕ). 32 ∷ l) (words_more w [] ws)

-- a line whose words are written some at a time
pub line_in_parts : (old w : List ℕ) (ws ps fs : List (List ℕ))
    → (((old ++ join_with_byte 32 (w ∷ ws)) ++ flat_map after_space ps) ++ flat_map after_space fs) ++ 10 ∷ []
    ≡ old ++ (join_with_byte 32 (w ∷ ws ++ ps ++ fs) ++ 10 ∷ [])
line_in_parts old w ws ps fs =
    let third : List ℕ = flat_map after_space fs in
    ap (λ (l : List ℕ). (l ++ third) ++ 10 ∷ [])
    (append_assoc old (join_with_byte 32 (w ∷ ws)) (flat_map after_space ps) ∙ ap (λ (l : List ℕ). old ++ l) (sym (words_more w ws ps)))
    ∙ ap (λ (l : List ℕ). l ++ 10 ∷ [])
    (append_assoc old (join_with_byte 32 (w ∷ ws ++ ps)) third ∙ ap (λ (l : List ℕ). old ++ l) (sym (words_more w (ws ++ ps) fs)))
    ∙ append_assoc old (join_with_byte 32 (w ∷ ws ++ ps ++ fs)) (10 ∷ [])
