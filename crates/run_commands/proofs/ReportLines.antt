-- A line of owners, one more.
use Rattle.std.proofs.Common.{◌≡◌, ℕ, ◌+◌, ◌<◌, List, [], ◌∷◌, ◌++◌, length, take, map, get_or, decimal, refl, sym, ◌∙◌, ap}
use Rattle.std.specs.List.{join_with_byte}
use Rattle.std.proofs.lemmas.List.{take_more, map-append}
use Rattle.bus_report.proofs.JoinedWords.{word_more}

-- a number more
pub owner_more : (w : List ℕ) (frame i : ℕ) (owners : List ℕ) (o : ℕ) → i < length owners → o ≡ get_or owners i 0
    → join_with_byte 32 (w ∷ map decimal (frame ∷ take (i + 1) owners)) ≡ join_with_byte 32 (w ∷ map decimal (frame ∷ take i owners)) ++ 32 ∷ decimal o
owner_more w frame i owners o below at =
    let more : take (i + 1) owners ≡ take i owners ++ o ∷ [] = take_more owners i 0 below ∙ ap (λ (x : ℕ). take i owners ++ x ∷ []) (sym at) in
    ap (λ (l : List ℕ). join_with_byte 32 (w ∷ map decimal (frame ∷ l))) more
    ∙ ap (λ (l : List (List ℕ)). join_with_byte 32 (w ∷ decimal frame ∷ l)) (map-append decimal (take i owners) (o ∷ []))
    ∙ word_more w (map decimal (frame ∷ take i owners)) (decimal o)
