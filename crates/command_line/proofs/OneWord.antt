-- A command line of one word.
use Rattle.std.proofs.Common.{◌≡◌, ℕ, List, [], ◌∷◌, Bool, length, map, get_or, ◌↔◌, IsTrue, String, string_bytes, sym, ◌∙◌, ap, arith}
use Rattle.std.specs.declared.alloc.Global.{Global}
use Rattle.std.specs.Str.{bytes_eq}
use Rattle.std.proofs.lemmas.Slice.Eq.{bytes_eq-Decides}

one_of : (words : List (String Global)) (w : String Global) → length words ≡ 1 → w ≡ get_or words 0 w → words ≡ w ∷ []
one_of [] w one is = absurd (omega arith)
one_of (x ∷ []) w one is = ap (λ (y : String Global). y ∷ []) (sym is)
one_of (x ∷ y ∷ words) w one is = absurd (omega arith)

head_is : (xs ys : List ℕ) → xs ∷ [] ≡ ys ∷ [] → xs ≡ ys
head_is xs ys same = cc

pub one_word : (words : List (String Global)) (w : String Global) (text : List ℕ) (b : Bool) → length words ≡ 1 → w ≡ get_or words 0 w
    → b ≡ bytes_eq (string_bytes w) text → IsTrue b ↔ (map string_bytes words ≡ text ∷ [])
one_word words w text b one is test =
    let whole : map string_bytes words ≡ string_bytes w ∷ [] = ap (λ (l : List (String Global)). map string_bytes l) (one_of words w one is) in
    let decides = bytes_eq-Decides (string_bytes w) text in (
      (λ yes. whole ∙ ap (λ (l : List ℕ). l ∷ []) (decides.0 (sym test ∙ yes))),
      λ same. test ∙ decides.1 (head_is (string_bytes w) text (sym whole ∙ same)),
    )
