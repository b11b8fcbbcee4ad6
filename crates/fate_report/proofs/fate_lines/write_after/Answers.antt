use Rattle.std.proofs.Common.{rules, ◌≡◌, ◌++◌, ◌∷◌, [], ℕ, List, OnOk, append_assoc, ap, decimal, map, string_bytes, subst, ◌∙◌}
use Rattle.std.specs.List.{join_with_byte}
use Rattle.fate_report.proofs.WordsInTurn.{after_one}
use Rattle.fate_report.proofs.fate_lines.write_after.Goals as goal

pub returns : goal.returns
returns c =
    let old = string_bytes c.args.text.now in
    let numbers : List (List ℕ) = map decimal c.args.numbers.now in
    let space : string_bytes c.push.new.self ≡ old ++ 32 ∷ [] = search rules in
    subst (λ (l : List ℕ). OnOk c.write_words.result (string_bytes c.write_words.new.text ≡ l))
    (ap (λ (l : List ℕ). l ++ join_with_byte 32 (c.args.word.now ∷ numbers)) space
    ∙ append_assoc old (32 ∷ []) (join_with_byte 32 (c.args.word.now ∷ numbers))
    ∙ ap (λ (l : List ℕ). old ++ l) (after_one c.args.word.now numbers))
    c.write_words.ensures
