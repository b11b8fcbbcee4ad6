use Rattle.std.proofs.Common.{◌≡◌, ℕ, List, [], ◌∷◌, ◌++◌, ◌∙◌, OnOk, append_assoc, ap, codes, decimal, map, rules, string_bytes, subst, sym}
use Rattle.std.specs.List.{join_with_byte}
use Rattle.text_writers.specs.HexWords.{payload_word}
use Rattle.bus_report.specs.ReportLines.{delivery_numbers}
use Rattle.bus_report.proofs.JoinedWords.{word_more}
use Rattle.bus_report.proofs.event_lines.write_delivery.Goals as goal

pub returns : goal.returns
returns c =
    let old = string_bytes c.args.text.now in
    let ended = c.end_with_payload in
    let payload : List ℕ = payload_word c.args.delivery.now.payload in
    let numbers : List (List ℕ) = map decimal (delivery_numbers c.args.delivery.now) in
    let wrote : string_bytes c.write_short_words.new.text ≡ old ++ join_with_byte 32 (codes "deliver" ∷ numbers) = search rules in
    subst (λ (l : List ℕ). OnOk ended.result (string_bytes ended.new.text ≡ l))
    (ap (λ (l : List ℕ). l ++ 32 ∷ payload ++ 10 ∷ []) wrote
    ∙ ap (λ (l : List ℕ). l ++ 10 ∷ [])
    (append_assoc old (join_with_byte 32 (codes "deliver" ∷ numbers)) (32 ∷ payload)
    ∙ ap (λ (l : List ℕ). old ++ l) (sym (word_more (codes "deliver") numbers payload)))
    ∙ append_assoc old (join_with_byte 32 (codes "deliver" ∷ numbers ++ payload ∷ [])) (10 ∷ []))
    ended.ensures
