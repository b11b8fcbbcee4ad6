use Rattle.std.proofs.Common.{◌≡◌, ◌++◌, ◌∷◌, [], ℕ, List, OnOk, ap, codes, decimal, flat_map, map, rules, string_bytes, subst, ◌∙◌}
use Rattle.std.specs.List.{join_with_byte}
use Rattle.fate_report.specs.FateLines.{after_space, fate_words, packet_words, put_words}
use Rattle.fate_report.proofs.WordsInTurn.{line_in_parts}
use Rattle.fate_report.proofs.fate_lines.write_fate.Goals as goal

pub returns : goal.returns
returns c =
    let old = string_bytes c.args.text.now in
    let fate = c.args.fate.now in
    let packet : List (List ℕ) = packet_words fate.put.packet in
    let became : List (List ℕ) = fate_words fate.fate in
    let put : string_bytes c.write_put.new.text ≡ old ++ join_with_byte 32 (put_words fate.put) = search rules in
    let packeted : string_bytes c.write_packet.new.text ≡ string_bytes c.write_put.new.text ++ flat_map after_space packet = search rules in
    let all : string_bytes c.write_what_became.new.text ≡ string_bytes c.write_packet.new.text ++ flat_map after_space became = search rules in
    subst (λ (l : List ℕ). OnOk c.end_line.result (string_bytes c.end_line.new.text ≡ l))
    (ap (λ (l : List ℕ). l ++ 10 ∷ []) all
    ∙ ap (λ (l : List ℕ). (l ++ flat_map after_space became) ++ 10 ∷ []) packeted
    ∙ ap (λ (l : List ℕ). ((l ++ flat_map after_space packet) ++ flat_map after_space became) ++ 10 ∷ []) put
    ∙ line_in_parts old (codes "put") (map decimal (fate.put.frame ∷ fate.put.node ∷ fate.put.stream ∷ [])) packet became)
    c.end_line.ensures
