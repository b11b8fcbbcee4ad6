use Rattle.std.proofs.Common.{◌∙◌, ap, sym, take, map, ◌-◌, List, ℕ, Bor}
use Rattle.std.proofs.lemmas.List.{take-map, length-map}
use Rattle.text_readers.specs.Words.{word}
use Rattle.air_check.proofs.line.packet_last.Goals as goal

pub returns-clause-front : goal.returns-clause-front
returns-clause-front c =
    let ws = c.args.words.now in
    let now : Bor (List ℕ) → List ℕ = λ w. w.now in
    let last = c.saturating_sub-last.ensures ∙ ap (λ n. n - 1) (sym (length-map ws now)) in
    sym (take-map now c.saturating_sub-last.result ws) ∙ ap (λ n. take n (map now ws)) last

pub returns-clause-last : goal.returns-clause-last
returns-clause-last c =
    let ws = c.args.words.now in
    let now : Bor (List ℕ) → List ℕ = λ w. w.now in
    let last = c.saturating_sub-last.ensures ∙ ap (λ n. n - 1) (sym (length-map ws now)) in
    c.word.ensures ∙ ap (λ n. word (map now ws) n) last
