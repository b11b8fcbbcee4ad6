use Rattle.std.proofs.Common.{rules, ◌≡◌, ◌∙◌, ap, sym, map, true, List, ℕ, Bor}
use Rattle.air_check.specs.LogGrammar.{is_hex, last_word}
use Rattle.air_check.proofs.EntriesAdded.{heard_words}
use Rattle.air_check.proofs.line.heard.Goals as goal

pub returns : goal.returns
returns c =
    let ws : List (List ℕ) = map (λ (w : Bor (List ℕ)). w.now) c.args.words.now in
    let hex : is_hex (last_word ws) ≡ true = ap is_hex (sym c.packet_last.ensures.last) ∙ sym c.is_hex.ensures ∙ c.if-not-is_hex.false in
    rw (heard_words ws hex) (search rules)
