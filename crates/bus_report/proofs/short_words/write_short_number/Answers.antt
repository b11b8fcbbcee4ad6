use Rattle.std.proofs.Common.{rules, ◌≡◌, ◌<◌, ◌+◌, ◌++◌, ◌∷◌, [], ℕ, List, OnOk, append_assoc, ap, arith, decimal, string_bytes, subst, sym, ◌∙◌}
use Rattle.std.proofs.lemmas.Fmt.{decimal_digit}
use Rattle.bus_report.proofs.short_words.write_short_number.Goals as goal

pub returns : goal.returns
returns c =
    let n = c.args.number in
    let small : n < 10 = omega (arith, c.if-number-ge10.false) in
    let digit : decimal n ≡ (48 + n) ∷ [] = decimal_digit n small in
    let code : c.from.result ≡ 48 + n = omega (arith, c.from.ensures, small) in
    let space : string_bytes c.push.new.self ≡ string_bytes c.args.text.now ++ 32 ∷ [] = search rules in
    let low : c.from.result < 128 = omega (arith, code, small) in
    let pushed : OnOk c.push-2.result (string_bytes c.push-2.new.self ≡ string_bytes c.push.new.self ++ c.from.result ∷ []) = search (rules, low) in
    let whole : string_bytes c.push.new.self ++ c.from.result ∷ [] ≡ string_bytes c.args.text.now ++ 32 ∷ decimal n =
    ap (λ (l : List ℕ). l ++ c.from.result ∷ []) space ∙ append_assoc (string_bytes c.args.text.now) (32 ∷ []) (c.from.result ∷ [])
    ∙ ap (λ (k : ℕ). string_bytes c.args.text.now ++ 32 ∷ k ∷ []) code ∙ ap (λ (l : List ℕ). string_bytes c.args.text.now ++ 32 ∷ l) (sym digit) in
    subst (λ (l : List ℕ). OnOk c.push-2.result (string_bytes c.push-2.new.self ≡ l)) whole pushed
