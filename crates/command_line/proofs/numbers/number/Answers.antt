use Rattle.std.proofs.Common.{◌≡◌, ℕ, Some, decimal, true, false, sym, ◌∙◌, ap, arith}
use Rattle.command_line.proofs.DecimalWords.{plain, parses_what_it_spells, spells_none, some_same, ok_same, err_or_ok, none_or_some}
use Rattle.command_line.proofs.numbers.number.Goals as goal

pub returns-then-not-is_plain : goal.returns-then-not-is_plain
returns-then-not-is_plain c =
    λ n.
    let not : plain c.args.word.now ≡ false = ap plain (sym c.as_bytes.ensures.value) ∙ sym c.is_plain.ensures ∙ c.if-not-is_plain.true in
    (λ is. absurd (none_or_some n is), λ both. absurd (spells_none c.args.word.now n not (omega (arith, both.1)) both.0))

pub returns-in-Ok : goal.returns-in-Ok
returns-in-Ok c =
    λ n.
    let is : plain c.args.word.now ≡ true = ap plain (sym c.as_bytes.ensures.value) ∙ sym c.is_plain.ensures ∙ c.if-not-is_plain.false in
    let few = c.if-number-lt10000000000000.true in
    let own = parses_what_it_spells c.args.word.now c.parse.result c.in-Ok.number c.parse.ensures.value.0 is (omega arith) in (
      (λ same. let at = some_same c.in-Ok.number n same in (own.0 c.in-Ok.is ∙ ap decimal at, omega (arith, at))),
      λ both. ap (λ (m : ℕ). Some m)
          (ok_same c.in-Ok.number n
          (sym c.in-Ok.is ∙ (parses_what_it_spells c.args.word.now c.parse.result n c.parse.ensures.value.0 is (omega (arith, both.1))).1 both.0)),
    )

pub returns-in_default : goal.returns-in_default
returns-in_default c =
    λ n.
    let is : plain c.args.word.now ≡ true = ap plain (sym c.as_bytes.ensures.value) ∙ sym c.is_plain.ensures ∙ c.if-not-is_plain.false in (
      (λ none. absurd (none_or_some n none)),
      λ both.
          let same : c.in-Ok.number ≡ n = ok_same c.in-Ok.number n
          (sym c.in-Ok.is ∙ (parses_what_it_spells c.args.word.now c.parse.result n c.parse.ensures.value.0 is (omega (arith, both.1))).1 both.0) in
          absurd (omega (arith, same, both.1, c.if-number-lt10000000000000.false)),
    )

pub returns-in_default-2 : goal.returns-in_default-2
returns-in_default-2 c =
    λ n.
    let is : plain c.args.word.now ≡ true = ap plain (sym c.as_bytes.ensures.value) ∙ sym c.is_plain.ensures ∙ c.if-not-is_plain.false in (
      (λ none. absurd (none_or_some n none)),
      λ both. absurd (err_or_ok c.in_default.field-0 n
          (sym c.in_default.is ∙ (parses_what_it_spells c.args.word.now c.parse.result n c.parse.ensures.value.0 is (omega (arith, both.1))).1 both.0)),
    )
