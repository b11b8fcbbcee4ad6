use Rattle.std.proofs.Common.{◌≤◌, ◌*◌, ◌+◌, get_or, arith, rules, refl, sym, ◌∙◌, ℕ, ap}
use Rattle.text_readers.proofs.Digits.{shifted, bounded, value_more, digit_range, digits_more}
use Rattle.text_readers.proofs.numbers.value.Goals as goal

pub overflow_mul-value : goal.overflow_mul-value
overflow_mul-value c = let b = bounded c.loop-b.value 0 c.loop-b.b-index c.loop-b.invariant.fits (omega arith) (omega arith) in search (rules, b)

pub overflow_add-value : goal.overflow_add-value
overflow_add-value c =
    let digit = digit_range (get_or c.args.digits.now c.loop-b.b-index 0) (sym c.is_ascii_digit.ensures.value ∙ c.if-not-is_ascii_digit.false) in
    let small : c.from.result ≤ 9 = omega (arith, c.from.ensures, digit.1) in
    let b = bounded c.loop-b.value c.from.result c.loop-b.b-index c.loop-b.invariant.fits small (omega arith) in search (rules, b)

pub loop-b-preserved : goal.loop-b-preserved
loop-b-preserved c =
    let is = sym c.is_ascii_digit.ensures.value ∙ c.if-not-is_ascii_digit.false in
    let digit = digit_range (get_or c.args.digits.now c.loop-b.b-index 0) is in
    let small : c.from.result ≤ 9 = omega (arith, c.from.ensures, digit.1) in
    record {
      digits = digits_more c.args.digits.now c.loop-b.b-index c.loop-b-test.true c.loop-b.invariant.digits is;
      value =
          ap (λ (x : ℕ). 10 * c.loop-b.value + x) c.from.ensures
          ∙ value_more c.args.digits.now c.loop-b.b-index c.loop-b.value
          (get_or c.args.digits.now c.loop-b.b-index 0) c.loop-b-test.true refl digit.0 digit.1 c.loop-b.invariant.value;
      fits = shifted c.loop-b.value c.from.result c.loop-b.b-index c.loop-b.invariant.fits small;
    }
