-- Words that spell a number.
use Rattle.std.proofs.Common.{◌≡◌, ◌≢◌, ℕ, ◌<◌, ◌^◌, zero, suc, List, [], ◌∷◌, Bool, true, false, ◌||◌, Result, Ok, Err, Option, Some, None, ◌↔◌, length}
use Rattle.std.proofs.Common.{get_or, slice_index, decimal, nat_lt, sym, ◌∙◌, ap, arith, ⊎_elim}
use Rattle.std.specs.Str.{bytes_eq}
use Rattle.std.specs.Str.Parse.{AllDigits, digits_value, ParsesUnsigned}
use Rattle.std.proofs.lemmas.Bool.{or_cases, or_right, ltb-true, lt-ltb, false≢true}
use Rattle.std.proofs.lemmas.Slice.Eq.{bytes_eq-Decides}
use Rattle.std.proofs.lemmas.Str.Parse.{IsNumeralModel, numerals_by_value, tells_digits, parse_plain}
use Rattle.std.proofs.lemmas.Fmt.{decimal-digits_value, parse-decimal, first_decimal, decimal_digit}

own : IsNumeralModel (AllDigits 10) (digits_value 10)
own = numerals_by_value (AllDigits 10) tells_digits

abbrev pub plain : List ℕ → Bool
plain bs = bytes_eq bs (48 ∷ []) || nat_lt 48 (slice_index bs 0)

-- such a word begins with no sign, and with a zero only where it is one
pub unsigned : (bs : List ℕ) → plain bs ≡ true → get_or bs 0 0 ≢ 43
unsigned bs is =
    ⊎_elim
    (λ one. λ sign. let zero_first : get_or bs 0 0 ≡ 48 = ap (λ (l : List ℕ). get_or l 0 0) ((bytes_eq-Decides bs (48 ∷ [])).0 one) in
    absurd (omega (arith, zero_first, sign)))
    (λ high. λ sign. absurd (omega (arith, ltb-true 48 (slice_index bs 0) high, sign)))
    (or_cases _ _ is)

pub no_leading_zero : (bs : List ℕ) → plain bs ≡ true → get_or bs 0 0 ≡ 48 → length bs ≡ 1
no_leading_zero bs is first =
    ⊎_elim
    (λ one. ap length ((bytes_eq-Decides bs (48 ∷ [])).0 one))
    (λ high. absurd (omega (arith, ltb-true 48 (slice_index bs 0) high, first)))
    (or_cases _ _ is)

pub plain_decimal : (n : ℕ) → n < 2 ^ 64 → plain (decimal n) ≡ true
plain_decimal zero few = ap plain (decimal_digit 0 (omega arith))
plain_decimal (suc n) few = or_right (bytes_eq (decimal (suc n)) (48 ∷ [])) _ (lt-ltb 48 _ (first_decimal (suc n) (omega arith) few))

-- answers that differ
pub some_same : (x n : ℕ) → ◌≡◌ {A = Option ℕ} (Some x) (Some n) → x ≡ n
some_same x n same = cc

pub none_or_some : (n : ℕ) → ◌≡◌ {A = Option ℕ} None (Some n) → ⊥
none_or_some n same = cc

pub ok_same : {E : Type 0} (x n : ℕ) → ◌≡◌ {A = Result ℕ E} (Ok x) (Ok n) → x ≡ n
ok_same x n same = cc

pub err_or_ok : {E : Type 0} (e : E) (n : ℕ) → ◌≡◌ {A = Result ℕ E} (Err e) (Ok n) → ⊥
err_or_ok e n same = cc

-- a plain word is parsed to just the number that it spells
spelled : {E : Type 0} (bs : List ℕ) (r : Result ℕ E) (n : ℕ) → ParsesUnsigned 64 10 bs r → plain bs ≡ true → r ≡ Ok n → bs ≡ decimal n
spelled bs (Err e) n parses is ok = absurd (err_or_ok e n ok)
spelled {E} bs (Ok x) n parses is ok =
    let parts = parse_plain own {E = E} 64 bs (Ok x) parses (unsigned bs is) in
    sym (decimal-digits_value own bs parts.0.0 parts.0.1 (no_leading_zero bs is) parts.0.2) ∙ ap decimal (sym parts.1 ∙ ok_same x n ok)

pub parses_what_it_spells : {E : Type 0} (bs : List ℕ) (r : Result ℕ E) (n : ℕ) → ParsesUnsigned 64 10 bs r → plain bs ≡ true → n < 2 ^ 64 → (r ≡ Ok n)
    ↔ (bs ≡ decimal n)
parses_what_it_spells bs r n parses is few = (spelled bs r n parses is, λ same. parse-decimal 64 n bs r few few same parses)

-- a word that is not plain spells none
pub spells_none : (bs : List ℕ) (n : ℕ) → plain bs ≡ false → n < 2 ^ 64 → bs ≡ decimal n → ⊥
spells_none bs n not few same = false≢true (sym not ∙ ap plain same ∙ plain_decimal n few)
