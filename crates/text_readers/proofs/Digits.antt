-- Decimal digits and their value.
use Rattle.std.proofs.Common.{◌&&◌, Bool, ◌≡◌, ℕ, ◌+◌, ◌-◌, ◌*◌, ◌^◌, ◌<◌, ◌≤◌, List, true, length, get_or, take, ap, ◌∙◌, arith, add-one}
use Rattle.std.proofs.Math.Nat.{pow-suc, pow-le-pow_right}
use Rattle.std.proofs.lemmas.Bool.{and_parts, leb-true}
use Rattle.std.proofs.lemmas.Bool.Decides.{nat_tests}
use Rattle.std.proofs.lemmas.Int.Digits.{digits_value_more}
use Rattle.std.proofs.lemmas.List.Folds.{list_all_more}
use Rattle.std.specs.List.{list_all}
use Rattle.std.specs.Char.{is_ascii_digit, digit_value}
use Rattle.std.specs.Str.Parse.{digits_value}

pub shifted : (v d i : ℕ) → v < 10 ^ i → d ≤ 9 → 10 * v + d < 10 ^ (i + 1)
shifted v d i small digit = rw (add-one, pow-suc) (omega arith)

pub bounded : (v d i : ℕ) → v < 10 ^ i → d ≤ 9 → i ≤ 12 → 10 * v + d < 2 ^ 64
bounded v d i small digit few = omega (arith, shifted v d i small digit, pow-le-pow_right {n = 10} (omega arith) {i = i + 1} {j = 13} (omega arith))

pub digit_is : (c : ℕ) → 48 ≤ c → c ≤ 57 → digit_value c ≡ c - 48
digit_is c low high = grind (arith, nat_tests)

-- the next digit
pub value_more : (ds : List ℕ) (i v c : ℕ) → i < length ds → c ≡ get_or ds i 0 → 48 ≤ c → c ≤ 57 → v ≡ digits_value 10 (take i ds)
    → 10 * v + (c - 48) ≡ digits_value 10 (take (i + 1) ds)
value_more ds i v c below is low high so_far = omega (arith, digits_value_more 10 ds i below, digit_is c low high, ap digit_value is, so_far)

-- where a digit stands among the bytes
pub digit_range : (c : ℕ) → is_ascii_digit c ≡ true → (48 ≤ c) × (c ≤ 57)
digit_range c is = let both = and_parts _ _ is in (leb-true _ _ both.0, leb-true _ _ both.1)

-- one digit more
pub digits_more : (ds : List ℕ) (i : ℕ) → i < length ds → list_all is_ascii_digit (take i ds) ≡ true → is_ascii_digit (get_or ds i 0) ≡ true
    → list_all is_ascii_digit (take (i + 1) ds) ≡ true
digits_more ds i below so_far is =
    list_all_more is_ascii_digit ds i 0 below ∙ ap (λ (b : Bool). b && is_ascii_digit (get_or ds i 0)) so_far ∙ is
