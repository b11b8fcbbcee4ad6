-- Tests that are put together, and a test as a number.
use Rattle.std.proofs.Common.{◌≡◌, ℕ, Bool, true, false, not, ◌&&◌, ◌||◌, ◌==◌, if◌then◌else◌, refl, sym, true≢false}

pub implied : (a b : Bool) → (not a || b) ≡ true → a ≡ true → b ≡ true
implied true b is at = is
implied false b is at = absurd (true≢false (sym at))

pub both_not : (a b : Bool) → (not a && not b) ≡ true → (a ≡ false) × (b ≡ false)
both_not true b is = absurd (true≢false (sym is))
both_not false true is = absurd (true≢false (sym is))
both_not false false is = (refl, refl)

pub and_false : (b : Bool) → (b && false) ≡ false
and_false true = refl
and_false false = refl

pub same_truth : (a b : Bool) → (a ≡ true → b ≡ true) → (b ≡ true → a ≡ true) → a ≡ b
same_truth true b to from = sym (to refl)
same_truth false true to from = from refl
same_truth false false to from = refl

abbrev pub one_if : Bool → ℕ
one_if b = if b then 1 else 0

pub of_bit : (b : Bool) → ((if b then 1 else 0) == 1) ≡ b
of_bit true = refl
of_bit false = refl
