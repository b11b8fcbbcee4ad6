-- A clock by its rates keeps the drift law, as what it counts in each tick is a natural number of millionths.
use Rattle.std.proofs.Common.{◌≡◌, ℕ, zero, suc, ◌+◌, ◌-◌, ◌*◌, ◌/◌, ◌≤◌, List, [], ◌∷◌, Bool, true, false, if◌then◌else◌, nat_le, refl, ap, arith}
use Rattle.std.specs.Prelude.{ℤ, pos, negsuc, ◌+ℤ◌, ⊤}
use Rattle.std.proofs.lemmas.Int.{ints}
use Rattle.std.specs.Int.{int_div_euclid}
use Rattle.std.specs.Int.RustNames.{unsigned_abs}
use Rattle.lwb_base.specs.declared.limits.TheConstants.{DRIFT_BOUND}
use Rattle.tick_clock.specs.Clocks.{IsClock}
use Rattle.tick_clock.specs.Rates.{rate_from, rate_at, sum_before, shifted, segment_reading}

-- no rate is beyond the drift bound
abbrev pub AreTame : List (ℕ × ℤ) → Type 0
AreTame [] = ⊤
AreTame (r ∷ rs) = (unsigned_abs r.1 ≤ DRIFT_BOUND) × AreTame rs

chosen : (b : Bool) (z w : ℤ) → unsigned_abs z ≤ DRIFT_BOUND → unsigned_abs w ≤ DRIFT_BOUND → unsigned_abs (if b then z else w) ≤ DRIFT_BOUND
chosen true z w small other = small
chosen false z w small other = other

tame_from : (z : ℤ) (rs : List (ℕ × ℤ)) (t : ℕ) → unsigned_abs z ≤ DRIFT_BOUND → AreTame rs → unsigned_abs (rate_from z rs t) ≤ DRIFT_BOUND
tame_from z [] t small tame = small
tame_from z (r ∷ rs) t small tame = tame_from (if nat_le r.0 t then r.1 else z) rs t (chosen (nat_le r.0 t) r.1 z tame.0 small) tame.1

-- what is counted before t, in millionths
unfoldable pub count_before : List (ℕ × ℤ) → ℕ → ℕ
count_before rates zero = zero
count_before rates (suc t) = count_before rates t + shifted 1000000 (rate_at rates t)

pub pace_range : (z : ℤ) → unsigned_abs z ≤ DRIFT_BOUND → (1000000 - DRIFT_BOUND ≤ shifted 1000000 z) × (shifted 1000000 z ≤ 1000000 + DRIFT_BOUND)
pace_range (pos n) small = omega arith
pace_range (negsuc n) small = omega arith

pace_is : (z : ℤ) → unsigned_abs z ≤ DRIFT_BOUND → pos (shifted 1000000 z) ≡ pos 1000000 +ℤ z
pace_is (pos n) small = refl
pace_is (negsuc n) small = omega (arith, ints)

-- the sum of the rates is what is counted beyond the ticks
pub sum_is : (rates : List (ℕ × ℤ)) (t : ℕ) → AreTame rates → pos (count_before rates t) ≡ pos (1000000 * t) +ℤ sum_before rates t
unfolding count_before sum_before
sum_is rates zero tame = refl
sum_is rates (suc t) tame =
    let before = sum_is rates t tame in
    let now = pace_is (rate_at rates t) (tame_from (pos 0) rates t (omega arith) tame) in
    omega (arith, ints, before, now)

floor_is : (n t c : ℕ) (s : ℤ) → pos c ≡ pos (1000000 * t) +ℤ s
    → shifted (n + t) (int_div_euclid s (pos 1000000)) ≡ n + c / 1000000
floor_is n t c (pos s) is = omega (arith, ints, is)
floor_is n t c (negsuc s) is = omega (arith, ints, is)

pub reading_is : (offset : ℕ) (rates : List (ℕ × ℤ)) (t : ℕ) → AreTame rates
    → segment_reading offset rates t ≡ offset + count_before rates t / 1000000
reading_is offset rates t tame = floor_is offset t (count_before rates t) (sum_before rates t) (sum_is rates t tame)

-- over d ticks
pub count_range : (rates : List (ℕ × ℤ)) (t d : ℕ) → AreTame rates
    → (count_before rates t + (1000000 - DRIFT_BOUND) * d ≤ count_before rates (t + d))
    × (count_before rates (t + d) ≤ count_before rates t + (1000000 + DRIFT_BOUND) * d)
unfolding count_before
count_range rates t zero tame =
    let same : count_before rates (t + zero) ≡ count_before rates t = ap (count_before rates) (omega arith) in
    omega arith
count_range rates t (suc d) tame =
    let before = count_range rates t d tame in
    let now = pace_range (rate_at rates (t + d)) (tame_from (pos 0) rates (t + d) (omega arith) tame) in
    let tick : t + suc d ≡ suc (t + d) = omega arith in
    let next : count_before rates (t + suc d) ≡ count_before rates (t + d) + shifted 1000000 (rate_at rates (t + d)) = ap (count_before rates) tick in
    omega (arith, before, now, next)

pub rates_law : (offset : ℕ) (rates : List (ℕ × ℤ)) → offset ≤ 256000 → AreTame rates → IsClock (segment_reading offset rates)
unfolding count_before
rates_law offset rates early tame = record {
  begins = omega (arith, reading_is offset rates 0 tame);
  fast = λ t d within. omega (arith, reading_is offset rates t tame, reading_is offset rates (t + d) tame, count_range rates t d tame);
  slow = λ t d within. omega (arith, reading_is offset rates t tame, reading_is offset rates (t + d) tame, count_range rates t d tame);
}
