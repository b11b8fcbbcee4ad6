-- A clock by its rates: each entry has a tick and the rate from that tick on, in millionths.
use Rattle.std.specs.Prelude.{ℕ, zero, suc, ◌+◌, ◌-◌, List, [], ◌∷◌, ℤ, pos, negsuc, ◌+ℤ◌, Bool, if◌then◌else◌, nat_le, nat_lt, position, drop, option_map}
use Rattle.std.specs.declared.option.Option.{Option}
use Rattle.std.specs.List.{zip}
use Rattle.std.specs.Int.{int_div_euclid}
use Rattle.std.specs.Int.RustNames.{unsigned_abs}
use Rattle.lwb_base.specs.declared.limits.TheConstants.{DRIFT_BOUND}

-- the rate of the last entry that has begun by tick t, else the given one
abbrev pub rate_from : ℤ → List (ℕ × ℤ) → ℕ → ℤ
rate_from rate [] t = rate
rate_from rate (r ∷ rs) t = rate_from (if nat_le r.0 t then r.1 else rate) rs t

-- the rate in force at tick t, which is 0 before the first entry
abbrev pub rate_at : List (ℕ × ℤ) → ℕ → ℤ
rate_at rates t = rate_from (pos 0) rates t

-- the sum over the ticks before t of the rate in force
unfoldable pub sum_before : List (ℕ × ℤ) → ℕ → ℤ
sum_before rates zero = pos 0
sum_before rates (suc t) = sum_before rates t +ℤ rate_at rates t

-- a number moved up or down
abbrev pub shifted : ℕ → ℤ → ℕ
shifted n (pos more) = n + more
shifted n (negsuc less) = n - suc less

-- offset + t + floor(S / 1,000,000), where S is the sum of the rates before t
abbrev pub segment_reading : ℕ → List (ℕ × ℤ) → ℕ → ℕ
segment_reading offset rates t = shifted (offset + t) (int_div_euclid (sum_before rates t) (pos 1000000))

-- the rate of an entry is beyond the drift bound
abbrev pub is_wild : ℕ × ℤ → Bool
is_wild r = nat_lt DRIFT_BOUND (unsigned_abs r.1)

-- the first entry whose rate is beyond the drift bound
abbrev pub wild_at : List (ℕ × ℤ) → Option ℕ
wild_at rates = position is_wild rates

-- the start of the second of two entries is not above that of the first
abbrev pub is_late : (ℕ × ℤ) × (ℕ × ℤ) → Bool
is_late p = nat_le p.1.0 p.0.0

-- the first entry whose start is not above the one before
abbrev pub unordered_at : List (ℕ × ℤ) → Option ℕ
unordered_at rates = option_map (λ i. i + 1) (position is_late (zip rates (drop 1 rates)))
