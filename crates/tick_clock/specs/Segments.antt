-- The segments that a clock keeps, each with what it has counted by its start.
use Rattle.std.specs.Prelude.{◌≡◌, ℕ, zero, suc, ◌+◌, ◌-◌, ◌*◌, ◌^◌, ◌<◌, ◌≤◌, List, [], ◌∷◌, ⊤, ℤ, pos, Bool, true, false, nat_le, nat_lt}
use Rattle.std.specs.Int.RustNames.{unsigned_abs}
use Rattle.std.specs.Coded.{×_prop, Unit-prop}
use Rattle.std.proofs.Props.{props}
use Rattle.lwb_base.specs.declared.limits.TheConstants.{DRIFT_BOUND}
use Rattle.tick_clock.specs.declared.segment.Segment.{Segment}
use Rattle.tick_clock.specs.Rates.{shifted}

-- the entry of rates that it stands for
abbrev pub rate_entry_of : Segment → ℕ × ℤ
rate_entry_of s = (s.start, s.ppm)

-- the millionths of a tick that the clock counts in a tick
abbrev pub pace_of : ℤ → ℕ
pace_of ppm = shifted 1000000 ppm

-- what the clock has counted by tick t, in millionths of a tick, if this segment lasts until then
abbrev pub count_until : Segment → ℕ → ℕ
count_until s t = s.count + pace_of s.ppm * (t - s.start)

-- before the first rate
abbrev pub first_segment : Segment
first_segment = record { start = 0; ppm = pos 0; count = 0 }

-- s follows r, and its count is what r has counted by then
abbrev pub Follows : Segment → Segment → Type 0
Follows r s =
    (r.start ≤ s.start) × (s.start < 2 ^ 47) × (unsigned_abs s.ppm ≤ DRIFT_BOUND)
    × (s.count ≤ count_until r s.start) × (count_until r s.start ≤ s.count)

-- these segments come one after another, after r
abbrev pub AreSegmentsAfter : Segment → List Segment → Type 0
AreSegmentsAfter r [] = ⊤
AreSegmentsAfter r (s ∷ ss) = Follows r s × AreSegmentsAfter s ss

pub AreKept-prop : (r : Segment) (ss : List Segment) → IsProp (AreSegmentsAfter r ss)
AreKept-prop r [] = Unit-prop
AreKept-prop r (s ∷ ss) = ×_prop (hlevel props) (AreKept-prop s ss)

-- the last of the first n segments, or r where n is 0
abbrev pub last_segment : Segment → List Segment → ℕ → Segment
last_segment r ss zero = r
last_segment r [] (suc n) = r
last_segment r (s ∷ ss) (suc n) = last_segment s ss n

abbrev pub has_begun : ℕ → Segment → Bool
has_begun t s = nat_le s.start t

abbrev pub counts_less : ℕ → Segment → Bool
counts_less count s = nat_lt s.count count

-- the first n segments pass, and the next does not
abbrev pub Splits : (Segment → Bool) → List Segment → ℕ → Type 0
Splits passes [] zero = ⊤
Splits passes [] (suc n) = ⊥
Splits passes (s ∷ ss) zero = passes s ≡ false
Splits passes (s ∷ ss) (suc n) = (passes s ≡ true) × Splits passes ss n

-- s is the last segment that passes, or the stretch before the first
abbrev pub IsLast : (Segment → Bool) → List Segment → Segment → Type 0
IsLast passes ss s = (n : ℕ) × Splits passes ss n × (s ≡ last_segment first_segment ss n)
