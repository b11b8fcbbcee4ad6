-- A clock by its kept segments keeps the drift law.
use Rattle.std.proofs.Common.{ℕ, ◌≤◌, List, [], ◌∷◌, map}
use Rattle.tick_clock.specs.declared.segment.Segment.{Segment}
use Rattle.tick_clock.specs.Clocks.{IsClock}
use Rattle.tick_clock.specs.Rates.{segment_reading}
use Rattle.tick_clock.specs.RatesLaw.{AreTame, rates_law}
use Rattle.tick_clock.specs.Segments.{AreSegmentsAfter, rate_entry_of, first_segment}

pub tame_of : (r : Segment) (ss : List Segment) → AreSegmentsAfter r ss → AreTame (map rate_entry_of ss)
tame_of r [] kept = tt
tame_of r (s ∷ ss) kept = (kept.0.2, tame_of s ss kept.1)

pub kept_law : (offset : ℕ) (ss : List Segment) → offset ≤ 256000 → AreSegmentsAfter first_segment ss → IsClock (segment_reading offset (map rate_entry_of ss))
kept_law offset ss early kept = rates_law offset (map rate_entry_of ss) early (tame_of first_segment ss kept)
