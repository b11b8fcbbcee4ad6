-- What the two kinds of clock read at each true tick.
use Rattle.std.specs.Prelude.{ℕ, map}
use Rattle.tick_clock.specs.declared.jump_clock.JumpClock.{JumpClock}
use Rattle.tick_clock.specs.declared.segment_clock.SegmentClock.{SegmentClock}
use Rattle.tick_clock.specs.Jumps.{jump_reading}
use Rattle.tick_clock.specs.Rates.{segment_reading}
use Rattle.tick_clock.specs.Segments.{rate_entry_of}

abbrev pub jump_clock_reads : JumpClock → ℕ → ℕ
jump_clock_reads c = jump_reading c.offset c.fast

abbrev pub segment_clock_reads : SegmentClock → ℕ → ℕ
segment_clock_reads c = segment_reading c.offset (map rate_entry_of c.segments.items)
