use Rattle.std.proofs.Common.{◌≡◌, length, map, take, drop}
use Rattle.tick_clock.specs.Segments.{AreSegmentsAfter, first_segment, last_segment, rate_entry_of}
use Rattle.tick_clock.proofs.KeptSegments.{InOrder, IsSmall}
use Rattle.tick_clock.proofs.segment.segments_of.Given as goal

abbrev pub invariant-loop-start : goal.invariant-loop-start
invariant-loop-start l = record {
  entries : map rate_entry_of l.segments.items ≡ take l.start-index l.rates;
  kept : AreSegmentsAfter first_segment l.segments.items;
  last : l.last ≡ last_segment first_segment l.segments.items (length l.segments.items);
  small : IsSmall l.last;
  todo : InOrder l.last.start (drop l.start-index l.rates);
}
