use Rattle.std.proofs.Common.{◌≡◌, ◌≤◌, ◌<◌, length}
use Rattle.std.specs.List.{AllWithin}
use Rattle.link_trace.specs.Starts.{AreStarts}
use Rattle.link_trace.proofs.starts.slot_starts.Given as goal

abbrev pub invariant-loop-slot : goal.invariant-loop-slot
invariant-loop-slot g l = record {
  within : l.start ≤ length l.lines;
  before : AllWithin (λ x. g.L.OfSlot.slot_of x < l.slot) l.lines 0 l.start;
  starts : AreStarts g.L.OfSlot.slot_of l.lines l.starts.items;
  many : length l.starts.items ≡ l.slot;
}
