use Rattle.std.proofs.Common.{◌<◌, ◌≤◌, ℕ, length, slice_index_or}
use Rattle.event_calendar.specs.declared.placed_order.PlacedOrder.{PlacedOrder}
use Rattle.event_calendar.specs.Waiting.{IsBefore}
use Rattle.event_calendar.proofs.queue.Queue.place_of.Given as goal

abbrev pub invariant-loop-at : goal.invariant-loop-at
invariant-loop-at l = record {
  bound : l.at ≤ length l.self.entries;
  after : (k : ℕ) (d : PlacedOrder) → l.at ≤ k → k < length l.self.entries → IsBefore l.entry (slice_index_or l.self.entries k d);
}

abbrev pub decreases-loop-at : goal.decreases-loop-at
decreases-loop-at l = l.at
