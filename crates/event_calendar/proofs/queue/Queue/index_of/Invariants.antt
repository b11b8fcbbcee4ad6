use Rattle.std.proofs.Common.{◌≡◌, ◌<◌, ◌≤◌, ℕ, length, slice_index_or, ◌-◌}
use Rattle.event_calendar.proofs.queue.Queue.index_of.Given as goal

abbrev pub invariant-loop-self : goal.invariant-loop-self
invariant-loop-self l = (k : ℕ) × (l.at ≤ k) × (k < length l.self.entries) × (slice_index_or l.self.entries k l.entry ≡ l.entry)

abbrev pub decreases-loop-self : goal.decreases-loop-self
decreases-loop-self l = length l.self.entries - l.at
