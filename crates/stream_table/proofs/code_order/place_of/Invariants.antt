use Rattle.std.proofs.Common.{ℕ, ◌-◌, ◌<◌, ◌≤◌, length, get_or}
use Rattle.stream_table.proofs.code_order.place_of.Given as goal

abbrev pub invariant-loop-low : goal.invariant-loop-low
invariant-loop-low g l = record {
  order : l.low ≤ l.high;
  within : l.high ≤ length l.list;
  below : (k : ℕ) (d : g.row.T.Denot) → k < l.low → g.T.Coded.code_of (get_or l.list k d) < l.code;
  from : (k : ℕ) (d : g.row.T.Denot) → l.high ≤ k → k < length l.list → l.code ≤ g.T.Coded.code_of (get_or l.list k d);
}

abbrev pub decreases-loop-low : goal.decreases-loop-low
decreases-loop-low g l = l.high - l.low
