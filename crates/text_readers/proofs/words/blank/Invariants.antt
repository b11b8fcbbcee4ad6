use Rattle.std.proofs.Common.{◌≤◌, ◌-◌, length}
use Rattle.memchr.specs.Find.{Nowhere, Passes}
use Rattle.text_readers.specs.Words.{is_blank}
use Rattle.text_readers.proofs.words.blank.Given as goal

-- no blank is among the bytes seen
abbrev pub invariant-loop-step : goal.invariant-loop-step
invariant-loop-step l = record {
  within : l.seen ≤ length l.bytes;
  none : Nowhere (Passes is_blank l.bytes) 0 l.seen;
}

abbrev pub decreases-loop-step : goal.decreases-loop-step
decreases-loop-step l = length l.bytes - l.seen
