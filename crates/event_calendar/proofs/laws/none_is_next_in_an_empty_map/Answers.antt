use Rattle.event_calendar.proofs.OneOrder.{one_next}
use Rattle.std.specs.Prelude.{None}
use Rattle.event_calendar.proofs.laws.none_is_next_in_an_empty_map.Goals as goal

pub returns : goal.returns
returns c = record {
  empty = λ map next. next;
  none = λ map x empty next. one_next map x None next empty;
}
