use Rattle.std.proofs.Math.ListN.{length-set}
use Rattle.event_calendar.specs.Orders.{due_at, with_tick}
use Rattle.event_calendar.proofs.OneOrder.{there, elsewhere}
use Rattle.event_calendar.proofs.laws.changes_one_order.Goals as goal

pub returns : goal.returns
returns c = record {
  there = there;
  elsewhere = elsewhere;
  places = λ map place class tick. length-set map place (with_tick class tick (due_at map place));
}
