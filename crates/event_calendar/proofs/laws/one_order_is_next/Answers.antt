use Rattle.event_calendar.proofs.OneOrder.{one_next}
use Rattle.event_calendar.proofs.laws.one_order_is_next.Goals as goal

pub returns : goal.returns
returns c = one_next
