use Rattle.event_calendar.proofs.OneOrder.{nothing_at_first}
use Rattle.event_calendar.proofs.laws.nothing_stands_at_first.Goals as goal

pub returns : goal.returns
returns c = nothing_at_first
