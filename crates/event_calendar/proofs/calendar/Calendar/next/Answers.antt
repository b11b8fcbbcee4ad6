use Rattle.std.proofs.Common.{List, sym, subst}
use Rattle.std.specs.declared.option.Option.{Option}
use Rattle.event_calendar.specs.Orders.{Due, Order, IsNext}
use Rattle.event_calendar.proofs.FirstOfQueues.{first_is_next}
use Rattle.event_calendar.proofs.OneOrder.{next_within}
use Rattle.event_calendar.proofs.calendar.Calendar.next.Goals as goal

pub returns : goal.returns
returns c =
    let map = c.self.inside.due.items in
    let first = subst (λ (o : Option Order). IsNext map o) (sym c.next.ensures) (first_is_next map c.self.inside.queues c.self.invariant) in
    let least : IsNext c.args.self.now c.next.result = subst (λ (m : List Due). IsNext m c.next.result) c.self.view_is first in
    record { least = least; within = next_within c.args.self.now c.next.result least }
