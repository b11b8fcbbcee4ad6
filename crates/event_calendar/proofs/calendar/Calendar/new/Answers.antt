use Rattle.std.proofs.Common.{◌≡◌, ℕ, List, replicate, refl, sym, ◌∙◌, subst}
use Rattle.event_calendar.specs.Orders.{Due, nothing_due}
use Rattle.event_calendar.specs.Queues.{HasQueues, IsEmpty}
use Rattle.event_calendar.proofs.QueuesOfMaps.{queues_at_first}
use Rattle.event_calendar.proofs.calendar.Calendar.new.Goals as goal

pub invariant_of-result : goal.invariant_of-result
invariant_of-result c =
    let places = c.args.places in
    let queues = c.in_ok-queues.queues in
    let map = c.in_ok-due.ensures.items_if_clones_equal (λ y same. same) in
    let map_is : c.in_ok-due.due.items ≡ replicate places nothing_due = map ∙ rw (c.from.ensures, c.nothing.ensures) refl in
    let empty : IsEmpty c.from-2.result queues = c.in_ok-queues.ensures in
    let has = queues_at_first c.from-2.result queues empty in
    subst (λ (m : List Due). HasQueues m queues) (sym map_is) (subst (λ (n : ℕ). HasQueues (replicate n nothing_due) queues) c.from-2.ensures has)
