use Rattle.std.proofs.Common.{ℕ, ◌≡◌, ◌<◌, List, length, Some, None, sym, ◌∙◌, ap, subst, arith}
use Rattle.event_calendar.specs.declared.placed_order.PlacedOrder.{PlacedOrder}
use Rattle.event_calendar.specs.Orders.{Due, at, changed, tick_of}
use Rattle.event_calendar.specs.Queues.{HasQueues}
use Rattle.event_calendar.proofs.OneOrder.{read_due, changed_as}
use Rattle.event_calendar.proofs.QueuesOfMaps.{queues_removed}
use Rattle.event_calendar.proofs.calendar.Calendar.clear.Goals as goal

pub remove-requires-clause-there : goal.remove-requires-clause-there
remove-requires-clause-there c =
    let map = c.self.inside.due.items in
    let within : c.args.place < length map = omega (arith, c.requires, ap length c.self.view_is) in
    let read = read_due map c.from.result c.args.place c.index.result.now c.from.ensures within c.index.ensures in
    let some : at map c.args.place c.args.class ≡ Some c.in-Some.tick = sym (ap (tick_of c.args.class) read) ∙ sym c.get.ensures ∙ c.in-Some.is in
    let i = c.self.invariant c.args.class in
    i.waits (record { tick = c.in-Some.tick; place = c.args.place }) some

pub invariant_of-self : goal.invariant_of-self
invariant_of-self c =
    let map = c.self.inside.due.items in
    let after = c.remove.new.self in
    let place : ℕ = c.args.place in
    let class = c.args.class in
    let e : PlacedOrder = record { tick = c.in-Some.tick; place = place } in
    let within : place < length map = omega (arith, c.requires, ap length c.self.view_is) in
    let read = read_due map c.from.result place c.index.result.now c.from.ensures within c.index.ensures in
    let some : at map place class ≡ Some c.in-Some.tick = sym (ap (tick_of class) read) ∙ sym c.get.ensures ∙ c.in-Some.is in
    let has : HasQueues (changed map place class None) after =
    queues_removed class map e c.self.inside.queues after within some c.self.invariant c.remove.ensures in
    let index = c.from-in-Some in
    let d = c.index_mut.result.now in
    let written = changed_as map index.result place class None d c.set.new.self index.ensures within c.index_mut.ensures.value c.set.ensures in
    subst (λ (m : List Due). HasQueues m after) (sym written) has
