use Rattle.std.proofs.Common.{ℕ, ◌≡◌, ◌<◌, List, length, Some, None, sym, ◌∙◌, ap, subst, arith}
use Rattle.event_calendar.specs.declared.placed_order.PlacedOrder.{PlacedOrder}
use Rattle.event_calendar.specs.Orders.{Due, at, changed}
use Rattle.event_calendar.specs.Queues.{HasQueues, queue_of}
use Rattle.event_calendar.proofs.OneOrder.{there, changed_as, changed_twice}
use Rattle.event_calendar.proofs.QueuesOfMaps.{has_room, size_stays, queues_added}
use Rattle.event_calendar.proofs.calendar.Calendar.set.Goals as goal

pub add-requires-clause-room : goal.add-requires-clause-room
add-requires-clause-room c =
    let map = c.self.inside.due.items in
    let old = c.args.self.now in
    let place : ℕ = c.args.place in
    let class = c.args.class in
    let is : map ≡ changed old place class None = c.self.view_is ∙ c.clear.ensures in
    let within : place < length map = omega (arith, c.requires, ap length is, size_stays old place class None) in
    let none : at map place class ≡ None = ap (λ (m : List Due). at m place class) is ∙ there old place class None c.requires in
    has_room class map place (queue_of class c.self.inside.queues) within none (c.self.invariant class)

pub invariant_of-self : goal.invariant_of-self
invariant_of-self c =
    let map = c.self.inside.due.items in
    let old = c.args.self.now in
    let after = c.add.new.self in
    let place : ℕ = c.args.place in
    let class = c.args.class in
    let tick : ℕ = c.args.tick in
    let e : PlacedOrder = record { tick = tick; place = place } in
    let is : map ≡ changed old place class None = c.self.view_is ∙ c.clear.ensures in
    let within : place < length map = omega (arith, c.requires, ap length is, size_stays old place class None) in
    let none : at map place class ≡ None = ap (λ (m : List Due). at m place class) is ∙ there old place class None c.requires in
    let has : HasQueues (changed map place class (Some tick)) after =
    queues_added class map e c.self.inside.queues after within none c.self.invariant c.add.ensures in
    let d = c.index_mut.result.now in
    let read = c.index_mut.ensures.value in
    let written = changed_as map c.from.result place class (Some tick) d c.set.new.self c.from.ensures within read c.set.ensures in
    subst (λ (m : List Due). HasQueues m after) (sym written) has

pub returns : goal.returns
returns c =
    let map = c.self.inside.due.items in
    let old = c.args.self.now in
    let place : ℕ = c.args.place in
    let class = c.args.class in
    let tick : ℕ = c.args.tick in
    let is : map ≡ changed old place class None = c.self.view_is ∙ c.clear.ensures in
    let within : place < length map = omega (arith, c.requires, ap length is, size_stays old place class None) in
    let d = c.index_mut.result.now in
    let read = c.index_mut.ensures.value in
    let written = changed_as map c.from.result place class (Some tick) d c.set.new.self c.from.ensures within read c.set.ensures in
    let twice = changed_twice old place class None (Some tick) c.requires in
    written ∙ ap (λ (m : List Due). changed m place class (Some tick)) is ∙ twice
