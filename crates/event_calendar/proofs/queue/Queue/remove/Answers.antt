use Rattle.std.proofs.Common.{◌≡◌, ◌≤◌, List, remove, ◌∙◌, ap, arith}
use Rattle.event_calendar.specs.declared.placed_order.PlacedOrder.{PlacedOrder}
use Rattle.event_calendar.specs.Waiting.{WaitingEntries}
use Rattle.event_calendar.proofs.OrdersThatWait.{removed}
use Rattle.event_calendar.proofs.queue.Queue.remove.Goals as goal

pub returns-then-comes_first : goal.returns-then-comes_first
returns-then-comes_first c =
    let xs = c.args.self.now.entries in
    let items = c.self.inside.entries.items in
    let after = c.pop_front.new.self in
    let same : items ≡ xs = ap (λ (w : WaitingEntries). w.entries) c.self.view_is in
    let room = ap (λ (w : WaitingEntries). w.room) c.self.view_is in
    let is : after.items ≡ remove xs 0 = c.pop_front.ensures.rest ∙ ap (λ (l : List PlacedOrder). remove l 0) same in
    let grows : c.args.self.now.room ≤ after.cap = omega (arith, room, c.pop_front.ensures.capacity) in
    let first = c.comes_first.ensures c.if-comes_first.true in
    removed xs after.items 0 after.cap c.args.self.now.room c.args.entry c.requires.order first.0 (first.1 c.args.entry) is grows
