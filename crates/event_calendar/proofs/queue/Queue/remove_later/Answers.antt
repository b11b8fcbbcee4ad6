use Rattle.std.proofs.Common.{◌≡◌, ◌≤◌, List, remove, slice_index_or, Option, Some, None, OnSome, length, ◌∙◌, ap, arith}
use Rattle.event_calendar.specs.declared.placed_order.PlacedOrder.{PlacedOrder}
use Rattle.event_calendar.specs.Waiting.{WaitingEntries}
use Rattle.event_calendar.proofs.OrdersThatWait.{removed}
use Rattle.event_calendar.proofs.queue.Queue.remove_later.Goals as goal

when_some : (o : Option PlacedOrder) (x : PlacedOrder) (P : Type 0) → o ≡ Some x → OnSome o P → P
when_some None x P is holds = absurd (cc)
when_some (Some y) x P is holds = holds

pub returns : goal.returns
returns c =
    let xs = c.args.self.now.entries in
    let items = c.self.inside.entries.items in
    let after = c.remove.new.self in
    let at = c.index_of-at.result in
    let e = c.args.entry in
    let same : items ≡ xs = ap (λ (w : WaitingEntries). w.entries) c.self.view_is in
    let size = ap length same in
    let room = ap (λ (w : WaitingEntries). w.room) c.self.view_is in
    let ok = c.self.inside.entries.ok in
    let there = c.index_of-at.ensures in
    let some = c.remove.ensures.succeeds e (omega (arith, there.bound, size, ok.0)) in
    let taken = when_some c.remove.result (slice_index_or items at e) (after.items ≡ remove items at) some c.remove.ensures.items in
    let is : after.items ≡ remove xs at = taken ∙ ap (λ (l : List PlacedOrder). remove l at) same in
    let grows : c.args.self.now.room ≤ after.cap = omega (arith, room, c.remove.ensures.capacity) in
    removed xs after.items at after.cap c.args.self.now.room e c.requires.order there.bound (there.there e) is grows
