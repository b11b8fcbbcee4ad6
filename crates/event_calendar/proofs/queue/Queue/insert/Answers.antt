use Rattle.std.proofs.Common.{◌≡◌, ◌≤◌, List, insert, false, is_err, true≢false, Result, Ok, Err, OnOk, sym, ◌∙◌, ap, arith}
use Rattle.event_calendar.specs.declared.placed_order.PlacedOrder.{PlacedOrder}
use Rattle.event_calendar.specs.Waiting.{WaitingEntries}
use Rattle.event_calendar.proofs.OrdersThatWait.{added}
use Rattle.event_calendar.proofs.queue.Queue.insert.Goals as goal

when_ok : {T E : Type 0} (r : Result T E) (P : Type 0) → is_err r ≡ false → OnOk r P → P
when_ok (Ok x) P is holds = holds
when_ok (Err e) P is holds = absurd (true≢false is)

pub returns : goal.returns
returns c =
    let xs = c.args.self.now.entries in
    let after = c.insert.new.self in
    let at = c.place_of-at.result in
    let place = c.place_of-at.ensures in
    let same : c.self.inside.entries.items ≡ xs = ap (λ (w : WaitingEntries). w.entries) c.self.view_is in
    let room = ap (λ (w : WaitingEntries). w.room) c.self.view_is in
    let fits = sym c.is_err.ensures.value ∙ c.if-is_err.false in
    let inserted =
    when_ok c.insert.result (after.items ≡ insert c.self.inside.entries.items at c.args.entry) fits c.insert.ensures.items in
    let is : after.items ≡ insert xs at c.args.entry = inserted ∙ ap (λ (l : List PlacedOrder). insert l at c.args.entry) same in
    let grows : c.args.self.now.room ≤ after.cap = omega (arith, room, c.insert.ensures.capacity) in
    added xs after.items at after.cap c.args.self.now.room c.args.entry c.requires.order place.before place.after place.bound is grows
