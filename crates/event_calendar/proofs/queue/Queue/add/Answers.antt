use Rattle.std.proofs.Common.{ℕ, ◌≡◌, ◌≤◌, insert, length, refl, ap, arith}
use Rattle.event_calendar.specs.Waiting.{WaitingEntries}
use Rattle.event_calendar.proofs.OrdersThatWait.{added, at_end}
use Rattle.event_calendar.proofs.queue.Queue.add.Goals as goal

pub returns-then-comes_last : goal.returns-then-comes_last
returns-then-comes_last c =
    let xs = c.args.self.now.entries in
    let after = c.push_back_reserved.new.self in
    let same : c.self.inside.entries.items ≡ xs = ap (λ (w : WaitingEntries). w.entries) c.self.view_is in
    let room = ap (λ (w : WaitingEntries). w.room) c.self.view_is in
    let e = c.args.entry in
    let at : ℕ = length xs in
    let is : after.items ≡ insert xs at e =
    at_end xs c.self.inside.entries.items after.items at e same c.push_back_reserved.ensures.items refl in
    let grows : c.args.self.now.room ≤ after.cap = omega (arith, room, c.push_back_reserved.ensures.capacity) in
    added xs after.items at after.cap c.args.self.now.room e c.requires.order (c.comes_last.ensures c.if-comes_last.true)
    (λ k d from below. absurd (omega (arith, from, below))) (omega arith) is grows
