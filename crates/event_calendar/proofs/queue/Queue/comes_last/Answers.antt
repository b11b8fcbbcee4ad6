use Rattle.std.proofs.Common.{◌≡◌, ◌-◌, ℕ, List, get_or, length, sym, ◌∙◌, ap, arith}
use Rattle.event_calendar.specs.declared.placed_order.PlacedOrder.{PlacedOrder}
use Rattle.event_calendar.specs.Waiting.{WaitingEntries}
use Rattle.event_calendar.proofs.OrdersThatWait.{all_before}
use Rattle.event_calendar.proofs.queue.Queue.comes_last.Goals as goal

pub returns-in-Some : goal.returns-in-Some
returns-in-Some c = λ before k d below.
    let xs = c.args.self.now.entries in
    let items = c.self.inside.entries.items in
    let same : items ≡ xs = ap (λ (w : WaitingEntries). w.entries) c.self.view_is in
    let size = ap length same in
    let ok = c.self.inside.entries.ok in
    let at : ℕ = length xs in
    let last = c.in-Some.last.now in
    let read : last ≡ get_or xs (at - 1) last =
    c.in-Some.ensures.lookup ∙ ap (λ (n : ℕ). get_or items n last) (omega (arith, ok.0, size)) ∙ ap (λ (l : List PlacedOrder). get_or l (at - 1) last) same in
    all_before xs at last c.args.entry.now c.requires (omega (arith, below)) (omega arith) read (sym c.is_before.ensures ∙ before) k d below
