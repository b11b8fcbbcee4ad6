use Rattle.std.proofs.Common.{ℕ, true, false, ◌≡◌, ◌-◌, List, get_or, sym, ◌∙◌, ap, subst, arith}
use Rattle.event_calendar.specs.declared.placed_order.PlacedOrder.{PlacedOrder}
use Rattle.event_calendar.specs.Waiting.{WaitingEntries, is_before}
use Rattle.event_calendar.proofs.OrdersThatWait.{all_before, all_after}
use Rattle.event_calendar.proofs.queue.Queue.place_of.Goals as goal

pub returns-then-is_before-clause-before : goal.returns-then-is_before-clause-before
returns-then-is_before-clause-before c =
    let xs = c.args.self.now.entries in
    let at : ℕ = c.loop-at.at in
    let e = c.args.entry.now in
    let same : c.self.inside.entries.items ≡ xs = ap (λ (w : WaitingEntries). w.entries) c.self.view_is in
    let last = c.index.result.now in
    let read : last ≡ get_or xs (at - 1) last = subst (λ (l : List PlacedOrder). last ≡ get_or l (at - 1) last) same c.index.ensures in
    let test : is_before last e ≡ true = sym c.is_before.ensures ∙ c.if-is_before.true in
    all_before xs at last e c.requires.order (omega arith) c.loop-at.invariant.bound read test

pub loop-at-preserved : goal.loop-at-preserved
loop-at-preserved c =
    let xs = c.args.self.now.entries in
    let at : ℕ = c.loop-at.at in
    let e = c.args.entry.now in
    let same : c.self.inside.entries.items ≡ xs = ap (λ (w : WaitingEntries). w.entries) c.self.view_is in
    let last = c.index.result.now in
    let read : last ≡ get_or xs (at - 1) last = subst (λ (l : List PlacedOrder). last ≡ get_or l (at - 1) last) same c.index.ensures in
    let test : is_before last e ≡ false = sym c.is_before.ensures ∙ c.if-is_before.false in
    let i = c.loop-at.invariant in
    record {
      bound = omega arith;
      after = all_after xs at last e c.requires.apart (omega arith) i.bound read test i.after;
    }
