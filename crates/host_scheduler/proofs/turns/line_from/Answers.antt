use Rattle.std.proofs.Common.{◌≡◌, ◌∙◌, ◌++◌, List, [], get_or, filter, take, sym, ap}
use Rattle.std.proofs.lemmas.List.{take_all, append-nil}
use Rattle.host_scheduler.specs.declared.debts.Debt.{Debt}
use Rattle.host_scheduler.specs.Debts.{is_owed_from, early}
use Rattle.host_scheduler.proofs.Sifted.{sifted}
use Rattle.host_scheduler.proofs.Owing.{nothing, read_at, line_is, line_room, late_room}
use Rattle.host_scheduler.proofs.turns.line_from.Goals as goal

pub push_if-requires : goal.push_if-requires
push_if-requires c =
    λ stays. late_room c.args.place c.args.debts.now c.loop-debt.debt-index c.loop-debt.line.items c.loop-debt-test.true c.requires c.loop-debt.invariant

pub push_if-requires-in-loop-debt-2 : goal.push_if-requires-in-loop-debt-2
push_if-requires-in-loop-debt-2 c =
    λ stays. line_room c.args.place c.args.debts.now c.loop-debt-2.debt-index c.loop-debt-2.line.items c.loop-debt-2-test.true c.requires
    c.loop-debt-2.invariant (sym c.is_early.ensures ∙ stays)

pub loop-debt-preserved : goal.loop-debt-preserved
loop-debt-preserved c =
    let ds = c.args.debts.now in
    let i = c.loop-debt.debt-index in
    sifted (is_owed_from c.args.place) ds i (get_or ds i nothing) c.loop-debt.line.items c.push_if.new.line.items [] _ c.loop-debt-test.true
    (read_at ds i c.loop-debt-test.true) c.is_late.ensures c.loop-debt.invariant c.push_if.ensures

pub loop-debt-2-init : goal.loop-debt-2-init
loop-debt-2-init c =
    let ds = c.args.debts.now in
    let all : take c.loop-debt.debt-index ds ≡ ds = take_all c.loop-debt.debt-index ds c.loop-debt-test.false in
    c.loop-debt.invariant ∙ ap (filter (is_owed_from c.args.place)) all ∙ sym (append-nil (filter (is_owed_from c.args.place) ds))

pub loop-debt-2-preserved : goal.loop-debt-2-preserved
loop-debt-2-preserved c =
    let ds = c.args.debts.now in
    let i = c.loop-debt-2.debt-index in
    sifted (early c.args.place) ds i (get_or ds i nothing) c.loop-debt-2.line.items c.push_if-in-loop-debt-2.new.line.items
    (filter (is_owed_from c.args.place) ds) _ c.loop-debt-2-test.true (read_at ds i c.loop-debt-2-test.true) c.is_early.ensures
    c.loop-debt-2.invariant c.push_if-in-loop-debt-2.ensures

pub returns : goal.returns
returns c =
    let ds = c.args.debts.now in
    let all : take c.loop-debt-2.debt-index ds ≡ ds = take_all c.loop-debt-2.debt-index ds c.loop-debt-2-test.false in
    c.loop-debt-2.invariant ∙ ap (λ (l : List Debt). filter (is_owed_from c.args.place) ds ++ filter (early c.args.place) l) all ∙ line_is c.args.place ds
