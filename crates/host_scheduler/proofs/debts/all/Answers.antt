use Rattle.std.proofs.Common.{◌∙◌, ◌++◌, ℕ, List, get_or, replicate, ap, sym}
use Rattle.host_scheduler.proofs.Owing.{all_fits, all_more, nothing, read_at}
use Rattle.host_scheduler.proofs.debts.all.Goals as goal

pub push_times-requires : goal.push_times-requires
push_times-requires c =
    let ds = c.args.debts.now in
    let i = c.loop-debt.debt-index in
    all_fits ds i (get_or ds i nothing) c.loop-debt.codes.items c.loop-debt-test.true (read_at ds i c.loop-debt-test.true) c.requires c.loop-debt.invariant

pub loop-debt-preserved : goal.loop-debt-preserved
loop-debt-preserved c =
    let ds = c.args.debts.now in
    let i = c.loop-debt.debt-index in
    let d = get_or ds i nothing in
    c.push_times.ensures ∙ ap (λ (l : List ℕ). l ++ replicate d.owed d.code) c.loop-debt.invariant
    ∙ sym (all_more ds i d c.loop-debt-test.true (read_at ds i c.loop-debt-test.true))
