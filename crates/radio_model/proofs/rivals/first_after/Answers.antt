use Rattle.std.proofs.Common.{◌≤◌, ◌-◌, ℕ, All, take, subst, arith}
use Rattle.radio_model.specs.declared.sending.Sending.{Sending}
use Rattle.radio_model.proofs.EndedSendings.{over_up_to}
use Rattle.radio_model.proofs.rivals.first_after.Goals as goal

pub returns-then-ended_at-start-clause-before : goal.returns-then-ended_at-start-clause-before
returns-then-ended_at-start-clause-before c =
    let ys = c.args.station.now.ended.items in
    let within = c.loop-first.invariant in
    let some = c.loop-first-test.true in
    subst (λ (n : ℕ). All (λ (y : Sending). y.end ≤ c.args.start) (take n ys)) (omega arith)
    (over_up_to ys (c.loop-first.first - 1) c.args.start c.ended_at.result.now c.requires (omega arith) c.ended_at.ensures c.if-ended_at-start.true)
