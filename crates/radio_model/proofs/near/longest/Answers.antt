use Rattle.std.proofs.Common.{◌+◌, ◌≤◌, All, subst, arith}
use Rattle.std.proofs.lemmas.List.{take_all}
use Rattle.radio_model.specs.OnAir.{Sending}
use Rattle.radio_model.proofs.OverlapWindows.{longer}
use Rattle.radio_model.proofs.near.longest.Goals as goal

pub loop-y-preserved : goal.loop-y-preserved
loop-y-preserved c =
    longer c.args.sent.now c.loop-y.y-index c.y-item.result c.loop-y-test.true c.y-item.is c.loop-y.longest c.max-longest.result c.loop-y.invariant
    (omega (arith, c.max-longest.ensures)) (omega (arith, c.max-longest.ensures, c.saturating_sub.ensures))

pub returns : goal.returns
returns c =
    let ys = c.args.sent.now in
    subst (All (λ (y : Sending). y.end ≤ y.start + c.loop-y.longest)) (take_all c.loop-y.y-index ys c.loop-y-test.false) c.loop-y.invariant
