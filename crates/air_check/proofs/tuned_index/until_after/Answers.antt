use Rattle.std.proofs.Common.{arith}
use Rattle.air_check.proofs.Extended.{after_last}
use Rattle.air_check.proofs.tuned_index.until_after.Goals as goal

pub returns : goal.returns
returns c =
    let es = c.args.tuned.now in
    let last = c.index-tuned-count.result in
    after_last es c.args.e last c.longer.result (omega (arith, c.if-count-eq0.false)) c.index-tuned-count.is
    c.longer.ensures.own c.longer.ensures.lasts c.longer.ensures.from
