use Rattle.std.proofs.Common.{ap, arith, length}
use Rattle.plan_commands.proofs.line_count.line_count.Goals as goal

pub loop-rest-preserved : goal.loop-rest-preserved
loop-rest-preserved c =
    let l = c.loop-rest in
    let cut = ap length c.first_line.ensures.cut in
    let shorter = c.first_line.ensures.shorter in
    record {
      counted = omega (arith, cut, l.invariant.counted);
      within = omega (arith, shorter, l.invariant.within);
    }
