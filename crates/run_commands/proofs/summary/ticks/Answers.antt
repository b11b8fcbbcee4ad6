use Rattle.std.proofs.Common.{ap, arith}
use Rattle.std.proofs.lemmas.List.Sums.{sum_by_more}
use Rattle.run_commands.specs.Summary.{sent_ticks, on_ticks}
use Rattle.run_commands.proofs.summary.ticks.Goals as goal

pub loop-i-preserved : goal.loop-i-preserved
loop-i-preserved c =
    let air = c.args.air.now in
    let i = c.loop-i.i in
    let e = c.entry_at-entry.result.now in
    let held = c.loop-i.invariant in
    let more_sent = sum_by_more sent_ticks air i e (omega arith) in
    let more_on = sum_by_more on_ticks air i e (omega arith) in
    let at_sent = ap sent_ticks c.entry_at-entry.ensures in
    let at_on = ap on_ticks c.entry_at-entry.ensures in
    record {
      sent = omega (arith, held.sent, more_sent, at_sent, c.sent_ticks.ensures);
      on = omega (arith, held.on, more_on, at_on, c.on_ticks.ensures);
      sent_fits = omega (arith, held.sent_fits);
      on_fits = omega (arith, held.on_fits);
    }
