use Rattle.std.proofs.Common.{◌∙◌, ap, arith}
use Rattle.std.proofs.lemmas.List.{take_all}
use Rattle.air_log.specs.Entries.{tunings_of, tuning_in}
use Rattle.air_check.specs.Tunings.{tuning_of_tuned}
use Rattle.air_check.proofs.Gathered.{one_more_of}
use Rattle.air_check.proofs.tuned_index.tunings_in.Goals as goal

pub loop-i-preserved : goal.loop-i-preserved
loop-i-preserved c =
    one_more_of tuning_of_tuned tuning_in c.args.air.now c.loop-i.i c.entry_at.result.now c.loop-i.tunings.items c.push_some.new.tunings.items c.tuned_by.result
    (omega (arith, c.loop-i-test.true, c.len-i-end.ensures)) c.entry_at.ensures c.tuned_by.ensures c.loop-i.invariant c.in_ok-push_some.ensures

pub returns : goal.returns
returns c = c.loop-i.invariant ∙ ap tunings_of (take_all c.loop-i.i c.args.air.now (omega (arith, c.loop-i-test.false, c.len-i-end.ensures)))
