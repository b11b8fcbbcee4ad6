use Rattle.std.proofs.Common.{◌∙◌, ap, arith}
use Rattle.std.proofs.lemmas.List.{take_all}
use Rattle.lwb_base.proofs.Lists.{chosen_more}
use Rattle.air_log.specs.Entries.{sendings_of, sending_in}
use Rattle.air_check.proofs.sent.sent_in.Goals as goal

pub loop-i-preserved : goal.loop-i-preserved
loop-i-preserved c =
    chosen_more sending_in c.args.air.now c.loop-i.i c.entry_at.result.now c.loop-i.sent.items c.push_some.new.sent.items c.sending_by.result
    (omega (arith, c.loop-i-test.true, c.len-i-end.ensures)) c.entry_at.ensures c.sending_by.ensures c.loop-i.invariant c.in_ok-push_some.ensures

pub returns : goal.returns
returns c = c.loop-i.invariant ∙ ap sendings_of (take_all c.loop-i.i c.args.air.now (omega (arith, c.loop-i-test.false, c.len-i-end.ensures)))
