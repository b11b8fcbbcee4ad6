use Rattle.std.proofs.Common.{◌<◌, get_or, ap, ◌∙◌, arith}
use Rattle.schedule_codec.specs.OwnerLists.{are_owners}
use Rattle.schedule_codec.proofs.Packs.{fit_at}
use Rattle.schedule_codec.proofs.CodeBytes.{summed_are_owners}
use Rattle.schedule_codec.proofs.Sums.{further, finished, all_in_range}
use Rattle.schedule_codec.proofs.owner_bytes.summed.Goals as goal

pub loop-step-preserved : goal.loop-step-preserved
loop-step-preserved c =
    let i = c.loop-step.step-index in
    let small : get_or c.args.steps.now i 0 < 1024 = fit_at 10 c.args.steps.now i c.requires.small c.loop-step-test.true in
    further c.args.first c.args.steps.now c.loop-step.codes.items c.push-in-loop-step.new.self.items c.loop-step.code i
    c.loop-step.invariant c.loop-step-test.true small c.push-in-loop-step.ensures.items

pub from_codes-requires : goal.from_codes-requires
from_codes-requires c =
    let high = c.if-code-gt803.false in
    let codes = c.loop-step.codes.items in
    let sum = c.loop-step.invariant in
    let end = c.loop-step-test.false in
    ap (λ l. are_owners l) (finished c.args.first c.args.steps.now codes c.loop-step.code c.loop-step.step-index sum end)
    ∙ summed_are_owners c.args.first c.args.steps.now c.requires.few
    (all_in_range c.args.first c.args.steps.now codes c.loop-step.code c.loop-step.step-index sum end (omega arith))
