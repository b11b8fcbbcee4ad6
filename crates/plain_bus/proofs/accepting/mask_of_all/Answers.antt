use Rattle.std.proofs.Common.{true, refl}
use Rattle.link_trace.proofs.MaskBits.{one_with}
use Rattle.bus_terms.specs.FloodOfText.{ids}
use Rattle.plain_bus.proofs.accepting.mask_of_all.Goals as goal

pub loop-i-preserved : goal.loop-i-preserved
loop-i-preserved c =
    let lines = c.args.nodes.now in
    one_with (ids lines) (λ v. true) c.loop-i.i c.loop-i.mask c.loop-i.invariant c.with-mask.result c.with-mask.ensures.set c.with-mask.ensures.others refl
