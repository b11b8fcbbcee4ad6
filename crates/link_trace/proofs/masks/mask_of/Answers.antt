use Rattle.link_trace.proofs.MaskBits.{found_only, found_none}
use Rattle.link_trace.proofs.masks.mask_of.Goals as goal

pub returns-in-Ok : goal.returns-in-Ok
returns-in-Ok c = found_only c.args.nodes.now c.requires.ascending c.args.node c.in-Ok.i c.with.result c.in-Ok.ensures.bound c.with.ensures.set
    c.with.ensures.others c.in-Ok.ensures.position

pub returns-in-Err : goal.returns-in-Err
returns-in-Err c = found_none c.args.nodes.now c.requires.ascending c.args.node c.in-Err.field-0 c.in-Err.ensures.position
