use Rattle.std.proofs.Common.{◌∙◌, arith}
use Rattle.link_trace.specs.Order.{by_cut}
use Rattle.link_trace.specs.Passes.{cuts_by}
use Rattle.link_trace.proofs.SlotNumbers.{in_frame_to}
use Rattle.link_trace.proofs.ranges.cuts_so_far.Goals as goal

pub find_cuts-requires : goal.find_cuts-requires
find_cuts-requires c = c.of_slots.ensures.ascends by_cut c.requires.ascends

pub returns : goal.returns
returns c =
    let f = c.args.frame in
    let j = c.args.slot in
    let k = c.args.step in
    let first = c.slot_number-first.ensures.value in
    let last = c.slot_number-last.ensures.value in
    c.find_cuts.ensures
    ∙ c.of_slots.ensures.all (cuts_by f j k) (λ l is. let place = in_frame_to f j k l is in (omega (arith, place.0, first), omega (arith, place.1, last)))
