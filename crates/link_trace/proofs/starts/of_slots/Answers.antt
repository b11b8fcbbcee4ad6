use Rattle.link_trace.proofs.SlotParts.{places_ascend, holds_slots}
use Rattle.link_trace.proofs.starts.of_slots.Goals as goal

pub slice_bounds-result-count : goal.slice_bounds-result-count
slice_bounds-result-count g c =
    places_ascend g.L.OfSlot.slot_of c.args.first c.args.last c.requires.order c.args.lines.now c.begin_of-begin.result c.end_of-end.result
    c.begin_of-begin.ensures.within c.begin_of-begin.ensures.before c.end_of-end.ensures.after

pub slice_bounds-result-start : goal.slice_bounds-result-start
slice_bounds-result-start g c =
    places_ascend g.L.OfSlot.slot_of c.args.first c.args.last c.requires.order c.args.lines.now c.begin_of-begin.result c.end_of-end.result
    c.begin_of-begin.ensures.within c.begin_of-begin.ensures.before c.end_of-end.ensures.after

pub returns : goal.returns
returns g c =
    holds_slots g.L.OfSlot.slot_of c.args.first c.args.last c.requires.order c.args.lines.now c.begin_of-begin.result c.end_of-end.result
    (places_ascend g.L.OfSlot.slot_of c.args.first c.args.last c.requires.order c.args.lines.now c.begin_of-begin.result c.end_of-end.result
    c.begin_of-begin.ensures.within c.begin_of-begin.ensures.before c.end_of-end.ensures.after)
    c.end_of-end.ensures.within c.begin_of-begin.ensures.before c.end_of-end.ensures.after
