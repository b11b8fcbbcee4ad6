use Rattle.link_trace.proofs.SlotNumbers.{losses_rise, cuts_rise, captures_rise}
use Rattle.link_trace.proofs.starts.starts_of.Goals as goal

pub slot_starts-requires : goal.slot_starts-requires
slot_starts-requires c = losses_rise c.args.losses.now c.requires.losses

pub slot_starts-requires-2 : goal.slot_starts-requires-2
slot_starts-requires-2 c = cuts_rise c.args.cuts.now c.requires.cuts

pub slot_starts-requires-3 : goal.slot_starts-requires-3
slot_starts-requires-3 c = captures_rise c.args.captures.now c.requires.captures
