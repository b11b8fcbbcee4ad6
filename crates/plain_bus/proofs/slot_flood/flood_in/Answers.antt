use Rattle.std.proofs.Common.{ℕ, None, is_some, ap}
use Rattle.bus_terms.specs.FloodOfText.{ids}
use Rattle.bus_terms.specs.Rounds.{opened_at, message_said, takes_part}
use Rattle.plain_bus.specs.declared.station.Flood.{Flood}
use Rattle.plain_bus.proofs.MembersOfSlots.{flood_of_slot}
use Rattle.plain_bus.proofs.slot_flood.flood_in.Goals as goal

pub returns-clause-flood : goal.returns-clause-flood
returns-clause-flood c s t rank part states are lines sealed limit =
    let f = c.args.frame in
    let made : ℕ → Flood = λ n. record {
      frame = f;
      slot = c.args.slot;
      limit = n;
      initiators = c.initiators_of.result;
      everyone = c.takers_of.result;
      lone = None;
    } in
    flood_of_slot s t rank f c.args.slot part states (made c.args.limit) lines sealed (ap made limit)
    (c.initiators_of.ensures (ids s.nodes) (λ v. is_some (message_said (opened_at s rank f part v (states v)))) are.initiators)
    (c.takers_of.ensures (ids s.nodes) (λ v. takes_part rank part (states v) (opened_at s rank f part v (states v))) are.takers)
