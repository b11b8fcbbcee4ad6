use Rattle.plain_bus.proofs.OffersRead.{SendsOnly}
use Rattle.plain_bus.proofs.PlacesSeen.{AreSeen}
use Rattle.plain_bus.proofs.offers.all_send.Given as goal

abbrev pub invariant-loop-origin : goal.invariant-loop-origin
invariant-loop-origin l = AreSeen (SendsOnly l.stations l.origin) l.fn.from l.rest

abbrev pub decreases-loop-origin : goal.decreases-loop-origin
decreases-loop-origin l = l.rest
