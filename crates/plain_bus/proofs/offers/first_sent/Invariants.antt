use Rattle.plain_bus.proofs.OffersRead.{SendsNone}
use Rattle.plain_bus.proofs.PlacesSeen.{AreSeen}
use Rattle.plain_bus.proofs.offers.first_sent.Given as goal

abbrev pub invariant-loop-rest : goal.invariant-loop-rest
invariant-loop-rest l = AreSeen (SendsNone l.stations) l.fn.from l.rest

abbrev pub decreases-loop-rest : goal.decreases-loop-rest
decreases-loop-rest l = l.rest
