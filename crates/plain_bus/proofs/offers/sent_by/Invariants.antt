use Rattle.plain_bus.proofs.OffersRead.{IsNot}
use Rattle.plain_bus.proofs.PlacesSeen.{AreSeen}
use Rattle.plain_bus.proofs.offers.sent_by.Given as goal

abbrev pub invariant-loop-node : goal.invariant-loop-node
invariant-loop-node l = AreSeen (IsNot l.stations l.node) l.fn.from l.rest

abbrev pub decreases-loop-node : goal.decreases-loop-node
decreases-loop-node l = l.rest
