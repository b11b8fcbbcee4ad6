use Rattle.link_trace.specs.Masks.{IsMaskUpto}
use Rattle.bus_terms.specs.Flooding.{Setting, moment}
use Rattle.plain_bus.specs.FloodMasks.{AreAt, IsMaskedFlood, SendsForInitiators, traced}
use Rattle.drawn_bus.specs.KeptLosses.{flood_over, receives_otherwise}
use Rattle.drawn_losses.proofs.step_losses.changed_nodes.Given as goal

abbrev pub invariant-loop-place : goal.invariant-loop-place
invariant-loop-place g l =
    (x : Setting) → IsMaskedFlood x (traced (g.M.Links.lines l.links) (g.M.Links.nodes l.links)) l.flood → SendsForInitiators x (moment x l.step)
    → AreAt (moment x l.step) (g.M.Links.nodes l.links) l.now
    → IsMaskUpto (λ v. receives_otherwise x (flood_over (g.B.Links.lines l.base) l.flood.frame l.flood.slot x) l.step v)
    (g.M.Links.nodes l.links) l.place l.changed
