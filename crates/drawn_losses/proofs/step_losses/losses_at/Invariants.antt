use Rattle.std.proofs.Common.{◌≡◌, ◌++◌, flat_map, take}
use Rattle.link_trace.specs.Masks.{IsMask}
use Rattle.bus_terms.specs.Flooding.{Setting, moment}
use Rattle.plain_bus.specs.FloodMasks.{AreAt, IsMaskedFlood, traced}
use Rattle.drawn_bus.specs.KeptLosses.{flood_over, receives_otherwise}
use Rattle.drawn_losses.specs.StepLosses.{losses_by}
use Rattle.drawn_losses.proofs.step_losses.losses_at.Given as goal

abbrev pub invariant-loop-place : goal.invariant-loop-place
invariant-loop-place g l =
    (x : Setting) → IsMaskedFlood x (traced (g.M.Links.lines l.links) (g.M.Links.nodes l.links)) l.flood
    → AreAt (moment x l.step) (g.M.Links.nodes l.links) l.now
    → IsMask (λ v. receives_otherwise x (flood_over (g.B.Links.lines l.base) l.flood.frame l.flood.slot x) l.step v) (g.M.Links.nodes l.links) l.changed
    → l.lines.items ≡ l.fn.lines.items
    ++ flat_map (losses_by (g.B.Links.lines l.base) l.flood.frame l.flood.slot (g.M.Links.nodes l.links) x l.step) (take l.place (g.M.Links.nodes l.links))
