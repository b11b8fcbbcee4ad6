use Rattle.std.proofs.Common.{◌≡◌, ◌++◌, ℕ, List, take}
use Rattle.plain_bus.specs.FloodMasks.{traced}
use Rattle.plain_bus.specs.RunFloods.{AreRunFloods, SlotFlood}
use Rattle.drawn_losses.specs.StepLosses.{losses_of_floods}
use Rattle.drawn_losses.proofs.frame_losses.losses_in_frame.Given as goal

abbrev pub invariant-loop-flood : goal.invariant-loop-flood
invariant-loop-flood g l =
    (f : ℕ) (ys : List SlotFlood) → AreRunFloods (traced (g.M.Links.lines l.links) (g.M.Links.nodes l.links)) f ys l.floods
    → l.lines.items ≡ l.fn.lines.items ++ losses_of_floods (g.B.Links.lines l.base) f (g.M.Links.nodes l.links) (take l.flood-index ys)
