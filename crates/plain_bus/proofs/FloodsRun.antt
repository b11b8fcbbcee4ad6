-- One flood more of those that were run.
use Rattle.std.proofs.Common.{ℕ, List, [], ◌∷◌, ◌++◌}
use Rattle.link_trace.specs.Sealed.{Traced}
use Rattle.plain_bus.specs.RunFloods.{AreRunFloods, IsRunFlood, SlotFlood}
use Rattle.plain_bus.specs.declared.station.Flood.{Flood}

pub one_more_flood : (t : Traced) (f : ℕ) (ys : List SlotFlood) (xs : List Flood) (y : SlotFlood) (x : Flood) → AreRunFloods t f ys xs → IsRunFlood t f y x
    → AreRunFloods t f (ys ++ y ∷ []) (xs ++ x ∷ [])
one_more_flood t f [] [] y x before is = (is, tt)
one_more_flood t f [] (z ∷ xs) y x before is = absurd before
one_more_flood t f (w ∷ ys) [] y x before is = absurd before
one_more_flood t f (w ∷ ys) (z ∷ xs) y x before is = (before.0, one_more_flood t f ys xs y x before.1 is)
