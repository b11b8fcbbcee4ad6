use Rattle.std.proofs.Common.{ℕ, List, map, take}
use Rattle.world_engine.specs.Fields.{ids_of}
use Rattle.world_engine.specs.FieldSteps.{readings_at}
use Rattle.world_engine.specs.FieldHearings.{StandAtPlaces, AllHear}
use Rattle.world_engine.proofs.field.Field.hear_all.Given as goal

abbrev pub invariant-loop-i : goal.invariant-loop-i
invariant-loop-i g l =
    (places : List ℕ) × StandAtPlaces (ids_of l.fn.self) (map (λ (p : ℕ × ℕ). p.0) (take l.i l.hearers)) places
    × AllHear (readings_at g.C.DriftClock.readings l.clocks) l.x.end l.x places l.fn.self (g.Q.Orders.map l.fn.orders) l.self (g.Q.Orders.map l.orders)
