use Rattle.std.proofs.Common.{◌≡◌, ℕ, List, Bool, map}
use Rattle.link_trace.specs.Masks.{IsMaskUpto}
use Rattle.plain_bus.specs.declared.window.Window.{Window}
use Rattle.plain_bus.proofs.slot_flood.takers_of.Given as goal

abbrev pub invariant-loop-i : goal.invariant-loop-i
invariant-loop-i l = (nodes : List ℕ) (test : ℕ → Bool) → map (λ (w : Window). w.takes_part) l.windows ≡ map test nodes → IsMaskUpto test nodes l.i l.mask
