use Rattle.std.proofs.Common.{ℕ, List, take}
use Rattle.link_trace.specs.Passes.{Lines}
use Rattle.radio_model.specs.Reaches.{AreReaches, AreDisturbed}
use Rattle.radio_model.proofs.receivers.disturbance.Given as goal

abbrev pub invariant-loop-k : goal.invariant-loop-k
invariant-loop-k l =
    (lines : Lines) (nodes : List ℕ) → AreReaches l.profile lines nodes l.near l.reaches
    → AreDisturbed l.profile lines nodes l.x (take l.k l.near) (record { busy = l.busy; late = l.late; mixed = l.mixed })
