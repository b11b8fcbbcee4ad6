-- When the radio of a node is on, and to which channel it is tuned.
use Rattle.std.specs.Prelude.{◌≡◌, true, nat_lt, None}
use Rattle.node_core.specs.declared.stage.Stage.{Stage}
use Rattle.node_core.specs.declared.stage.Stage.TheVariants.{Idle, Scanning, AwaitFrame, AwaitSlot, InWindow}
use Rattle.node_core.specs.Nodes.{Node}
use Rattle.air_log.specs.Devices.{Device, listens_to}
use Rattle.law_safety.specs.StillDevices.{IsStill}
use Rattle.law_safety.specs.SetAlarms.{rank_at}
use Rattle.law_safety.specs.TunedNodes.{Either}

-- it is on while the node scans, and in a window until the last transmission has ended
abbrev pub RadioFor : Node → Device → Stage → Type 0
RadioFor n d Idle = ⊥
RadioFor n d Scanning = (listens_to (rank_at n) d.listening ≡ true) × IsStill d
RadioFor n d AwaitFrame = (d.listening ≡ None) × IsStill d
RadioFor n d (AwaitSlot j) = (d.listening ≡ None) × IsStill d
RadioFor n d (InWindow j w) =
    Either (nat_lt w.flood.sent w.flood.limit) (listens_to (rank_at n) d.listening ≡ true) (d.listening ≡ None)

pub record HasRadio (n : Node) (d : Device) : Type 0 where
  pub at : RadioFor n d n.stage
