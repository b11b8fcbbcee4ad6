-- Which floods a node has begun: that of a slot once at most.
use Rattle.std.specs.Prelude.{◌≡◌, ⊤, ℕ, ◌<◌, ◌≤◌, ◌⊎◌, true, Some, None, Contains, slice_index}
use Rattle.std.specs.declared.option.Option.{Option}
use Rattle.node_core.specs.declared.stage.Stage.{Stage}
use Rattle.node_core.specs.declared.stage.Stage.TheVariants.{Idle, Scanning, AwaitFrame, AwaitSlot, InWindow}
use Rattle.node_core.specs.Windows.{Window}
use Rattle.node_core.specs.Nodes.{Node}
use Rattle.scenario_text.specs.ScenarioParts.{ScenarioParts}
use Rattle.radio_model.specs.declared.sending.Sending.{Sending}
use Rattle.radio_model.specs.Hearing.{frame_of_sending, slot_of_sending, counter_of_sending}
use Rattle.air_log.specs.Devices.{Device, OrderedPacket}

-- the first packet of a flood is ordered
abbrev pub IsFirstOrdered : Option OrderedPacket → Type 0
IsFirstOrdered None = ⊥
IsFirstOrdered (Some o) = slice_index o.packet 2 ≡ 0

module _ (s : ScenarioParts) where
  -- it began a flood of frame f with x
  pub record HasBegun (f : ℕ) (d : Device) (x : Sending) : Type 0 where
    pub sent : Contains d.made.sent x
    pub first : counter_of_sending x ≡ 0
    pub frame : frame_of_sending s.profile x ≡ f

  -- and that of this slot
  pub record HasBegunIn (f : ℕ) (d : Device) (j : ℕ) : Type 0 where
    pub sending : Sending
    pub begun : HasBegun f d sending
    pub slot : slot_of_sending sending ≡ j

  -- the flood of a slot it began once at most, also while it was off since
  abbrev pub BeganOnce : Device → Type 0
  BeganOnce d = (f : ℕ) (x y : Sending) → HasBegun f d x → HasBegun f d y → slot_of_sending x ≡ slot_of_sending y → x ≡ y

  -- in a window none of a later slot; and that of the slot if and only if the window's flood is begun and its first packet
  -- is no more ordered
  pub record BegunInWindow (n : Node) (d : Device) (j : ℕ) (w : Window) : Type 0 where
    pub below : (x : Sending) → HasBegun n.frame d x → slot_of_sending x ≤ j
    pub packet : (x : Sending) → HasBegun n.frame d x → slot_of_sending x ≡ j
        → (w.flood.initiated ≡ true) × (w.flood.first ≡ Some x.packet) × (IsFirstOrdered d.ordered → ⊥)
    pub made : w.flood.initiated ≡ true → IsFirstOrdered d.ordered ⊎ HasBegunIn n.frame d j

  -- none of this frame while it scans, and before slot j none of it or of a later one
  abbrev pub BegunAt : Node → Device → Stage → Type 0
  BegunAt n d Idle = ⊥
  BegunAt n d Scanning = (x : Sending) → HasBegun n.frame d x → ⊥
  BegunAt n d AwaitFrame = ⊤
  BegunAt n d (AwaitSlot j) = (x : Sending) → HasBegun n.frame d x → slot_of_sending x < j
  BegunAt n d (InWindow j w) = BegunInWindow n d j w

  pub record BeginsOnce (n : Node) (d : Device) : Type 0 where
    pub at : BegunAt n d n.stage
    pub once : BeganOnce d
