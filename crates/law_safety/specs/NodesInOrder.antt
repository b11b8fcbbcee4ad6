-- What is known of a node at any moment of any tick: all its clauses.
use Rattle.std.specs.Prelude.{⊤, ℕ, List}
use Rattle.std.specs.Option.{IfSome}
use Rattle.node_core.specs.declared.stage.Stage.{Stage}
use Rattle.node_core.specs.declared.stage.Stage.TheVariants.{Idle, Scanning, AwaitFrame, AwaitSlot, InWindow}
use Rattle.node_core.specs.Windows.{Window}
use Rattle.node_core.specs.Nodes.{Node}
use Rattle.scenario_text.specs.ScenarioParts.{ScenarioParts}
use Rattle.air_log.specs.declared.entry.Entry.{Entry}
use Rattle.air_log.specs.Devices.{Device, Power, PowerOff, PowerOn}
use Rattle.law_safety.specs.StillDevices.{IsOff}
use Rattle.law_safety.specs.CountedFrames.{InFrame}
use Rattle.law_safety.specs.SetAlarms.{HasAlarm}
use Rattle.law_safety.specs.TunedNodes.{HasTune}
use Rattle.law_safety.specs.RadiosOn.{HasRadio}
use Rattle.law_safety.specs.OpenFloods.{HasFlood}
use Rattle.law_safety.specs.OrderedSendings.{HasOrder, HasSending}
use Rattle.law_safety.specs.BegunFloods.{BeganOnce, BeginsOnce}
use Rattle.law_safety.specs.KnownPlans.{HasPlan}
use Rattle.law_safety.specs.AcceptedPackets.{HasAccepted}

module _ (s : ScenarioParts) (clocks : ℕ → ℕ → ℕ) (air : List Entry) (v : ℕ) where
  -- all that goes on in a window
  pub record InOpenWindow (told : ℕ) (n : Node) (d : Device) (j : ℕ) (w : Window) : Type 0 where
    pub flood : HasFlood s n d j w
    pub order : IfSome d.ordered (HasOrder s clocks air v told n j w)
    pub sending : IfSome d.sending (HasSending s clocks air v n j)
    pub accepted : HasAccepted s clocks air v told n j w

  abbrev pub WindowAt : ℕ → Node → Device → Stage → Type 0
  WindowAt told n d Idle = ⊥
  WindowAt told n d Scanning = ⊤
  WindowAt told n d AwaitFrame = ⊤
  WindowAt told n d (AwaitSlot j) = ⊤
  WindowAt told n d (InWindow j w) = InOpenWindow told n d j w

  pub record IsOn (t told : ℕ) (d : Device) (n : Node) : Type 0 where
    pub frame : InFrame s clocks v t n
    pub alarm : HasAlarm s clocks v n d
    pub tune : HasTune s clocks v n
    pub radio : HasRadio n d
    pub begun : BeginsOnce s n d
    pub plan : HasPlan s clocks air v told n
    pub window : WindowAt told n d n.stage

  abbrev pub InOrderBy : ℕ → ℕ → Device → Power → Type 0
  InOrderBy t told d (PowerOff boots) = IsOff d × BeganOnce s d
  InOrderBy t told d (PowerOn n) = IsOn t told d n

  -- at some moment of tick t, the script lines before the tick `told` having been given
  pub record IsInOrder (t told : ℕ) (d : Device) : Type 0 where
    pub by_power : InOrderBy t told d d.power
