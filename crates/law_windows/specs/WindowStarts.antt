-- Which windows come first in a frame: their node is as the script lines of the frame have left it.
use Rattle.std.specs.Prelude.{◌≡◌, ⊤, ℕ, ◌/◌, ◌<◌, List, true, false}
use Rattle.node_core.specs.declared.stage.Stage.{Stage}
use Rattle.node_core.specs.declared.stage.Stage.TheVariants.{Idle, Scanning, AwaitFrame, AwaitSlot, InWindow}
use Rattle.node_core.specs.Nodes.{Node}
use Rattle.scenario_text.specs.ScenarioParts.{ScenarioParts}
use Rattle.air_log.specs.declared.entry.Entry.{Entry}
use Rattle.air_log.specs.Devices.{Power, PowerOff, PowerOn}
use Rattle.air_log.specs.Lawful.{heard_by}
use Rattle.air_log.specs.Trails.{at_frame, frame_start}
use Rattle.air_log.specs.WindowLogs.{WindowLog}
use Rattle.law_trails.specs.Phases.{Phase, Lines, Hearings, End, Alarms, Start, Over}

module _ (s : ScenarioParts) (clocks : ℕ → ℕ → ℕ) (air : List Entry) (v : ℕ) where
  -- the node as the script lines of frame f have left it
  abbrev pub IsAtStart : ℕ → Node → Type 0
  IsAtStart f n = (at_frame s v (clocks v) (heard_by air v) f).power ≡ PowerOn n

  -- a window of slot 0 that opened by its alarm, and one that a received schedule opened
  pub record ComesFirst (w : WindowLog) : Type 0 where
    pub opening : w.by_alarm ≡ true → w.slot ≡ 0 → IsAtStart w.frame w.before
    pub joining : w.by_alarm ≡ false → IsAtStart w.frame w.before

  -- while a node scans or awaits slot 0 in the frame that it counts, it is as the frame has found it
  abbrev pub UnchangedAt : ℕ → Node → Stage → Type 0
  UnchangedAt f n Idle = ⊤
  UnchangedAt f n Scanning = n.frame ≡ f → IsAtStart f n
  UnchangedAt f n AwaitFrame = ⊤
  UnchangedAt f n (AwaitSlot j) = j ≡ 0 → n.frame ≡ f → IsAtStart f n
  UnchangedAt f n (InWindow j w) = ⊤

  abbrev pub UnchangedBy : ℕ → Power → Type 0
  UnchangedBy f (PowerOff boots) = ⊤
  UnchangedBy f (PowerOn n) = UnchangedAt f n n.stage

  -- in a phase of tick t, the script lines of whose frame have been given
  abbrev pub UnchangedIn : ℕ → Phase → Power → Type 0
  UnchangedIn t Lines p = frame_start s (t / s.profile.frame) < t → UnchangedBy (t / s.profile.frame) p
  UnchangedIn t Hearings p = UnchangedBy (t / s.profile.frame) p
  UnchangedIn t End p = UnchangedBy (t / s.profile.frame) p
  UnchangedIn t Alarms p = UnchangedBy (t / s.profile.frame) p
  UnchangedIn t Start p = UnchangedBy (t / s.profile.frame) p
  UnchangedIn t Over p = UnchangedBy (t / s.profile.frame) p
