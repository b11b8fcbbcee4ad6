-- A node that has no window open, and what steps leave of its windows.
use Rattle.std.proofs.Common.{◌≡◌, ℕ, List, Bool, true, false, ◌==◌, if◌then◌else◌, Option, None, refl, ap, ◌∙◌}
use Rattle.lwb_base.specs.declared.event.Event.{Event}
use Rattle.radio_model.specs.declared.sending.Sending.{Sending}
use Rattle.bus_rules.specs.declared.tune.Tune.{Tune}
use Rattle.bus_rules.specs.declared.tune.Tune.TheVariants.{Scan, Hold, Host}
use Rattle.node_core.specs.declared.stage.Stage.{Stage}
use Rattle.node_core.specs.declared.stage.Stage.TheVariants.{Idle, Scanning, AwaitFrame, AwaitSlot, InWindow}
use Rattle.node_core.specs.Nodes.{Node}
use Rattle.node_core.specs.Rows.{stage_for}
use Rattle.node_core.specs.Windows.{Window}
use Rattle.air_log.specs.WindowLogs.{WindowLog, window_of_stage, windows_after, windows_by}
use Rattle.air_log.specs.Devices.{Power, PowerOff, PowerOn}
use Rattle.law_trails.specs.Walks.{AwaitsFrame, HasNoWindow, NoWindow}
use Rattle.law_safety.specs.CountedFrames.{IsResting}
use Rattle.law_windows.specs.OpenWindows.{AreClosed, StandAt, StandBy}

-- at a place without a window all have closed
pub all_closed : (logs : List WindowLog) (n : Node) (st : Stage) → NoWindow st → StandAt logs n st → AreClosed logs
all_closed logs n Idle none stand = stand
all_closed logs n Scanning none stand = stand
all_closed logs n AwaitFrame none stand = stand
all_closed logs n (AwaitSlot j) none stand = stand
all_closed logs n (InWindow j w) none stand = absurd none

pub stand_there : (logs : List WindowLog) (n : Node) (st : Stage) → NoWindow st → AreClosed logs → StandAt logs n st
stand_there logs n Idle none closed = closed
stand_there logs n Scanning none closed = closed
stand_there logs n AwaitFrame none closed = closed
stand_there logs n (AwaitSlot j) none closed = closed
stand_there logs n (InWindow j w) none closed = absurd none

pub by_power : (logs : List WindowLog) (p : Power) → HasNoWindow p → StandBy logs p → AreClosed logs
by_power logs (PowerOff boots) none stand = stand
by_power logs (PowerOn n) none stand = all_closed logs n n.stage none stand

pub no_window : (st : Stage) → IsResting st → NoWindow st
no_window Idle rests = absurd rests
no_window Scanning rests = tt
no_window AwaitFrame rests = tt
no_window (AwaitSlot j) rests = tt
no_window (InWindow j w) rests = absurd rests

pub awaiting : (st : Stage) → AwaitsFrame st → NoWindow st
awaiting Idle awaits = absurd awaits
awaiting Scanning awaits = tt
awaiting AwaitFrame awaits = tt
awaiting (AwaitSlot j) awaits = absurd awaits
awaiting (InWindow j w) awaits = absurd awaits

-- where the frame's alarm leaves a node
rests_either : (b : Bool) → NoWindow (if b then AwaitSlot 0 else AwaitFrame)
rests_either true = tt
rests_either false = tt

pub after_frame : (tune : Tune) (f : ℕ) → NoWindow (stage_for tune f)
after_frame (Scan r waited) f = tt
after_frame (Hold r due) f = rests_either (due == f)
after_frame (Host r due) f = rests_either (due == f)

no_window_of : (stage : Stage) → NoWindow stage → window_of_stage stage ≡ None
no_window_of Idle none = refl
no_window_of Scanning none = refl
no_window_of AwaitFrame none = refl
no_window_of (AwaitSlot i) none = refl
no_window_of (InWindow j w) none = absurd none

-- from one place without a window to another nothing is kept of windows
pub unchanged : (t : ℕ) (e : Event) (x : Option Sending) (n m : Node) (from to : Stage) (logs : List WindowLog) → NoWindow from → NoWindow to
    → windows_after t e x n m from to logs ≡ logs
unchanged t e x n m from to logs none later =
    ap (λ (old : Option (ℕ × Window)). windows_by t e x n m old (window_of_stage to) logs) (no_window_of from none)
    ∙ ap (λ (new : Option (ℕ × Window)). windows_by t e x n m None new logs) (no_window_of to later)
