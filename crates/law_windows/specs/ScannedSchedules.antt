-- A scanning node joins by the first schedule of its rank that it receives in a frame.
use Rattle.std.specs.Prelude.{◌≡◌, ⊤, ℕ, ◌<◌, List, Some, false}
use Rattle.lwb_base.specs.Messages.{Schedule}
use Rattle.bus_rules.specs.Slots.{ScheduleOf}
use Rattle.lwb_member.specs.Said.{message_of}
use Rattle.node_core.specs.declared.stage.Stage.{Stage}
use Rattle.node_core.specs.declared.stage.Stage.TheVariants.{Idle, Scanning, AwaitFrame, AwaitSlot, InWindow}
use Rattle.node_core.specs.Nodes.{Node}
use Rattle.scenario_text.specs.ScenarioParts.{ScenarioParts}
use Rattle.radio_model.specs.declared.sending.Sending.{Sending}
use Rattle.radio_model.specs.Hearing.{frame_of_sending}
use Rattle.air_log.specs.declared.entry.Entry.{Entry}
use Rattle.air_log.specs.Devices.{Power, PowerOff, PowerOn}
use Rattle.air_log.specs.Entries.{HasHeardEntry}
use Rattle.air_log.specs.WindowLogs.{WindowLog}
use Rattle.law_safety.specs.SetAlarms.{rank_at}

-- in this frame v has received no schedule of this rank that ended before this tick
abbrev pub NoneHeard : ScenarioParts → List Entry → ℕ → ℕ → ℕ → ℕ → Type 0
NoneHeard s air v rank frame until =
    (x : Sending) (y : Schedule) → HasHeardEntry air v x → frame_of_sending s.profile x ≡ frame → x.end < until
    → message_of x.packet ≡ Some (ScheduleOf y) → y.plan.rank ≡ rank → ⊥

-- while it scans
abbrev pub ScansAt : ScenarioParts → List Entry → ℕ → ℕ → Node → Stage → Type 0
ScansAt s air v until n Idle = ⊤
ScansAt s air v until n Scanning = NoneHeard s air v (rank_at n) n.frame until
ScansAt s air v until n AwaitFrame = ⊤
ScansAt s air v until n (AwaitSlot j) = ⊤
ScansAt s air v until n (InWindow j w) = ⊤

abbrev pub ScansBy : ScenarioParts → List Entry → ℕ → ℕ → Power → Type 0
ScansBy s air v until (PowerOff boots) = ⊤
ScansBy s air v until (PowerOn n) = ScansAt s air v until n n.stage

-- and so before a window that a received schedule opened
abbrev pub JoinsFirst : ScenarioParts → List Entry → ℕ → WindowLog → Type 0
JoinsFirst s air v w = w.by_alarm ≡ false → NoneHeard s air v w.rank w.frame w.opened
