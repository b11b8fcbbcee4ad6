-- What is kept of the windows of a node: how each opened, what happened in it, and how it closed.
use Rattle.std.specs.Prelude.{ℕ, List, [], ◌∷◌, ◌++◌, Bool, true, false, Some, None}
use Rattle.std.specs.declared.option.Option.{Option}
use Rattle.lwb_base.specs.declared.event.Event.{Event}
use Rattle.lwb_base.specs.declared.event.Event.TheVariants.{Boot, Alarm, Heard, Sent}
use Rattle.radio_model.specs.declared.sending.Sending.{Sending}
use Rattle.bus_rules.specs.Tuning.{rank_of}
use Rattle.node_core.specs.declared.stage.Stage.{Stage}
use Rattle.node_core.specs.declared.stage.Stage.TheVariants.{Idle, Scanning, AwaitFrame, AwaitSlot, InWindow}
use Rattle.node_core.specs.Windows.{Window}
use Rattle.node_core.specs.Nodes.{Node}

-- what happened at a tick while a window was open: a packet was received whole, or an own transmission of it ended
pub data Happening : Type 0 where
  HeardAt : (tick : ℕ) → (packet : List ℕ) → Happening
  SentAt : (tick : ℕ) → (packet : List ℕ) → Happening

-- how a window closed: the tick, and the node after it
pub record Closing : Type 0 where
  pub tick : ℕ
  pub after : Node

-- by_alarm: it opened by its alarm, and not by a schedule that a scanning node received; opened: the tick; before, after: the node
-- round the event that opened it; last: the window itself as it was at the last event in it
pub record WindowLog : Type 0 where
  pub frame : ℕ
  pub rank : ℕ
  pub slot : ℕ
  pub by_alarm : Bool
  pub opened : ℕ
  pub before : Node
  pub after : Node
  pub happenings : List Happening
  pub last : Window
  pub closed : Option Closing

abbrev pub is_alarm : Event → Bool
is_alarm Boot = false
is_alarm Alarm = true
is_alarm (Heard p) = false
is_alarm Sent = false

-- what an event at tick t is to the window that is open; a Sent comes with the transmission that ended
abbrev pub happening : ℕ → Event → Option Sending → List Happening
happening t (Heard p) ended = HeardAt t p ∷ []
happening t Sent (Some x) = SentAt t x.packet ∷ []
happening t Sent None = []
happening t Boot ended = []
happening t Alarm ended = []

abbrev pub opened_log : ℕ → Event → Option Sending → Node → Node → ℕ → Window → WindowLog
opened_log t e ended n m j w = record {
  frame = n.frame;
  rank = rank_of n.core.tune;
  slot = j;
  by_alarm = is_alarm e;
  opened = t;
  before = n;
  after = m;
  happenings = happening t e ended;
  last = w;
  closed = None;
}

-- the open window is first
abbrev pub gone_on : ℕ → Event → Option Sending → Window → List WindowLog → List WindowLog
gone_on t e ended w [] = []
gone_on t e ended w (x ∷ xs) = record x { happenings = x.happenings ++ happening t e ended; last = w } ∷ xs

abbrev pub logs_after_closing : ℕ → Node → List WindowLog → List WindowLog
logs_after_closing t m [] = []
logs_after_closing t m (x ∷ xs) = record x { closed = Some (record { tick = t; after = m }) } ∷ xs

-- the window of a stage, with its slot
abbrev pub window_of_stage : Stage → Option (ℕ × Window)
window_of_stage Idle = None
window_of_stage Scanning = None
window_of_stage AwaitFrame = None
window_of_stage (AwaitSlot j) = None
window_of_stage (InWindow j w) = Some (j, w)

-- the windows after an event at tick t that took the node n to m: with a window before it and one after it the event belongs to
-- that window, with one before it alone it closes that, and with one after it alone it opens it
abbrev pub windows_by : ℕ → Event → Option Sending → Node → Node → Option (ℕ × Window) → Option (ℕ × Window) → List WindowLog → List WindowLog
windows_by t e ended n m (Some old) (Some new) logs = gone_on t e ended new.1 logs
windows_by t e ended n m (Some old) None logs = logs_after_closing t m logs
windows_by t e ended n m None (Some new) logs = opened_log t e ended n m new.0 new.1 ∷ logs
windows_by t e ended n m None None logs = logs

abbrev pub windows_after : ℕ → Event → Option Sending → Node → Node → Stage → Stage → List WindowLog → List WindowLog
windows_after t e ended n m from to logs = windows_by t e ended n m (window_of_stage from) (window_of_stage to) logs
