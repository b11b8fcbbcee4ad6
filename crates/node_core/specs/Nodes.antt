-- The state of a node, and its times.
use Rattle.std.specs.Prelude.{ℕ, ◌+◌, ◌-◌, ◌*◌, min, List, length}
use Rattle.std.specs.declared.option.Option.{Option}
use Rattle.lwb_base.specs.Profile.{Numbers, airtime}
use Rattle.lwb_base.specs.declared.limits.TheConstants.{LAST_FRAME}
use Rattle.time_reference.specs.Reference.{stopped, heard_zero, host_zero, slot_time, times_of}
use Rattle.glossy_relay.specs.Relaying.{slot_of, counter_of}
use Rattle.bus_rules.specs.declared.delivery.Delivery.{Delivery}
use Rattle.bus_rules.specs.Streams.{Streams}
use Rattle.bus_rules.specs.Cores.{Core, Setup, booted}
use Rattle.node_core.specs.declared.stage.Stage.{Stage}
use Rattle.node_core.specs.declared.stage.Stage.TheVariants.{Idle}

-- zero: when slot 0 of the round that runs or comes next begins, by the node's clock
pub record Node : Type 0 where
  pub core : Core
  pub frame : ℕ
  pub zero : ℕ
  pub stage : Stage

-- a node with what is fixed for it, and the delivery of its last step, if it is still there
pub record NodeState : Type 0 where
  pub setup : Setup
  pub node : Node
  pub delivery : Option Delivery

-- a node with this boot, before its power comes on
abbrev pub rebooted : ℕ → Node
rebooted boot = record { core = booted boot; frame = 0; zero = 0; stage = Idle }

-- a node whose streams are these
abbrev pub with_streams : Node → Streams → Node
with_streams n streams = record n { core = record (n.core) { streams = streams } }

-- frame numbers stop here
abbrev pub stopped_frame : ℕ → ℕ
stopped_frame f = min f LAST_FRAME

-- the alarm of frame f
abbrev pub frame_alarm : Numbers → ℕ → ℕ
frame_alarm p f = stopped (f * p.frame + p.end)

-- a host's zero for its round in frame f
abbrev pub zero_of_host : Numbers → ℕ → ℕ
zero_of_host p f = stopped (host_zero p f)

-- when the window of slot j opens, its initiator starts, and it closes. The node table says it by the zero alone; that the
-- code's windows are these (`round_runner`) is proved
abbrev pub opens_at : Numbers → ℕ → ℕ → ℕ
opens_at p z j = slot_time (times_of p z) j

abbrev pub starts_at : Numbers → ℕ → ℕ → ℕ
starts_at p z j = stopped (z + j * p.slot + p.listen)

abbrev pub closes_at : Numbers → ℕ → ℕ → ℕ
closes_at p z j = stopped (z + j * p.slot + p.close)

-- the zero by a schedule whose reception ended at this reading
abbrev pub zero_from : Numbers → ℕ → List ℕ → ℕ
zero_from p now q = heard_zero p (now - airtime p (length q)) (counter_of q) (length q) (slot_of q)
