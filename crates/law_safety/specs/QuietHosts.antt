-- The device of a host, next to its life.
use Rattle.std.specs.Prelude.{◌≡◌, ⊤, ℕ, ◌/◌, ◌<◌, ◌≤◌, ◌⊎◌, true, false, Some, None, Contains, slice_index}
use Rattle.std.specs.declared.option.Option.{Option}
use Rattle.lwb_base.specs.Messages.{Schedule}
use Rattle.bus_rules.specs.Tuning.{hosts}
use Rattle.bus_rules.specs.Slots.{ScheduleOf}
use Rattle.lwb_member.specs.Said.{message_of}
use Rattle.node_core.specs.Nodes.{Node}
use Rattle.scenario_text.specs.ScenarioParts.{ScenarioParts}
use Rattle.radio_model.specs.declared.sending.Sending.{Sending}
use Rattle.radio_model.specs.Hearing.{frame_of_sending, counter_of_sending}
use Rattle.air_log.specs.Devices.{Device, Power, PowerOff, PowerOn, OrderedPacket}
use Rattle.air_log.specs.Trails.{frame_start}
use Rattle.law_trails.specs.Lives.{Life, OpeningMade, ClosingMade, Quiet}

-- the life has this schedule of a frame, as an opening or as a closing
abbrev pub LifeHasSchedule : Life → ℕ → Schedule → Type 0
LifeHasSchedule l frame y =
    ((y.gap ≡ 0) × Contains l.openings (record { frame = frame; plan = y.plan }))
    ⊎ Contains l.closings (record { frame = frame; gap = y.gap; plan = y.plan })

-- the life and the node go together
pub record LivesAs (l : Life) (n : Node) : Type 0 where
  pub on : l.on ≡ true
  pub frame : l.frame ≡ n.frame
  pub tune : l.tune ≡ n.core.tune
  pub plan : hosts n.core.tune ≡ true → l.plan ≡ n.core.plan

abbrev pub LivesBy : Life → ℕ → Power → Type 0
LivesBy l frame (PowerOff boots) = (l.on ≡ false) × (l.frame ≤ frame)
LivesBy l frame (PowerOn n) = LivesAs l n

-- the packet that is ordered, if it is the first of a schedule, is of this frame
abbrev pub IsOrderedBy : Life → ℕ → Option OrderedPacket → Type 0
IsOrderedBy l frame None = ⊤
IsOrderedBy l frame (Some o) =
    slice_index o.packet 2 ≡ 0 → (y : Schedule) → message_of o.packet ≡ Some (ScheduleOf y) → LifeHasSchedule l frame y

-- the device of a rank's host has a quiet life, with all schedules that it began and is about to begin, each of a frame that
-- began before the tick `told`
pub record HostsInOrder (s : ScenarioParts) (rank t told : ℕ) (d : Device) : Type 0 where
  pub life : Life
  pub quiet : Quiet rank life
  pub lives : LivesBy life (t / s.profile.frame) d.power
  pub opened : (o : OpeningMade) → Contains life.openings o → frame_start s o.frame < told
  pub closed : (c : ClosingMade) → Contains life.closings c → frame_start s c.frame < told
  pub sent : (x : Sending) (y : Schedule) → Contains d.made.sent x → counter_of_sending x ≡ 0
      → message_of x.packet ≡ Some (ScheduleOf y) → LifeHasSchedule life (frame_of_sending s.profile x) y
  pub ordered : IsOrderedBy life (t / s.profile.frame) d.ordered
