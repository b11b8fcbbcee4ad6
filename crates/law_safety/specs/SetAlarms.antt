-- When the alarm of a node is due: at the end of its frame, at the opening of a slot, or at the closing of a window.
use Rattle.std.specs.Prelude.{◌≡◌, ℕ, suc, ◌≤◌, ◌⊎◌, Some}
use Rattle.time_reference.specs.Zeros.{tick_at_offset, opening_offset, closing_offset}
use Rattle.bus_rules.specs.Tuning.{rank_of}
use Rattle.node_core.specs.declared.stage.Stage.{Stage}
use Rattle.node_core.specs.declared.stage.Stage.TheVariants.{Idle, Scanning, AwaitFrame, AwaitSlot, InWindow}
use Rattle.node_core.specs.Nodes.{Node}
use Rattle.scenario_text.specs.ScenarioParts.{ScenarioParts}
use Rattle.air_log.specs.Devices.{Device}
use Rattle.law_safety.specs.RoundZeros.{GoodFor}
use Rattle.law_safety.specs.CountedFrames.{frame_alarm_at}

abbrev pub rank_at : Node → ℕ
rank_at n = rank_of n.core.tune

module _ (s : ScenarioParts) (clocks : ℕ → ℕ → ℕ) (v : ℕ) where
  -- the tick at which its clock comes to an offset from its zero
  abbrev pub tick_by : Node → ℕ → ℕ
  tick_by n q = tick_at_offset (clocks v) n.zero q

  -- after an accepted opening has moved the zero, slot j opens at the closing of the slot before by the old zero, if its own
  -- opening is past by then
  pub record OpensLate (n : Node) (j alarm : ℕ) : Type 0 where
    pub before : ℕ
    pub next : j ≡ suc before
    pub zero : ℕ
    pub good : GoodFor s clocks (rank_at n) v zero n.frame (closing_offset s.profile before)
    pub at : alarm ≡ tick_at_offset (clocks v) zero (closing_offset s.profile before)
    pub late : tick_by n (opening_offset s.profile j) ≤ alarm

  abbrev pub AlarmFor : Node → ℕ → Stage → Type 0
  AlarmFor n alarm Idle = ⊥
  AlarmFor n alarm Scanning = alarm ≡ frame_alarm_at s clocks v n.frame
  AlarmFor n alarm AwaitFrame = alarm ≡ frame_alarm_at s clocks v n.frame
  AlarmFor n alarm (AwaitSlot j) = (alarm ≡ tick_by n (opening_offset s.profile j)) ⊎ OpensLate n j alarm
  AlarmFor n alarm (InWindow j w) = alarm ≡ tick_by n (closing_offset s.profile j)

  pub record HasAlarm (n : Node) (d : Device) : Type 0 where
    pub alarm : ℕ
    pub set : d.alarm ≡ Some alarm
    pub at : AlarmFor n alarm n.stage
