-- How the windows of a node open and close, by the rows of the node table.
use Rattle.std.specs.Prelude.{◌≡◌, ℕ, List, Bool, true, false, Some, Contains}
use Rattle.lwb_base.specs.Messages.{Schedule}
use Rattle.glossy_relay.specs.Relaying.{slot_of}
use Rattle.bus_rules.specs.Slots.{ScheduleOf}
use Rattle.lwb_member.specs.Said.{message_of}
use Rattle.node_core.specs.declared.stage.Stage.TheVariants.{Scanning, AwaitSlot, InWindow}
use Rattle.node_core.specs.Nodes.{Node}
use Rattle.node_core.specs.Rows.{window_opens, window_closes, joins}
use Rattle.scenario_text.specs.ScenarioParts.{ScenarioParts}
use Rattle.air_log.specs.WindowLogs.{WindowLog, HeardAt, Closing}
use Rattle.scenario_text.specs.Setups.{setup_of}
use Rattle.law_safety.specs.SetAlarms.{rank_at}

-- the node in a window, as the last event in it left it: since the opening nothing but the window has changed
abbrev pub node_in_window : WindowLog → Node
node_in_window w = record (w.after) { stage = InWindow w.slot w.last }

module _ (s : ScenarioParts) (clocks : ℕ → ℕ → ℕ) (v : ℕ) where
  -- the alarm of the slot that the node awaited
  pub record OpensByAlarm (w : WindowLog) : Type 0 where
    pub awaited : w.before.stage ≡ AwaitSlot w.slot
    pub after : w.after ≡ (window_opens (setup_of s v) w.before w.slot).node

  -- a schedule of its rank that the node received while it scanned
  pub record OpensByHearing (w : WindowLog) : Type 0 where
    pub scanned : w.before.stage ≡ Scanning
    pub packet : List ℕ
    pub schedule : Schedule
    pub says : message_of packet ≡ Some (ScheduleOf schedule)
    pub of_rank : schedule.plan.rank ≡ w.rank
    pub in_slot : slot_of packet ≡ w.slot
    pub happened : Contains w.happenings (HeardAt w.opened packet)
    pub after : w.after ≡ (joins (setup_of s v) w.before (clocks v w.opened) packet schedule).node

  abbrev pub OpensBy : Bool → WindowLog → Type 0
  OpensBy true w = OpensByAlarm w
  OpensBy false w = OpensByHearing w

  -- it is of the frame and the rank of the node before it and in it
  pub record IsOpened (w : WindowLog) : Type 0 where
    pub frame_before : w.before.frame ≡ w.frame
    pub frame_after : w.after.frame ≡ w.frame
    pub rank_before : rank_at w.before ≡ w.rank
    pub rank_after : rank_at w.after ≡ w.rank
    pub by : OpensBy w.by_alarm w

  -- and it closes by its row
  abbrev pub ClosesAs : WindowLog → Closing → Type 0
  ClosesAs w c = c.after ≡ (window_closes (setup_of s v) (node_in_window w) w.slot w.last).node
