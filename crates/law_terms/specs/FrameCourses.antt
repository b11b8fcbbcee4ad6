-- How a node goes through a frame: from the script lines at its start, window by window, to the lines of the next.
use Rattle.std.specs.Prelude.{◌≡◌, ℕ, suc, ◌<◌, List, Contains, true, false, Some, is_some}
use Rattle.scenario_text.specs.ScenarioParts.{ScenarioParts}
use Rattle.scenario_text.specs.FloodParts.{knows}
use Rattle.bus_rules.specs.Tuning.{rank_of}
use Rattle.bus_rules.specs.Cores.{frame_ended}
use Rattle.bus_rules.specs.States.{StateOff, StateOn}
use Rattle.node_core.specs.declared.stage.Stage.TheVariants.{AwaitSlot}
use Rattle.node_core.specs.Nodes.{Node}
use Rattle.air_log.specs.declared.entry.Entry.{Entry}
use Rattle.air_log.specs.Devices.{Power, PowerOff, PowerOn, state_of_power}
use Rattle.air_log.specs.Lawful.{heard_by, trail_in}
use Rattle.scenario_text.specs.Setups.{setup_of}
use Rattle.air_log.specs.Trails.{at_frame, before_tick, frame_start}
use Rattle.air_log.specs.WindowLogs.{WindowLog, Closing}
use Rattle.law_terms.specs.LawfulRuns.{IsLawfulRun}

module _ (s : ScenarioParts) (clocks : ℕ → ℕ → ℕ) (air : List Entry) (v f : ℕ) where
  -- after the script lines of frame f
  abbrev pub power_at : Power
  power_at = (at_frame s v (clocks v) (heard_by air v) f).power

  -- before those of the next
  abbrev pub power_after : Power
  power_after = (before_tick s v (clocks v) (heard_by air v) (frame_start s (suc f))).power

  -- a window of v of this frame
  pub record IsWindowIn (w : WindowLog) : Type 0 where
    pub there : Contains (trail_in s clocks air v).made.windows w
    pub frame : w.frame ≡ f

  -- opened by its alarm, at this node
  pub record OpensAt (rank j : ℕ) (n : Node) : Type 0 where
    pub window : WindowLog
    pub here : IsWindowIn window
    pub channel : window.rank ≡ rank
    pub slot : window.slot ≡ j
    pub by_alarm : window.by_alarm ≡ true
    pub node : window.before ≡ n

  -- closed, with this node after it
  pub record ClosesTo (rank j : ℕ) (n : Node) : Type 0 where
    pub window : WindowLog
    pub here : IsWindowIn window
    pub channel : window.rank ≡ rank
    pub slot : window.slot ≡ j
    pub closing : Closing
    pub closed : window.closed ≡ Some closing
    pub node : closing.after ≡ n

  abbrev pub rank_in_frame : Node → ℕ
  rank_in_frame n = rank_of n.core.tune

  -- the course of a node that is on, and n after the script lines
  pub record IsCourse (n : Node) : Type 0 where
    pub frame : n.frame ≡ f
    -- each window is of its rank, and has closed
    pub ranks : (w : WindowLog) → IsWindowIn w → w.rank ≡ rank_in_frame n
    pub closes : (w : WindowLog) → IsWindowIn w → is_some w.closed ≡ true
    -- a slot has one window at most
    pub once : (w x : WindowLog) → IsWindowIn w → IsWindowIn x → w.slot ≡ x.slot → w ≡ x
    -- a node that awaits slot 0 has its window
    pub first : n.stage ≡ AwaitSlot 0 → OpensAt (rank_in_frame n) 0 n
    -- what opens in slot 0 by its alarm, or by a schedule that is received, opens at n
    pub begins : (w : WindowLog) → IsWindowIn w → w.slot ≡ 0 → w.before ≡ n
    pub joins : (w : WindowLog) → IsWindowIn w → w.by_alarm ≡ false → w.before ≡ n
    -- a window that leaves the node awaiting the next slot is followed by the window of that slot, and each later window
    -- follows one so
    pub goes_on : (w : WindowLog) (c : Closing) → IsWindowIn w → w.closed ≡ Some c → c.after.stage ≡ AwaitSlot (suc w.slot)
        → OpensAt w.rank (suc w.slot) c.after
    pub follows : (w : WindowLog) (j : ℕ) → IsWindowIn w → w.by_alarm ≡ true → w.slot ≡ suc j → ClosesTo w.rank j w.before
    -- at the end of the frame its core has ended the frame: that of n where it had no window, else as its last one left it
    pub rests : ((w : WindowLog) → IsWindowIn w → ⊥) → state_of_power power_after ≡ StateOn (frame_ended (setup_of s v) f n.core)
    pub ends : (w : WindowLog) (c : Closing) → IsWindowIn w → w.closed ≡ Some c → (c.after.stage ≡ AwaitSlot (suc w.slot) → ⊥)
        → state_of_power power_after ≡ StateOn (frame_ended (setup_of s v) f c.after.core)

  -- a node that is off stays off, and has no window
  pub record StaysOff (boots : ℕ) : Type 0 where
    pub none_ : (w : WindowLog) → IsWindowIn w → ⊥
    pub off : state_of_power power_after ≡ StateOff boots

  abbrev pub GoesThrough : Power → Type 0
  GoesThrough (PowerOff boots) = StaysOff boots
  GoesThrough (PowerOn n) = IsCourse n

-- each node of a valid run goes through each frame so
abbrev pub CoursesLaw : Type 0
CoursesLaw = (s : ScenarioParts) (clocks : ℕ → ℕ → ℕ) (air : List Entry) → IsLawfulRun s clocks air
    → (v f : ℕ) → knows s.nodes v ≡ true → f < s.frames → GoesThrough s clocks air v f (power_at s clocks air v f)
