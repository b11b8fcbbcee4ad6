-- The induction over the slots of a round: what is claimed before each of them, the step, and the end.
use Rattle.std.specs.Prelude.{◌≡◌, ℕ, zero, suc, ◌<◌, ◌≤◌, List, true, Some, None, is_some}
use Rattle.lwb_base.specs.Messages.{Plan}
use Rattle.scenario_text.specs.ScenarioParts.{ScenarioParts}
use Rattle.scenario_text.specs.FloodParts.{knows}
use Rattle.bus_rules.specs.Plans.{last_slot}
use Rattle.bus_rules.specs.Cores.{Core, is_member}
use Rattle.node_core.specs.Rows.{accepted_in}
use Rattle.air_log.specs.declared.entry.Entry.{Entry}
use Rattle.air_log.specs.Trails.{at_frame}
use Rattle.air_log.specs.Lawful.{heard_by}
use Rattle.air_log.specs.WindowLogs.{WindowLog, Closing}
use Rattle.bus_rules.specs.States.{StateOn}
use Rattle.bus_terms.specs.Rounds.{accepted_at, round_of_rank, message_said}
use Rattle.bus_terms.specs.Bus.{state_at}
use Rattle.air_log.specs.Devices.{state_of_power}
use Rattle.law_terms.specs.LawfulRuns.{IsLawfulRun}
use Rattle.bus_terms.specs.HostedRounds.{slot_in, node_before}
use Rattle.law_terms.specs.SlotLaws.{IsRound, IsWindowOf, HasWindow}

-- after the script lines of frame f the nodes are the bus's
abbrev pub IsFrameStart : ScenarioParts → (ℕ → ℕ → ℕ) → List Entry → ℕ → Type 0
IsFrameStart s clocks air f = (v : ℕ) → knows s.nodes v ≡ true → state_of_power (at_frame s v (clocks v) (heard_by air v) f).power ≡ state_at s f v

-- before slot j: a member is the bus's as it comes to its window, and goes by the round's plan; every other node is the bus's as the frame found it
pub record IsSlotStart (s : ScenarioParts) (clocks : ℕ → ℕ → ℕ) (air : List Entry) (rank f : ℕ) (p : Plan) (j : ℕ) : Type 0 where
  pub found : IsFrameStart s clocks air f
  pub core : (v : ℕ) (w : WindowLog) → IsWindowOf s clocks air rank f j v w → w.by_alarm ≡ true → node_before s rank f p j v ≡ StateOn w.before.core
  pub member : (v : ℕ) (w : WindowLog) → IsWindowOf s clocks air rank f j v w → w.by_alarm ≡ true → is_member rank f w.before.core ≡ true
  pub plan : (v : ℕ) (w : WindowLog) → IsWindowOf s clocks air rank f j v w → w.by_alarm ≡ true → w.before.core.plan ≡ p
  pub window : (v : ℕ) (c : Core) → knows s.nodes v ≡ true → node_before s rank f p j v ≡ StateOn c → is_member rank f c ≡ true
      → HasWindow s clocks air rank f j v
  pub others : (v : ℕ) → knows s.nodes v ≡ true → (HasWindow s clocks air rank f j v → ⊥) → node_before s rank f p j v ≡ state_at s f v

-- what the flood of slot j gives for the windows of it: all that the step asks of the theorem on floods
pub record IsSlotHeard (s : ScenarioParts) (clocks : ℕ → ℕ → ℕ) (air : List Entry) (rank f : ℕ) (p : Plan) (j : ℕ) : Type 0 where
  pub accepted : (v : ℕ) (w : WindowLog) → IsWindowOf s clocks air rank f j v w → is_some w.closed ≡ true
      → accepted_in w.last ≡ accepted_at (slot_in s rank f p j) v
  pub initiated : (v : ℕ) (w : WindowLog) → IsWindowOf s clocks air rank f j v w
      → w.last.flood.initiated ≡ is_some (message_said ((slot_in s rank f p j).window v))
  -- a scanning node with no window accepted nothing
  pub deaf : (v : ℕ) → knows s.nodes v ≡ true → ((w : WindowLog) → IsWindowOf s clocks air rank f j v w → ⊥) → accepted_at (slot_in s rank f p j) v ≡ None

abbrev pub SlotHeardLaw : Type 0
SlotHeardLaw = (s : ScenarioParts) (clocks : ℕ → ℕ → ℕ) (air : List Entry) → IsLawfulRun s clocks air
    → (rank f j : ℕ) (p : Plan) → IsRound s rank f p → j ≤ last_slot p → IsSlotStart s clocks air rank f p j → IsSlotHeard s clocks air rank f p j

abbrev pub SlotStepLaw : Type 0
SlotStepLaw = (s : ScenarioParts) (clocks : ℕ → ℕ → ℕ) (air : List Entry) → IsLawfulRun s clocks air
    → (rank f j : ℕ) (p : Plan) → IsRound s rank f p → j < last_slot p
    → IsSlotStart s clocks air rank f p j → IsSlotHeard s clocks air rank f p j → IsSlotStart s clocks air rank f p (suc j)

-- after the last slot: who had a window in it is as that left it
pub record IsRoundEnd (s : ScenarioParts) (clocks : ℕ → ℕ → ℕ) (air : List Entry) (rank f : ℕ) (p : Plan) : Type 0 where
  pub core : (v : ℕ) (w : WindowLog) (c : Closing) → IsWindowOf s clocks air rank f (last_slot p) v w → w.closed ≡ Some c
      → round_of_rank s rank f (state_at s f) v ≡ StateOn c.after.core
  pub others : (v : ℕ) → knows s.nodes v ≡ true → ((w : WindowLog) → IsWindowOf s clocks air rank f (last_slot p) v w → ⊥)
      → round_of_rank s rank f (state_at s f) v ≡ state_at s f v

abbrev pub RoundEndLaw : Type 0
RoundEndLaw = (s : ScenarioParts) (clocks : ℕ → ℕ → ℕ) (air : List Entry) → IsLawfulRun s clocks air
    → (rank f : ℕ) (p : Plan) → IsRound s rank f p
    → IsSlotStart s clocks air rank f p (last_slot p) → IsSlotHeard s clocks air rank f p (last_slot p) → IsRoundEnd s clocks air rank f p

-- it begins with the states at the start of the frame
abbrev pub FirstSlotLaw : Type 0
FirstSlotLaw = (s : ScenarioParts) (clocks : ℕ → ℕ → ℕ) (air : List Entry) → IsLawfulRun s clocks air
    → (rank f : ℕ) (p : Plan) → IsFrameStart s clocks air f → IsRound s rank f p → IsSlotStart s clocks air rank f p zero
