-- Schedules that were sent and received, and the plans that they bring.
use Rattle.std.specs.Prelude.{◌≡◌, ◌≢◌, ℕ, ◌+◌, ◌<◌, ◌≤◌, List, Some, Contains, slice_get}
use Rattle.lwb_base.specs.Messages.{Plan, Schedule}
use Rattle.time_reference.specs.Budgets.{budget_of}
use Rattle.bus_rules.specs.Plans.{last_slot}
use Rattle.bus_rules.specs.Slots.{ScheduleOf}
use Rattle.lwb_member.specs.Said.{message_of}
use Rattle.scenario_text.specs.ScenarioParts.{ScenarioParts}
use Rattle.bus_rules.specs.declared.act.Act.TheVariants.{Off}
use Rattle.scenario_text.specs.declared.script.ScriptLine.{ScriptLine}
use Rattle.radio_model.specs.declared.sending.Sending.{Sending}
use Rattle.radio_model.specs.Hearing.{frame_of_sending, counter_of_sending}
use Rattle.air_log.specs.declared.entry.Entry.{Entry}
use Rattle.air_log.specs.Entries.{sendings_of, HasHeardEntry}
use Rattle.air_log.specs.Trails.{frame_start}

-- v is the host that the scenario names for the rank
abbrev pub IsHostOf : ScenarioParts → ℕ → ℕ → Type 0
IsHostOf s rank v = slice_get s.hosts rank ≡ Some v

-- a plan of the rank, with no more slots than any round may have
pub record FitsRound (s : ScenarioParts) (rank : ℕ) (plan : Plan) : Type 0 where
  pub of_rank : plan.rank ≡ rank
  pub short : last_slot plan ≤ (budget_of s.profile).last

-- the schedule begins a flood on the channel of its rank
pub record IsScheduleSent (air : List Entry) (rank : ℕ) (y : Schedule) (x : Sending) : Type 0 where
  pub sent : Contains (sendings_of air) x
  pub channel : x.rank ≡ rank
  pub first : counter_of_sending x ≡ 0
  pub says : message_of x.packet ≡ Some (ScheduleOf y)
  pub rank_said : y.plan.rank ≡ rank

-- v received the schedule on the channel of its rank
pub record IsScheduleHeard (air : List Entry) (v rank : ℕ) (y : Schedule) (x : Sending) : Type 0 where
  pub there : HasHeardEntry air v x
  pub channel : x.rank ≡ rank
  pub says : message_of x.packet ≡ Some (ScheduleOf y)
  pub rank_said : y.plan.rank ≡ rank

-- no off line of v after frame g is given before this tick
abbrev pub StaysOnUntil : ScenarioParts → ℕ → ℕ → ℕ → Type 0
StaysOnUntil s v g tick =
    (l : ScriptLine) → Contains s.script l → l.node ≡ v → g < l.frame → frame_start s l.frame < tick → l.act ≢ Off

-- the plan was sent for the round of this rank and frame
pub record IsPlanned (s : ScenarioParts) (air : List Entry) (rank frame : ℕ) (plan : Plan) : Type 0 where
  pub sending : Sending
  pub gap : ℕ
  pub schedule : IsScheduleSent air rank (record { plan = plan; gap = gap }) sending
  pub due : frame_of_sending s.profile sending + gap ≡ frame

-- v received it, and stays on until this tick
pub record HasHeardPlan (s : ScenarioParts) (air : List Entry) (v rank frame : ℕ) (plan : Plan) (tick : ℕ) : Type 0 where
  pub heard : Sending
  pub gap : ℕ
  pub schedule : IsScheduleHeard air v rank (record { plan = plan; gap = gap }) heard
  pub due : frame_of_sending s.profile heard + gap ≡ frame
  pub stays : StaysOnUntil s v (frame_of_sending s.profile heard) tick

-- v received it from the opening of this very round
pub record HasHeardOpening (s : ScenarioParts) (air : List Entry) (v rank frame : ℕ) (plan : Plan) : Type 0 where
  pub heard : Sending
  pub schedule : IsScheduleHeard air v rank (record { plan = plan; gap = 0 }) heard
  pub now : frame_of_sending s.profile heard ≡ frame
