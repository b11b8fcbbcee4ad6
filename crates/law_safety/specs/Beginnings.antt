-- When a node may begin a flood, by what it says.
use Rattle.std.specs.Prelude.{◌≡◌, ℕ, suc, ◌≤◌, ◌⊎◌, List, Bool, true, Some, None, slice_index}
use Rattle.std.specs.declared.option.Option.{Option}
use Rattle.lwb_base.specs.Messages.{Plan, Schedule, node_of, stream_of}
use Rattle.lwb_base.specs.declared.limits.TheConstants.{GREATEST_GAP}
use Rattle.time_reference.specs.Budgets.{budget_of}
use Rattle.time_reference.specs.Reference.{host_zero}
use Rattle.time_reference.specs.Zeros.{opening_offset}
use Rattle.bus_rules.specs.declared.part.Part.TheVariants.{Data as DataSlot, Contention, Closing}
use Rattle.bus_rules.specs.Slots.{Data, Message, ScheduleOf, DataOf, RequestOf, part_of}
use Rattle.lwb_member.specs.Said.{message_of}
use Rattle.scenario_text.specs.ScenarioParts.{ScenarioParts}
use Rattle.air_log.specs.declared.entry.Entry.{Entry}
use Rattle.air_log.specs.Trails.{frame_start}
use Rattle.law_safety.specs.SentPlans.{IsHostOf, FitsRound, IsPlanned, HasHeardPlan, HasHeardOpening}
use Rattle.law_safety.specs.RoundZeros.{RefFor, GoodFor}

-- node v begins a flood on a rank in slot j of frame f, its zero being z
module _ (s : ScenarioParts) (clocks : ℕ → ℕ → ℕ) (air : List Entry) (v rank f z j : ℕ) where
  -- a host closes the round that was planned
  pub record Closes (gap : ℕ) : Type 0 where
    pub plan : Plan
    pub planned : IsPlanned s air rank f plan
    pub part : part_of plan j ≡ Closing
    pub some : 1 ≤ gap
    pub few : gap ≤ GREATEST_GAP

  -- a schedule is the host's: the opening in slot 0, or the closing
  pub record SaysSchedule (y : Schedule) : Type 0 where
    pub host : IsHostOf s rank v
    pub zero : z ≡ host_zero s.profile f
    pub fits : FitsRound s rank y.plan
    pub part : ((y.gap ≡ 0) × (j ≡ 0)) ⊎ Closes y.gap

  -- data is sent in a slot of the stream's own by the plan, by the host or by who received the plan
  pub record SaysData (hosting : Bool) (d : Data) : Type 0 where
    pub plan : Plan
    pub planned : IsPlanned s air rank f plan
    pub own : d.node ≡ v
    pub owner : ℕ
    pub part : part_of plan j ≡ DataSlot owner
    pub node : node_of owner ≡ v
    pub stream : stream_of owner ≡ d.stream
    pub word : (hosting ≡ true) ⊎ HasHeardPlan s air v rank f plan (suc (frame_start s f))

  -- a request is sent in a contention slot, by who received the opening
  pub record SaysRequest : Type 0 where
    pub plan : Plan
    pub place : ℕ
    pub planned : IsPlanned s air rank f plan
    pub part : part_of plan j ≡ Contention place
    pub ref : RefFor s clocks rank v z f f 0
    pub word : HasHeardOpening s air v rank f plan

  abbrev pub MaySay : Bool → Option Message → Type 0
  MaySay hosting None = ⊥
  MaySay hosting (Some (ScheduleOf y)) = SaysSchedule y
  MaySay hosting (Some (DataOf d)) = SaysData hosting d
  MaySay hosting (Some (RequestOf a)) = SaysRequest

  pub record MayBegin (hosting : Bool) (packet : List ℕ) : Type 0 where
    pub slot : slice_index packet 1 ≡ j
    pub first : slice_index packet 2 ≡ 0
    pub in_round : j ≤ (budget_of s.profile).last
    pub good : GoodFor s clocks rank v z f (opening_offset s.profile j)
    pub says : MaySay hosting (message_of packet)
