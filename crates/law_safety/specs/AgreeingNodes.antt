-- How far two nodes of one round are apart in true time.
use Rattle.std.specs.Prelude.{◌≡◌, ℕ, ◌+◌, ◌<◌, ◌≤◌, List, true, false, Some}
use Rattle.lwb_base.specs.Profile.{is_one}
use Rattle.time_reference.specs.Budgets.{budget_of}
use Rattle.time_reference.specs.Zeros.{opening_offset, closing_offset}
use Rattle.node_core.specs.declared.stage.Stage.{Stage}
use Rattle.node_core.specs.declared.stage.Stage.TheVariants.{Idle, Scanning, AwaitFrame, AwaitSlot, InWindow}
use Rattle.node_core.specs.Nodes.{Node}
use Rattle.scenario_text.specs.ScenarioParts.{ScenarioParts}
use Rattle.scenario_text.specs.FloodParts.{knows}
use Rattle.air_log.specs.declared.entry.Entry.{Entry}
use Rattle.air_log.specs.Devices.{PowerOn}
use Rattle.air_log.specs.Lawful.{Lawful}
use Rattle.air_log.specs.Trails.{run_end}
use Rattle.law_trails.specs.TrailLinks.{device_in}
use Rattle.law_safety.specs.Invariant.{IsDrivenWell, IsObedientRun}
use Rattle.law_safety.specs.SetAlarms.{rank_at, tick_by}
use Rattle.law_safety.specs.TunedNodes.{Either, is_joining}

-- m and n differ by less than d
pub record DifferByLess (m n d : ℕ) : Type 0 where
  pub below : m < n + d
  pub above : n < m + d

-- a node goes by its zero in slot j of its round: it awaits that slot or an earlier one, or is in the window of one. A window
-- that a received schedule opened has its zero from that schedule, so its node goes by it from the next slot on
abbrev pub GoesByZero : ℕ → Node → Stage → Type 0
GoesByZero j n Idle = ⊥
GoesByZero j n Scanning = ⊥
GoesByZero j n AwaitFrame = ⊥
GoesByZero j n (AwaitSlot i) = i ≤ j
GoesByZero j n (InWindow i w) = Either (is_joining n) (i < j) (i ≤ j)

module _ (s : ScenarioParts) (clocks : ℕ → ℕ → ℕ) (air : List Entry) where
  -- by its trail node v is in the round of this rank and frame before tick t, and goes by its zero in slot j of it
  pub record IsInRound (v t rank frame j : ℕ) : Type 0 where
    pub known : knows s.nodes v ≡ true
    pub in_run : t ≤ run_end s
    pub node : Node
    pub on : (device_in s clocks air v t).power ≡ PowerOn node
    pub of_rank : rank_at node ≡ rank
    pub of_frame : node.frame ≡ frame
    pub goes : GoesByZero j node node.stage
    pub slot : j ≤ (budget_of s.profile).last

  -- any two nodes of a round come to each point of a slot, from its opening to its closing, less than d ticks apart, each by
  -- its own clock and zero
  abbrev pub NodesAgree : ℕ → Type 0
  NodesAgree d =
      (v w t u rank frame j q : ℕ) (first : IsInRound v t rank frame j) (second : IsInRound w u rank frame j)
      → opening_offset s.profile j ≤ q → q ≤ closing_offset s.profile j
      → DifferByLess (tick_by s clocks v first.node q) (tick_by s clocks w second.node q) d

  -- before tick t node v awaits slot j of this round, and its alarm, by which it opens its window of it, is at this tick
  pub record OpensAt (v t rank frame j tick : ℕ) : Type 0 where
    pub known : knows s.nodes v ≡ true
    pub in_run : t ≤ run_end s
    pub node : Node
    pub on : (device_in s clocks air v t).power ≡ PowerOn node
    pub of_rank : rank_at node ≡ rank
    pub of_frame : node.frame ≡ frame
    pub awaits : node.stage ≡ AwaitSlot j
    pub alarm : (device_in s clocks air v t).alarm ≡ Some tick

  -- any two nodes open their windows of one slot less than d ticks apart, also where one opens late
  abbrev pub OpeningsAgree : ℕ → Type 0
  OpeningsAgree d =
      (v w t u rank frame j x y : ℕ) → OpensAt v t rank frame j x → OpensAt w u rank frame j y → DifferByLess x y d

  -- both
  pub record AgreeWithin (d : ℕ) : Type 0 where
    pub points : NodesAgree d
    pub openings : OpeningsAgree d

-- the nodes of a round agree within the budget of the profile for two zeros, in every protocol-obedient log
abbrev pub HeedfulNodesAgree : Type 0
HeedfulNodesAgree =
    (s : ScenarioParts) (clocks : ℕ → ℕ → ℕ) (air : List Entry) → IsObedientRun s clocks air
    → AgreeWithin s clocks air (budget_of s.profile).zeros

-- and in every valid log; in numbers, by the profile
abbrev pub LawfulNodesAgree : Type 0
LawfulNodesAgree =
    (s : ScenarioParts) (clocks : ℕ → ℕ → ℕ) (air : List Entry) → IsDrivenWell s clocks → Lawful s clocks air
    → AgreeWithin s clocks air (budget_of s.profile).zeros

abbrev pub AgreeInProfileOne : Type 0
AgreeInProfileOne =
    (s : ScenarioParts) (clocks : ℕ → ℕ → ℕ) (air : List Entry) → IsDrivenWell s clocks → Lawful s clocks air
    → is_one s.profile ≡ true → AgreeWithin s clocks air 44960

abbrev pub AgreeInProfileTwo : Type 0
AgreeInProfileTwo =
    (s : ScenarioParts) (clocks : ℕ → ℕ → ℕ) (air : List Entry) → IsDrivenWell s clocks → Lawful s clocks air
    → is_one s.profile ≡ false → AgreeWithin s clocks air 58300
