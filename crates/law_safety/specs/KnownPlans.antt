-- By which plan a node goes, and how it knows it. `told`: the script lines before this tick have been given.
use Rattle.std.specs.Prelude.{◌≡◌, ⊤, ℕ, ◌<◌, ◌≤◌, ◌⊎◌, List, true, false, Some}
use Rattle.lwb_base.specs.Messages.{Plan}
use Rattle.bus_rules.specs.declared.tune.Tune.{Tune}
use Rattle.bus_rules.specs.declared.tune.Tune.TheVariants.{Scan, Hold, Host}
use Rattle.bus_rules.specs.Plans.{opening as opening_of, last_slot}
use Rattle.bus_rules.specs.Tuning.{hosts}
use Rattle.bus_rules.specs.Cores.{is_fresh}
use Rattle.bus_rules.specs.Slots.{ScheduleOf, part_of}
use Rattle.lwb_member.specs.Said.{bytes_of}
use Rattle.node_core.specs.declared.stage.Stage.{Stage}
use Rattle.node_core.specs.declared.stage.Stage.TheVariants.{Idle, Scanning, AwaitFrame, AwaitSlot, InWindow}
use Rattle.node_core.specs.Windows.{Window}
use Rattle.node_core.specs.Nodes.{Node}
use Rattle.scenario_text.specs.ScenarioParts.{ScenarioParts}
use Rattle.air_log.specs.declared.entry.Entry.{Entry}
use Rattle.law_safety.specs.SentPlans.{FitsRound, IsPlanned, HasHeardPlan, HasHeardOpening}
use Rattle.law_safety.specs.RoundZeros.{RefFor}
use Rattle.law_safety.specs.SetAlarms.{rank_at}
use Rattle.law_safety.specs.TunedNodes.{Either, is_joining}

module _ (s : ScenarioParts) (clocks : ℕ → ℕ → ℕ) (air : List Entry) (v : ℕ) where
  -- the plan was sent for this frame, and whoever does not host received it
  pub record KnowsPlan (told : ℕ) (n : Node) (frame : ℕ) (plan : Plan) : Type 0 where
    pub planned : IsPlanned s air (rank_at n) frame plan
    pub heard : hosts n.core.tune ≡ false → HasHeardPlan s air v (rank_at n) frame plan told

  -- who is fresh received the opening of the round, and goes by its time
  pub record KnowsOpening (n : Node) (j : ℕ) (plan : Plan) : Type 0 where
    pub behind : 1 ≤ j
    pub guest : hosts n.core.tune ≡ false
    pub ref : RefFor s clocks (rank_at n) v n.zero n.frame n.frame 0
    pub heard : HasHeardOpening s air v (rank_at n) n.frame plan

  -- in slot j of the round of a plan. A host has not sent it before slot 0 is over
  pub record InRound (told : ℕ) (n : Node) (j : ℕ) (plan : Plan) : Type 0 where
    pub fits : FitsRound s (rank_at n) plan
    pub known : (hosts n.core.tune ≡ false) ⊎ (1 ≤ j) → KnowsPlan told n n.frame plan
    pub fresh : is_fresh n.core ≡ true → KnowsOpening n j plan

  -- the round of a window. While a host closes it, its core has the next plan; in slot 0 it opens with the plan
  pub record HasRound (told : ℕ) (n : Node) (j : ℕ) (w : Window) : Type 0 where
    pub plan : Plan
    pub round : InRound told n j plan
    pub last : w.last ≡ last_slot plan
    pub part : w.part ≡ part_of plan j
    pub own : (hosts n.core.tune ≡ false) ⊎ (j < w.last) → n.core.plan ≡ plan
    pub next : hosts n.core.tune ≡ true → FitsRound s (rank_at n) n.core.plan
    pub opens : hosts n.core.tune ≡ true → j ≡ 0 → w.flood.first ≡ Some (bytes_of (ScheduleOf (opening_of plan)) 0)

  -- between rounds: the plan of the next one
  abbrev pub PlanFor : ℕ → Node → Tune → Type 0
  PlanFor told n (Scan r waited) = ⊤
  PlanFor told n (Host r due) = FitsRound s r n.core.plan
  PlanFor told n (Hold r due) = n.frame < due → FitsRound s r n.core.plan × KnowsPlan told n due n.core.plan

  abbrev pub PlanAt : ℕ → Node → Stage → Type 0
  PlanAt told n Idle = ⊥
  PlanAt told n Scanning = ⊤
  PlanAt told n AwaitFrame = PlanFor told n n.core.tune
  PlanAt told n (AwaitSlot j) = InRound told n j n.core.plan
  PlanAt told n (InWindow j w) = Either (is_joining n) ⊤ (HasRound told n j w)

  pub record HasPlan (told : ℕ) (n : Node) : Type 0 where
    pub at : PlanAt told n n.stage
