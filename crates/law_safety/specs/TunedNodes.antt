-- What the tune and the zero of a node are worth, by its place.
use Rattle.std.specs.Prelude.{◌≡◌, ⊤, ℕ, ◌+◌, ◌<◌, ◌≤◌, Bool, true, false, not, nat_lt, length}
use Rattle.lwb_base.specs.declared.limits.TheConstants.{GREATEST_GAP}
use Rattle.time_reference.specs.Reference.{host_zero}
use Rattle.time_reference.specs.Zeros.{opening_offset}
use Rattle.bus_rules.specs.declared.tune.Tune.{Tune}
use Rattle.bus_rules.specs.declared.tune.Tune.TheVariants.{Scan, Hold, Host}
use Rattle.bus_rules.specs.Plans.{last_slot}
use Rattle.bus_rules.specs.Cores.{is_fresh}
use Rattle.node_core.specs.declared.stage.Stage.{Stage}
use Rattle.node_core.specs.declared.stage.Stage.TheVariants.{Idle, Scanning, AwaitFrame, AwaitSlot, InWindow}
use Rattle.node_core.specs.Windows.{Window}
use Rattle.node_core.specs.Nodes.{Node}
use Rattle.scenario_text.specs.ScenarioParts.{ScenarioParts}
use Rattle.law_safety.specs.SentPlans.{IsHostOf}
use Rattle.law_safety.specs.RoundZeros.{RefFor, GoodFor}
use Rattle.law_safety.specs.SetAlarms.{rank_at}

-- the one or the other, by a test
abbrev pub Either : Bool → Type 0 → Type 0 → Type 0
Either true P Q = P
Either false P Q = Q

-- a window that a received schedule opened: its node scans, and is not fresh
abbrev pub by_hearing : Node → Tune → Bool
by_hearing n (Scan r waited) = not (is_fresh n.core)
by_hearing n (Hold r due) = false
by_hearing n (Host r due) = false

abbrev pub is_joining : Node → Bool
is_joining n = by_hearing n n.core.tune

-- the window of the last slot of a round
abbrev pub is_last_window : ℕ → Window → Bool
is_last_window j w = not (nat_lt j w.last)

module _ (s : ScenarioParts) (clocks : ℕ → ℕ → ℕ) (v : ℕ) where
  -- the round of the node's frame is its own: a member's, or a fresh scanning node's from slot 1 on. While a host closes it, its
  -- tune is that of its next one, which comes within the greatest gap
  abbrev pub IsRoundOf : Node → ℕ → Bool → Tune → Type 0
  IsRoundOf n j closes (Scan r waited) = (is_fresh n.core ≡ true) × (1 ≤ j)
  IsRoundOf n j closes (Hold r due) = due ≡ n.frame
  IsRoundOf n j closes (Host r due) =
      IsHostOf s r v × (n.zero ≡ host_zero s.profile n.frame) × Either closes ((n.frame < due) × (due ≤ n.frame + GREATEST_GAP)) (due ≡ n.frame)

  -- in slot j of this round, from which on the zero is good
  pub record IsMember (n : Node) (j last : ℕ) (closes : Bool) : Type 0 where
    pub slot : j ≤ last
    pub good : GoodFor s clocks (rank_at n) v n.zero n.frame (opening_offset s.profile j)
    pub round : IsRoundOf n j closes n.core.tune

  -- between rounds
  abbrev pub Waits : Node → Tune → Type 0
  Waits n (Scan r waited) = ⊤
  Waits n (Hold r due) = n.frame < due → GoodFor s clocks r v n.zero due 0
  Waits n (Host r due) = IsHostOf s r v × (n.zero ≡ host_zero s.profile due) × (n.frame < due)

  -- while it scans it is not fresh
  abbrev pub Scans : Node → Tune → Type 0
  Scans n (Scan r waited) = is_fresh n.core ≡ false
  Scans n (Hold r due) = ⊥
  Scans n (Host r due) = ⊥

  abbrev pub IsTunedAt : Node → Stage → Type 0
  IsTunedAt n Idle = ⊥
  IsTunedAt n Scanning = Scans n n.core.tune
  IsTunedAt n AwaitFrame = Waits n n.core.tune
  IsTunedAt n (AwaitSlot j) = IsMember n j (last_slot n.core.plan) false
  IsTunedAt n (InWindow j w) =
      Either (is_joining n) (RefFor s clocks (rank_at n) v n.zero n.frame n.frame j) (IsMember n j w.last (is_last_window j w))

  pub record HasTune (n : Node) : Type 0 where
    pub rank : rank_at n < length s.hosts
    pub at : IsTunedAt n n.stage
