-- Two nodes of one round come to its points near each other in true time, each by a zero that is good for the round's host.
use Rattle.std.proofs.Common.{◌≡◌, ℕ, ◌+◌, ◌*◌, ◌/◌, ◌<◌, ◌≤◌, ◌⊎◌, inl, inr, List, Bool, true, false, Some, length, ◌∙◌, ap, subst, arith, if◌then◌else◌}
use Rattle.std.specs.Prelude.{slice_index}
use Rattle.std.proofs.Math.Nat.{mul-le-mul_right}
use Rattle.lwb_base.specs.Profile.{Numbers}
use Rattle.tick_clock.specs.Clocks.{Near}
use Rattle.time_reference.specs.Budgets.{Budget, budget_of, budget_one, budget_two}
use Rattle.time_reference.specs.Zeros.{opening_offset, closing_offset, tick_at_offset}
use Rattle.time_reference.proofs.BudgetRoom.{window_order}
use Rattle.time_reference.proofs.Points.{good_later}
use Rattle.time_reference.proofs.Rounds.{spread}
use Rattle.bus_rules.specs.Plans.{last_slot}
use Rattle.node_core.specs.declared.stage.Stage.{Stage}
use Rattle.node_core.specs.declared.stage.Stage.TheVariants.{Idle, Scanning, AwaitFrame, AwaitSlot, InWindow}
use Rattle.node_core.specs.Nodes.{Node}
use Rattle.scenario_text.specs.ScenarioParts.{ScenarioParts}
use Rattle.scenario_text.specs.FloodParts.{knows}
use Rattle.air_log.specs.declared.entry.Entry.{Entry}
use Rattle.air_log.specs.Devices.{Device, Power, PowerOn}
use Rattle.air_log.specs.Trails.{run_end}
use Rattle.law_trails.proofs.HeedfulLogs.{lawful_is_heedful}
use Rattle.law_trails.specs.TrailLinks.{device_in}
use Rattle.law_safety.specs.AgreeingNodes.{AgreeInProfileOne, AgreeInProfileTwo, AgreeWithin, GoesByZero, HeedfulNodesAgree, IsInRound}
use Rattle.law_safety.specs.AgreeingNodes.{LawfulNodesAgree, NodesAgree, OpeningsAgree, OpensAt}
use Rattle.law_safety.specs.Invariant.{IsObedientRun}
use Rattle.law_safety.specs.KnownPlans.{PlanAt}
use Rattle.law_safety.specs.NodesInOrder.{InOrderBy, IsOn}
use Rattle.law_safety.specs.RoundZeros.{GoodFor, RefFor}
use Rattle.law_safety.specs.SetAlarms.{AlarmFor, OpensLate, rank_at, tick_by}
use Rattle.law_safety.specs.TunedNodes.{Either, IsMember, IsTunedAt, is_joining, is_last_window}
use Rattle.law_safety.proofs.InvariantHolds.{holds_throughout}
use Rattle.law_safety.proofs.RunFacts.{host_clock, run_fits}

module _ (s : ScenarioParts) (clocks : ℕ → ℕ → ℕ) (air : List Entry) (run : IsObedientRun s clocks air) where
  abbrev p : Numbers
  p = s.profile

  abbrev b : Budget
  b = budget_of s.profile

  abbrev host_of : ℕ → ℕ → ℕ
  host_of rank = clocks (slice_index s.hosts rank)

  -- ---- what is known of a node that is on

  on_before : (v t : ℕ) (n : Node) → knows s.nodes v ≡ true → t ≤ run_end s → (device_in s clocks air v t).power ≡ PowerOn n
      → IsOn s clocks air v t t (device_in s clocks air v t) n
  on_before v t n known within power =
      let d : Device = device_in s clocks air v t in
      subst (λ (x : Power). InOrderBy s clocks air v t t d x) power ((holds_throughout s clocks air run t within).nodes v known).by_power

  -- ---- its zero is good where it goes by it

  joined_good : (v j i : ℕ) (n : Node) → i < j → RefFor s clocks (rank_at n) v n.zero n.frame n.frame i
      → GoodFor s clocks (rank_at n) v n.zero n.frame (opening_offset p j)
  joined_good v j i n less ref =
      let order = window_order p b (run_fits s run.driven.sound) in
      let k = mul-le-mul_right p.slot less in
      record { c = n.frame; j = i; ref = ref; after = inr (omega arith) }

  member_good : (v j i last : ℕ) (closes : Bool) (n : Node) → i ≤ j → IsMember s clocks v n i last closes
      → GoodFor s clocks (rank_at n) v n.zero n.frame (opening_offset p j)
  member_good v j i last closes n order is =
      good_later p b (run_fits s run.driven.sound) (host_of (rank_at n)) (clocks v) n.zero n.frame (opening_offset p i) (opening_offset p j)
      (mul-le-mul_right p.slot order) is.good

  window_good : (v j i last : ℕ) (closes : Bool) (n : Node) (joins : Bool) → Either joins (i < j) (i ≤ j)
      → Either joins (RefFor s clocks (rank_at n) v n.zero n.frame n.frame i) (IsMember s clocks v n i last closes)
      → GoodFor s clocks (rank_at n) v n.zero n.frame (opening_offset p j)
  window_good v j i last closes n true less ref = joined_good v j i n less ref
  window_good v j i last closes n false order is = member_good v j i last closes n order is

  good_at : (v j : ℕ) (n : Node) (stage : Stage) → GoesByZero j n stage → IsTunedAt s clocks v n stage
      → GoodFor s clocks (rank_at n) v n.zero n.frame (opening_offset p j)
  good_at v j n Idle goes is = absurd goes
  good_at v j n Scanning goes is = absurd goes
  good_at v j n AwaitFrame goes is = absurd goes
  good_at v j n (AwaitSlot i) goes is = member_good v j i (last_slot n.core.plan) false n goes is
  good_at v j n (InWindow i w) goes is = window_good v j i w.last (is_last_window i w) n (is_joining n) goes is

  -- ---- two good zeros of one round

  near_by : (rank frame v w z y q r : ℕ) → rank < length s.hosts → knows s.nodes v ≡ true → knows s.nodes w ≡ true
      → GoodFor s clocks rank v z frame q → GoodFor s clocks rank w y frame r → q ≤ closing_offset p b.last → r ≤ closing_offset p b.last
      → Near (tick_at_offset (clocks v) z q + r) (tick_at_offset (clocks w) y r + q) (2 * (b.age / 50000) + 114)
  near_by rank frame v w z y q r hosted known also good other low also_low =
      spread p b (run_fits s run.driven.sound) (host_of rank) (clocks v) (clocks w) z y frame q r (host_clock s clocks run.driven rank hosted)
      (run.driven.drift v known) (run.driven.drift w also) good other low also_low

  named : (rank frame v q : ℕ) (n : Node) → rank_at n ≡ rank → n.frame ≡ frame → GoodFor s clocks (rank_at n) v n.zero n.frame q
      → GoodFor s clocks rank v n.zero frame q
  named rank frame v q n of_rank of_frame good =
      subst (λ (r : ℕ). GoodFor s clocks r v n.zero frame q) of_rank
      (subst (λ (f : ℕ). GoodFor s clocks (rank_at n) v n.zero f q) of_frame good)

  good_later_for : (rank frame v z q r : ℕ) → q ≤ r → GoodFor s clocks rank v z frame q → GoodFor s clocks rank v z frame r
  good_later_for rank frame v z q r order good =
      good_later p b (run_fits s run.driven.sound) (host_of rank) (clocks v) z frame q r order good

  low_in : (j q : ℕ) → j ≤ b.last → q ≤ closing_offset p j → q ≤ closing_offset p b.last
  low_in j q slot below = let k = mul-le-mul_right p.slot slot in omega arith

  -- ---- in a slot

  in_round : (v t rank frame j : ℕ) (is : IsInRound s clocks air v t rank frame j)
      → (rank < length s.hosts) × GoodFor s clocks rank v is.node.zero frame (opening_offset p j)
  in_round v t rank frame j is =
      let on = on_before v t is.node is.known is.in_run is.on in (
        subst (λ (r : ℕ). r < length s.hosts) is.of_rank on.tune.rank,
        named rank frame v (opening_offset p j) is.node is.of_rank is.of_frame (good_at v j is.node is.node.stage is.goes on.tune.at),
      )

  pub points_agree : NodesAgree s clocks air b.zeros
  points_agree v w t u rank frame j q first second after before =
      let one = in_round v t rank frame j first in
      let other = in_round w u rank frame j second in
      let low = low_in j q first.slot before in
      let order = window_order p b (run_fits s run.driven.sound) in
      let near = near_by rank frame v w first.node.zero second.node.zero q q one.0 first.known second.known
      (good_later_for rank frame v first.node.zero (opening_offset p j) q after one.1)
      (good_later_for rank frame w second.node.zero (opening_offset p j) q after other.1) low low in
      record { below = omega (arith, near, order.0); above = omega (arith, near, order.0) }

  -- ---- where a slot opens

  -- by its zero, or late by an older one
  abbrev OpensBy : ℕ → Node → ℕ → ℕ → Type 0
  OpensBy v n j tick = (tick ≡ tick_by s clocks v n (opening_offset p j)) ⊎ OpensLate s clocks v n j tick

  record Opens (v rank frame j tick : ℕ) : Type 0 where
    hosted : rank < length s.hosts
    slot : j ≤ b.last
    node : Node
    good : GoodFor s clocks rank v node.zero frame (opening_offset p j)
    of_rank : rank_at node ≡ rank
    of_frame : node.frame ≡ frame
    by : OpensBy v node j tick

  opens : (v t rank frame j tick : ℕ) → OpensAt s clocks air v t rank frame j tick → Opens v rank frame j tick
  opens v t rank frame j tick is =
      let n : Node = is.node in
      let d : Device = device_in s clocks air v t in
      let on = on_before v t n is.known is.in_run is.on in
      let member : IsMember s clocks v n j (last_slot n.core.plan) false = subst (IsTunedAt s clocks v n) is.awaits on.tune.at in
      let round = subst (PlanAt s clocks air v t n) is.awaits on.plan.at in
      let short = round.fits.short in
      let most = member.slot in
      let other : d.alarm ≡ Some on.alarm.alarm = on.alarm.set in
      let told : d.alarm ≡ Some tick = is.alarm in
      let same : on.alarm.alarm ≡ tick = cc in
      record {
        hosted = subst (λ (r : ℕ). r < length s.hosts) is.of_rank on.tune.rank;
        slot = omega (arith, short, most);
        node = n;
        good = named rank frame v (opening_offset p j) n is.of_rank is.of_frame member.good;
        of_rank = is.of_rank;
        of_frame = is.of_frame;
        by = subst (λ (a : ℕ). OpensBy v n j a) same (subst (AlarmFor s clocks v n on.alarm.alarm) is.awaits on.alarm.at);
      }

  at_earliest : (v j tick : ℕ) (n : Node) → OpensBy v n j tick → tick_by s clocks v n (opening_offset p j) ≤ tick
  at_earliest v j tick n (inl is) = omega (arith, is)
  at_earliest v j tick n (inr late) = let no_less = late.late in no_less

  -- one that opens late does so as the window of the slot before closes, which is before this slot by any good zero but for
  -- what two zeros may differ by
  not_later : (v w rank frame j x y : ℕ) → knows s.nodes v ≡ true → knows s.nodes w ≡ true
      → Opens v rank frame j x → Opens w rank frame j y → x < y + b.zeros
  not_later v w rank frame j x y known also a other =
      let order = window_order p b (run_fits s run.driven.sound) in
      let least = at_earliest w j y other.node other.by in
      let within = low_in j (opening_offset p j) a.slot (omega arith) in
      elim a.by [
        | inl is ↦ (let near = near_by rank frame v w a.node.zero other.node.zero (opening_offset p j) (opening_offset p j) a.hosted known also
            a.good other.good within within in
            omega (arith, is, near, least, order.0))
        | inr late ↦ (let i : ℕ = late.before in
            let next : j * p.slot ≡ i * p.slot + p.slot = ap (λ (k : ℕ). k * p.slot) late.next ∙ omega arith in
            let good = named rank frame v (closing_offset p i) (record a.node { zero = late.zero }) a.of_rank a.of_frame late.good in
            let near = near_by rank frame v w late.zero other.node.zero (closing_offset p i) (opening_offset p j) a.hosted known also
            good other.good (omega (arith, next, within, order)) within in
            omega (arith, late.at, near, least, next, order))
      ]

  pub openings_agree : OpeningsAgree s clocks air b.zeros
  openings_agree v w t u rank frame j x y first second =
      let a = opens v t rank frame j x first in
      let other = opens w u rank frame j y second in
      record {
        below = not_later v w rank frame j x y first.known second.known a other;
        above = not_later w v rank frame j y x second.known first.known other a;
      }

  pub agree : AgreeWithin s clocks air b.zeros
  agree = record { points = points_agree; openings = openings_agree }

pub heedful_nodes_agree : HeedfulNodesAgree
heedful_nodes_agree = agree

pub lawful_nodes_agree : LawfulNodesAgree
lawful_nodes_agree s clocks air driven lawful =
    agree s clocks air (record { driven = driven; heedful = lawful_is_heedful s clocks air lawful })

-- ---- in numbers

pub agree_in_profile_one : AgreeInProfileOne
agree_in_profile_one s clocks air driven lawful is =
    subst (λ (d : ℕ). AgreeWithin s clocks air d) (ap (λ (one : Bool). (if one then budget_one else budget_two).zeros) is)
    (lawful_nodes_agree s clocks air driven lawful)

pub agree_in_profile_two : AgreeInProfileTwo
agree_in_profile_two s clocks air driven lawful is =
    subst (λ (d : ℕ). AgreeWithin s clocks air d) (ap (λ (one : Bool). (if one then budget_one else budget_two).zeros) is)
    (lawful_nodes_agree s clocks air driven lawful)
