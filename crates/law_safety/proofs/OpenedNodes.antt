-- The node that a window's opening leaves: its frame, its alarm, its radio, its tune and its flood.
use Rattle.std.proofs.Common.{◌≡◌, ℕ, ◌+◌, ◌<◌, ◌≤◌, inl, inr, List, Bool, true, false, nat_lt, Option, Some, None, length, refl, sym, ◌∙◌, ap, subst, arith}
use Rattle.std.proofs.Common.{eq-eqb, lt-ltb, le-ltb, true≢false}
use Rattle.std.proofs.lemmas.Bool.{and_from, not_from_true, not_from_false}
use Rattle.time_reference.specs.Reference.{host_zero}
use Rattle.time_reference.specs.Zeros.{opening_offset}
use Rattle.bus_rules.specs.declared.part.Part.{Part}
use Rattle.bus_rules.specs.declared.tune.Tune.{Tune}
use Rattle.bus_rules.specs.declared.tune.Tune.TheVariants.{Scan, Hold, Host}
use Rattle.bus_rules.specs.Plans.{last_slot}
use Rattle.bus_rules.specs.Tuning.{rank_of, hosts, is_scan, hosts_in}
use Rattle.bus_rules.specs.HostPlans.{HostPlan, host_plan}
use Rattle.bus_rules.specs.Cores.{Setup, is_fresh}
use Rattle.bus_rules.specs.Slots.{Message, Opened, hosts_now, part_of, opened_slot}
use Rattle.node_core.specs.declared.stage.Stage.TheVariants.{InWindow}
use Rattle.node_core.specs.Windows.{Window}
use Rattle.node_core.specs.Nodes.{Node, closes_at}
use Rattle.node_core.specs.Rows.{flood_for}
use Rattle.scenario_text.specs.ScenarioParts.{ScenarioParts}
use Rattle.air_log.specs.declared.entry.Entry.{Entry}
use Rattle.air_log.specs.Devices.{Device}
use Rattle.scenario_text.specs.Setups.{setup_of}
use Rattle.law_trails.specs.CoreRanges.{IsSetup}
use Rattle.law_trails.specs.NodeRanges.{IsNodeInRange}
use Rattle.law_trails.specs.RowEffects.{Leaves, when, said}
use Rattle.law_trails.proofs.CoresInRange.{host_plan_of}
use Rattle.bus_rules.proofs.Ranks.{host_now}
use Rattle.bus_rules.proofs.Ranks.{host_now}
use Rattle.law_trails.proofs.TrailsInRange.{set}
use Rattle.law_safety.specs.SentPlans.{IsHostOf}
use Rattle.law_safety.specs.CountedFrames.{InFrame}
use Rattle.law_safety.specs.SetAlarms.{rank_at}
use Rattle.law_safety.specs.TunedNodes.{Either, by_hearing, is_joining, is_last_window, IsRoundOf, IsMember, HasTune}
use Rattle.law_safety.specs.RoundZeros.{RefFor, GoodFor}
use Rattle.law_safety.specs.Rows.{AtTick}
use Rattle.law_safety.proofs.RunFacts.{known_id}
use Rattle.law_safety.proofs.OpeningRoles.{Role, role_of, SameStanding, same_standing}
use Rattle.law_safety.proofs.AwaitedSlots.{Awaits, frame_now, has_begun}

-- a node whose window was not opened by a received schedule
no_joining : (n : Node) (t : Tune) → (is_scan t ≡ true → is_fresh n.core ≡ true) → by_hearing n t ≡ false
no_joining n (Scan r w) fresh = not_from_true (is_fresh n.core) (fresh refl)
no_joining n (Hold r due) fresh = refl
no_joining n (Host r due) fresh = refl

-- the flood of a window has not sent
pub flood_unsent : (s : Setup) (part : Part) (j : ℕ) (x : Option Message) → (flood_for s part j x).sent ≡ 0
flood_unsent s part j None = refl
flood_unsent s part j (Some m) = refl

pub flood_limit : (s : Setup) (part : Part) (j : ℕ) (x : Option Message) → (flood_for s part j x).limit ≡ s.sends
flood_limit s part j None = refl
flood_limit s part j (Some m) = refl

module _ (s : ScenarioParts) (clocks : ℕ → ℕ → ℕ) (air : List Entry) (v t : ℕ) (at : AtTick s clocks air v t) where
  abbrev S : Setup
  S = setup_of s v

  pub is_set : IsSetup (setup_of s v)
  is_set = let id = known_id s at.run.driven.sound v at.known in set s at.run.driven.sound v id.0 id.1

  module _ (d : Device) (n : Node) (j : ℕ) (is : Awaits s clocks air v t d n j) where
    abbrev pub left : Opened
    left = opened_slot (setup_of s v) n.frame (part_of n.core.plan j) n.core

    abbrev pub window : Window
    window = record {
      part = part_of n.core.plan j;
      last = last_slot n.core.plan;
      flood = flood_for (setup_of s v) (part_of n.core.plan j) j left.message;
      reference = None;
    }

    abbrev pub after : Node
    after = record n { core = left.core; stage = InWindow j window }

    -- a device that the opening leaves
    abbrev pub IsLeft : Device → Type 0
    IsLeft e =
        Leaves (record d { alarm = None }) after (Some (rank_of n.core.tune)) (Some (when (clocks v) (setup_of s v) t (closes_at s.profile n.zero j)))
        (said (clocks v) (setup_of s v) t n.zero j d.ordered left.message) e

    -- what a host would plan
    abbrev pub next : HostPlan
    next = host_plan s.profile v n.core.boot (rank_at n) n.frame n.core.kept n.core.table n.core.streams

    pub role : Role (setup_of s v) n.frame n.core j left
    role = role_of S n.frame n.core j

    pub standing : SameStanding n.core left.core
    standing = same_standing S n.frame n.core j left role

    -- a host's round
    pub record HostsRound : Type 0 where
      pub host : IsHostOf s (rank_at n) v
      pub zero : n.zero ≡ host_zero s.profile n.frame
      pub tune : n.core.tune ≡ Host (rank_at n) n.frame
      pub now : hosts_now n.frame n.core ≡ true

    hosts_by : (tune : Tune) → n.core.tune ≡ tune → hosts tune ≡ true → IsRoundOf s clocks v n j false tune → HostsRound
    hosts_by (Scan r w) same host round = absurd cc
    hosts_by (Hold r due) same host round = absurd cc
    hosts_by (Host r due) same host round =
        let rank : r ≡ rank_at n = sym (ap rank_of same) in
        let tune : n.core.tune ≡ Host (rank_at n) n.frame = same ∙ ap (λ (x : ℕ). Host x due) rank ∙ ap (λ (x : ℕ). Host (rank_at n) x) round.2 in
        record {
          host = subst (λ (x : ℕ). IsHostOf s x v) rank round.0;
          zero = round.1;
          tune = tune;
          now = ap (λ (x : Tune). hosts_in (rank_of x) n.frame x) tune ∙ and_from _ _ (eq-eqb (rank_at n) (rank_at n) refl) (eq-eqb n.frame n.frame refl);
        }

    pub hosts_round : hosts n.core.tune ≡ true → HostsRound
    hosts_round host = hosts_by n.core.tune refl host is.member.round

    -- ---- the frame

    pub frame_clause : InFrame s clocks v t after
    frame_clause = record { at = inl (frame_now s clocks air v t at d n j is); began = has_begun s clocks air v t at d n j is }

    -- ---- the tune

    scans_fresh : (tune : Tune) → IsRoundOf s clocks v n j false tune → is_scan tune ≡ true → is_fresh n.core ≡ true
    scans_fresh (Scan r w) round scan = round.0
    scans_fresh (Hold r due) round scan = absurd cc
    scans_fresh (Host r due) round scan = absurd cc

    after_fresh : Role S n.frame n.core j left → is_scan left.core.tune ≡ true → is_fresh left.core ≡ true
    after_fresh (inl keeps) scan = standing.fresh ∙ scans_fresh n.core.tune is.member.round (sym (ap is_scan keeps.tune) ∙ scan)
    after_fresh (inr plans) scan = absurd (true≢false (sym scan ∙ ap (λ (o : Opened). is_scan o.core.tune) plans.is))

    pub none_joins : is_joining after ≡ false
    none_joins = no_joining after left.core.tune (after_fresh role)

    -- a role that stays: the round goes on, or its host has more slots to come
    round_kept : (tune : Tune) (closes : Bool) → (hosts tune ≡ true → closes ≡ false) → IsRoundOf s clocks v n j false tune
        → IsRoundOf s clocks v after j closes tune
    round_kept (Scan r w) closes open_ round = (standing.fresh ∙ round.0, round.1)
    round_kept (Hold r due) closes open_ round = round
    round_kept (Host r due) closes open_ round =
        (round.0, round.1, subst (λ (c : Bool). Either c ((n.frame < due) × (due ≤ n.frame + 4)) (due ≡ n.frame)) (sym (open_ refl)) round.2)

    round_by : IsNodeInRange (setup_of s v) n → Role S n.frame n.core j left → IsRoundOf s clocks v after j (is_last_window j window) left.core.tune
    round_by ranged (inl keeps) =
        subst (IsRoundOf s clocks v after j (is_last_window j window)) (sym keeps.tune)
        (round_kept n.core.tune (is_last_window j window)
        (λ host. not_from_true (nat_lt j (last_slot n.core.plan)) (lt-ltb j (last_slot n.core.plan) (keeps.more (hosts_round host).now))) is.member.round)
    round_by ranged (inr plans) =
        let h = hosts_round (host_now n.frame n.core plans.now) in
        let gap = (host_plan_of S is_set n.frame n.core ranged.core).gap in
        let some = gap.0 in
        let few = gap.1 in
        let behind = plans.last in
        let closes : is_last_window j window ≡ true =
        not_from_false (nat_lt j (last_slot n.core.plan)) (le-ltb j (last_slot n.core.plan) behind) in
        subst (λ (x : Opened). IsRoundOf s clocks v after j (is_last_window j window) x.core.tune) (sym plans.is) (
          h.host,
          h.zero,
          subst (λ (c : Bool). Either c ((n.frame < n.frame + next.gap) × (n.frame + next.gap ≤ n.frame + 4)) (n.frame + next.gap ≡ n.frame)) (sym closes)
              (omega (arith, some), omega (arith, few)),
        )

    pub tune_clause : IsNodeInRange (setup_of s v) n → HasTune s clocks v after
    tune_clause ranged = record {
      rank = subst (λ (r : ℕ). r < length s.hosts) (sym standing.rank) is.rank;
      at = subst (λ (joins : Bool). Either joins (RefFor s clocks (rank_at after) v after.zero after.frame after.frame j)
          (IsMember s clocks v after j window.last (is_last_window j window))) (sym none_joins) (record {
            slot = is.member.slot;
            good = subst (λ (r : ℕ). GoodFor s clocks r v n.zero n.frame (opening_offset s.profile j)) (sym standing.rank) is.member.good;
            round = round_by ranged role;
          });
    }
