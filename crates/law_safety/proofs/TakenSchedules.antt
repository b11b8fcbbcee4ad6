-- A window closes that accepted a schedule: its node goes on with the round of the opening, or waits for the round of the
-- closing, by the zero that it gives.
use Rattle.std.proofs.Common.{◌≡◌, ℕ, suc, ◌+◌, ◌*◌, ◌≤◌, ◌⊎◌, inl, inr, List, true, false, refl, sym, ◌∙◌, subst, arith, true≢false}
use Rattle.std.specs.Prelude.{slice_index}
use Rattle.lwb_base.specs.Messages.{Schedule}
use Rattle.lwb_base.specs.Profile.{Numbers}
use Rattle.tick_clock.specs.Clocks.{IsClock}
use Rattle.time_reference.specs.Budgets.{Budget, Fits, budget_of}
use Rattle.time_reference.specs.Reference.{stopped}
use Rattle.bus_rules.specs.declared.tune.Tune.{Tune}
use Rattle.bus_rules.specs.declared.tune.Tune.TheVariants.{Scan, Hold, Host}
use Rattle.bus_rules.specs.Tuning.{hosts}
use Rattle.bus_rules.specs.Cores.{Core, opening_accepted, closing_accepted}
use Rattle.node_core.specs.declared.stage.Stage.TheVariants.{AwaitFrame, AwaitSlot}
use Rattle.node_core.specs.Windows.{Window}
use Rattle.node_core.specs.Nodes.{Node}
use Rattle.scenario_text.specs.ScenarioParts.{ScenarioParts}
use Rattle.air_log.specs.declared.entry.Entry.{Entry}
use Rattle.air_log.specs.Devices.{Device}
use Rattle.law_trails.proofs.HeardReferences.{moved_on, good_ahead, good_now}
use Rattle.law_safety.specs.SentPlans.{FitsRound, IsPlanned, HasHeardPlan}
use Rattle.law_safety.specs.RoundZeros.{RefFor, GoodFor}
use Rattle.law_safety.specs.SetAlarms.{rank_at}
use Rattle.law_safety.specs.TunedNodes.{is_joining, is_last_window, by_hearing, IsRoundOf, Waits}
use Rattle.law_safety.specs.KnownPlans.{InRound, PlanFor}
use Rattle.law_safety.specs.Rows.{AtTick}
use Rattle.law_safety.proofs.AcceptedSchedules.{fits as fits_round, planned, heard_plan, heard_opening}
use Rattle.law_safety.proofs.ClosedWindows.{Closes, fits, host_drifts, own_drifts}
use Rattle.law_safety.proofs.ClosedNodes.{on_slot, on_rest, host_stays, host_holds, Leads}
use Rattle.law_safety.proofs.ClosedRounds.{Accepts, joined_or_member}

module _ (s : ScenarioParts) (clocks : ℕ → ℕ → ℕ) (air : List Entry) (v t : ℕ) (at : AtTick s clocks air v t) (d : Device) (n : Node) (j : ℕ) (w : Window)
    (is : Closes s clocks air v t d n j w) (e : Device) (y : Schedule) (accepts : Accepts s clocks air v t at d n j w is y) where
  -- the zero that is used from now on
  abbrev pub zero_then : ℕ
  zero_then = stopped (accepts.zero + y.gap * s.profile.frame)

  abbrev p : Numbers
  p = s.profile

  abbrev b : Budget
  b = budget_of s.profile

  abbrev host : ℕ → ℕ
  host = clocks (slice_index s.hosts (rank_at n))

  budget : Fits p b
  budget = fits s clocks air v t at d n j w is

  host_clock : IsClock host
  host_clock = host_drifts s clocks air v t at d n j w is

  own_clock : IsClock (clocks v)
  own_clock = own_drifts s clocks air v t at d n j w is

  fits_then : FitsRound s (rank_at n) y.plan
  fits_then = fits_round s clocks air v t at n j is.frame accepts.heard accepts.in_slot y accepts.says

  planned_then : IsPlanned s air (rank_at n) (n.frame + y.gap) y.plan
  planned_then = planned s clocks air v t at n j is.frame accepts.heard accepts.in_slot y accepts.says

  heard_then : HasHeardPlan s air v (rank_at n) (n.frame + y.gap) y.plan (suc t)
  heard_then = heard_plan s clocks air v t at n j is.frame accepts.heard accepts.in_slot y accepts.says

  -- ---- an opening

  module _ (none : y.gap ≡ 0) (first : j ≡ 0) where
    abbrev opened : Core
    opened = opening_accepted v n.frame y n.core

    abbrev on : Node
    on = record { core = opened; frame = n.frame; zero = zero_then; stage = AwaitSlot (j + 1) }

    same_frame : n.frame + y.gap ≡ n.frame
    same_frame = omega (arith, none)

    ref_then : RefFor s clocks (rank_at n) v zero_then n.frame n.frame j
    ref_then =
        subst (λ (f : ℕ). RefFor s clocks (rank_at n) v zero_then f n.frame j) same_frame
        (moved_on p b budget host (clocks v) accepts.zero n.frame n.frame j y.gap host_clock own_clock accepts.ref (omega (arith, none)))

    round_by : (tune : Tune) → ((by_hearing n tune ≡ true) ⊎ IsRoundOf s clocks v n j (is_last_window j w) tune) → hosts tune ≡ false
        → IsRoundOf s clocks v on (j + 1) false tune
    round_by (Scan r waited) was guest = (refl, omega arith)
    round_by (Hold r due) (inl joins) guest = absurd (true≢false (sym joins))
    round_by (Hold r due) (inr round) guest = round
    round_by (Host r due) was guest = absurd (true≢false guest)

    was : (is_joining n ≡ true) ⊎ IsRoundOf s clocks v n j (is_last_window j w) n.core.tune
    was = elim (joined_or_member s clocks air v t at d n j w is) [ inl joined ↦ inl joined.0 | inr other ↦ inr other.1.member.round ]

    plan_on : InRound s clocks air v (suc t) on (j + 1) y.plan
    plan_on = record {
      fits = fits_then;
      known = λ why. record {
        planned = subst (λ (f : ℕ). IsPlanned s air (rank_at n) f y.plan) same_frame planned_then;
        heard = λ guest. subst (λ (f : ℕ). HasHeardPlan s air v (rank_at n) f y.plan (suc t)) same_frame heard_then;
      };
      fresh = λ fresh. record {
        behind = omega arith;
        guest = accepts.guest;
        ref = subst (λ (i : ℕ). RefFor s clocks (rank_at n) v zero_then n.frame n.frame i) first ref_then;
        heard = heard_opening s clocks air v t at n j is.frame accepts.heard accepts.in_slot y accepts.says none;
      };
    }

    pub goes_by_opening : Leads s clocks air v t at d n j w is e opened zero_then true
    goes_by_opening shut power = record {
      node = on_slot s clocks air v t at d n j w is e _ shut opened zero_then refl (record {
        good = good_now p b budget host (clocks v) zero_then n.frame j ref_then;
        slot = omega (arith, first);
        round = round_by n.core.tune was accepts.guest;
        plan = plan_on;
      }) refl;
      host = λ rank old lives.
          host_stays s clocks air v t at d n j w is e _ shut rank old lives on power refl refl (λ hosting. absurd (true≢false (sym hosting ∙ accepts.guest)));
    }

  -- ---- a closing

  module _ (some : 1 ≤ y.gap) (few : y.gap ≤ 4) where
    abbrev closed : Core
    closed = closing_accepted v n.frame y n.core

    abbrev over : Node
    over = record { core = closed; frame = n.frame; zero = zero_then; stage = AwaitFrame }

    of_rank : y.plan.rank ≡ rank_at n
    of_rank = fits_then.of_rank

    waits : Waits s clocks v over closed.tune
    waits = λ later.
        subst (λ (r : ℕ). GoodFor s clocks r v zero_then (n.frame + y.gap) 0) (sym of_rank)
        (good_ahead p b budget host (clocks v) accepts.zero n.frame j y.gap host_clock own_clock accepts.ref some few)

    plan_for : PlanFor s clocks air v (suc t) over closed.tune
    plan_for = λ later. (
      subst (λ (r : ℕ). FitsRound s r y.plan) (sym of_rank) fits_then,
      record {
        planned = subst (λ (r : ℕ). IsPlanned s air r (n.frame + y.gap) y.plan) (sym of_rank) planned_then;
        heard = λ guest. subst (λ (r : ℕ). HasHeardPlan s air v r (n.frame + y.gap) y.plan (suc t)) (sym of_rank) heard_then;
      },
    )

    pub goes_by_closing : Leads s clocks air v t at d n j w is e closed zero_then false
    goes_by_closing shut power = record {
      node = on_rest s clocks air v t at d n j w is e _ shut closed zero_then of_rank waits plan_for refl;
      host = λ rank old lives.
          host_holds s clocks air v t at d n j w is e _ shut rank old lives over power refl y.plan.rank (n.frame + y.gap) refl accepts.guest;
    }
