-- A window closes that accepted no schedule: its node goes on with its round, or waits for the end of the frame.
use Rattle.std.proofs.Common.{◌≡◌, ℕ, suc, ◌+◌, ◌<◌, ◌≤◌, inl, inr, List, Bool, true, false, nat_lt, Option, is_some, Contains, refl, sym, ◌∙◌, ap, subst}
use Rattle.std.proofs.Common.{arith, true≢false, ltb-true}
use Rattle.std.proofs.lemmas.Bool.{cases_lt, not_from_true, not_from_false}
use Rattle.lwb_base.specs.Messages.{Plan}
use Rattle.time_reference.specs.Budgets.{budget_of}
use Rattle.time_reference.specs.Reference.{host_zero}
use Rattle.bus_rules.specs.declared.tune.Tune.{Tune}
use Rattle.bus_rules.specs.declared.tune.Tune.TheVariants.{Scan, Hold, Host}
use Rattle.bus_rules.specs.declared.part.Part.{Part}
use Rattle.bus_rules.specs.declared.part.Part.TheVariants.{Opening, Data as DataSlot, Contention, Closing}
use Rattle.bus_rules.specs.Plans.{last_slot}
use Rattle.bus_rules.specs.Tuning.{rank_of, hosts}
use Rattle.bus_rules.specs.Cores.{Core}
use Rattle.bus_rules.specs.Slots.{slot_heard}
use Rattle.node_core.specs.declared.stage.Stage.TheVariants.{AwaitFrame, AwaitSlot}
use Rattle.node_core.specs.Windows.{Window}
use Rattle.node_core.specs.Nodes.{Node, zero_of_host}
use Rattle.node_core.specs.Rows.{zero_next}
use Rattle.scenario_text.specs.ScenarioParts.{ScenarioParts}
use Rattle.radio_model.specs.declared.sending.Sending.{Sending}
use Rattle.air_log.specs.declared.entry.Entry.{Entry}
use Rattle.air_log.specs.Devices.{Device}
use Rattle.scenario_text.specs.Setups.{setup_of}
use Rattle.law_trails.specs.NodeRanges.{IsNodeInRange}
use Rattle.law_trails.proofs.UnstoppedTimes.{host_sum}
use Rattle.law_safety.specs.SentPlans.{FitsRound}
use Rattle.law_safety.specs.FloodSendings.{IsOfFlood}
use Rattle.law_safety.specs.SetAlarms.{rank_at}
use Rattle.law_safety.specs.TunedNodes.{IsRoundOf, Waits}
use Rattle.law_safety.specs.KnownPlans.{KnowsPlan, InRound, PlanFor}
use Rattle.law_safety.specs.Rows.{AtTick}
use Rattle.law_safety.proofs.OpeningRoles.{SameStanding}
use Rattle.law_safety.proofs.OpenedPlans.{plan_kept, opening_kept}
use Rattle.law_safety.proofs.ClosedWindows.{Closes, fits, early, good_closing}
use Rattle.law_safety.proofs.ClosedNodes.{on_slot, on_rest, host_stays, Leads}
use Rattle.law_safety.proofs.ClosedRounds.{IsMembers}
use Rattle.law_safety.proofs.SentOpenings.{opened_plan}

-- the core e keeps the tune, the plan and the contention slot of c
pub record KeepsRound (c e : Core) : Type 0 where
  pub tune : e.tune ≡ c.tune
  pub plan : e.plan ≡ c.plan
  pub own_slot : e.own_slot ≡ c.own_slot

-- a host's table is no matter of them
pub heard_keeps : (f : ℕ) (part : Part) (heard : Bool) (c : Core) → KeepsRound c (slot_heard f part heard c)
heard_keeps f Opening heard c = record { tune = refl; plan = refl; own_slot = refl }
heard_keeps f (DataSlot owner) heard c = record { tune = refl; plan = refl; own_slot = refl }
heard_keeps f (Contention i) heard c = record { tune = refl; plan = refl; own_slot = refl }
heard_keeps f Closing heard c = record { tune = refl; plan = refl; own_slot = refl }

module _ (s : ScenarioParts) (clocks : ℕ → ℕ → ℕ) (air : List Entry) (v t : ℕ) (at : AtTick s clocks air v t) (d : Device) (n : Node) (j : ℕ) (w : Window)
    (is : Closes s clocks air v t d n j w) (ranged : IsNodeInRange (setup_of s v) n) (members : IsMembers s clocks air v t at d n j w is)
    (sent : (x : Sending) → Contains d.made.sent x → IsOfFlood s clocks air x) (e : Device) (core : Core) (keeps : KeepsRound n.core core) where
  abbrev plan : Plan
  plan = members.round.plan

  standing : SameStanding n.core core
  standing = record { rank = ap rank_of keeps.tune; host = ap hosts keeps.tune; fresh = ap (λ (o : Option ℕ). is_some o) keeps.own_slot }

  -- ---- more slots follow

  abbrev on : Node
  on = record { core = core; frame = n.frame; zero = n.zero; stage = AwaitSlot (j + 1) }

  knows_by : (b : Bool) → hosts n.core.tune ≡ b → KnowsPlan s clocks air v (suc t) n n.frame plan
  knows_by false guest = members.round.round.known (inl guest)
  knows_by true host = elim (cases_lt 0 j) [
    | inl behind ↦ members.round.round.known (inr (omega (arith, behind)))
    | inr none ↦ record {
      planned = opened_plan s clocks air v t at d n j w is ranged members sent host (omega (arith, none));
      heard = λ guest. absurd (true≢false (sym host ∙ guest));
    }
  ]

  round_on : (tune : Tune) → IsRoundOf s clocks v n j false tune → IsRoundOf s clocks v on (j + 1) false tune
  round_on (Scan r waited) round = (standing.fresh ∙ round.0, omega arith)
  round_on (Hold r due) round = round
  round_on (Host r due) round = round

  plan_on : n.core.plan ≡ plan → InRound s clocks air v (suc t) on (j + 1) core.plan
  plan_on own = subst (InRound s clocks air v (suc t) on (j + 1)) (sym (keeps.plan ∙ own)) (record {
    fits = subst (λ (r : ℕ). FitsRound s r plan) (sym standing.rank) members.round.round.fits;
    known = λ why. plan_kept s clocks air v (suc t) n j plan core (AwaitSlot (j + 1)) standing n.frame (knows_by (hosts n.core.tune) refl);
    fresh = λ fresh.
        (let was = opening_kept s clocks air v (suc t) n j plan core (AwaitSlot (j + 1)) standing (members.round.round.fresh (sym standing.fresh ∙ fresh)) in
        record { behind = omega arith; guest = was.guest; ref = was.ref; heard = was.heard });
  })

  -- ---- it was the last

  abbrev over : ℕ → Node
  over z = record { core = core; frame = n.frame; zero = z; stage = AwaitFrame }

  abbrev Rests : Tune → Type 0
  Rests tune =
      Waits s clocks v (over (zero_next s.profile n.zero tune)) tune × PlanFor s clocks air v (suc t) (over (zero_next s.profile n.zero tune)) tune

  waits_by : (tune : Tune) → n.core.tune ≡ tune → IsRoundOf s clocks v n j true tune → Rests tune
  waits_by (Scan r waited) same round = (tt, tt)
  waits_by (Hold r due) same round = (λ later. absurd (omega (arith, round, later)), λ later. absurd (omega (arith, round, later)))
  waits_by (Host r due) same round =
      let few = early s clocks air v t at d n j w is in
      let ahead : (n.frame < due) × (due ≤ n.frame + 4) = round.2 in
      let within = ahead.1 in
      let zero : zero_of_host s.profile due ≡ host_zero s.profile due =
      host_sum s.profile (budget_of s.profile) (fits s clocks air v t at d n j w is) due (omega (arith, within, few)) in (
        (round.0, zero, ahead.0),
        subst (λ (r : ℕ). FitsRound s r core.plan) (ap rank_of same) (subst (FitsRound s (rank_at n)) (sym keeps.plan) (members.round.next (ap hosts same))),
      )

  abbrev RoundBy : Bool → Type 0
  RoundBy closes = IsRoundOf s clocks v n j closes n.core.tune

  by_more : (more : Bool) → nat_lt j w.last ≡ more → Leads s clocks air v t at d n j w is e core n.zero more
  by_more true less shut power =
      let before : j < w.last = ltb-true j w.last less in
      let own : n.core.plan ≡ plan = members.round.own (inr before) in
      let last = members.round.last in
      let same : last_slot core.plan ≡ last_slot plan = ap last_slot (keeps.plan ∙ own) in
      let round : IsRoundOf s clocks v on (j + 1) false n.core.tune =
      round_on n.core.tune (subst RoundBy (not_from_true (nat_lt j w.last) less) members.member.round) in
      record {
        node = on_slot s clocks air v t at d n j w is e _ shut core n.zero standing.rank (record {
          good = good_closing s clocks air v t at d n j w is;
          slot = omega (arith, before, last, same);
          round = subst (IsRoundOf s clocks v on (j + 1) false) (sym keeps.tune) round;
          plan = plan_on own;
        }) refl;
        host = λ rank old lives. host_stays s clocks air v t at d n j w is e _ shut rank old lives on power refl keeps.tune (λ host. keeps.plan);
      }
  by_more false end shut power =
      let was = waits_by n.core.tune refl
      (subst RoundBy (not_from_false (nat_lt j w.last) end) members.member.round) in
      let now = subst Rests (sym keeps.tune) was in
      let z = zero_next s.profile n.zero core.tune in
      record {
        node = on_rest s clocks air v t at d n j w is e _ shut core z standing.rank now.0 now.1 refl;
        host = λ rank old lives. host_stays s clocks air v t at d n j w is e _ shut rank old lives (over z) power refl keeps.tune (λ host. keeps.plan);
      }

  pub goes_by_own : Leads s clocks air v t at d n j w is e core n.zero (nat_lt j w.last)
  goes_by_own = by_more (nat_lt j w.last) refl
