-- By which plan a node goes in the window that opens, and the plan that a closing host makes.
use Rattle.std.proofs.Common.{◌≡◌, ℕ, suc, ◌-◌, ◌<◌, ◌≤◌, ◌⊎◌, inl, inr, List, Bool, true, false, ◌==◌, nat_le, nat_lt, length, if◌then◌else◌, Option, Some}
use Rattle.std.proofs.Common.{None, IfSome, refl, sym, ◌∙◌, ap, subst, arith, eq-eqb, true≢false}
use Rattle.std.specs.Prelude.{⊤, slice_index}
use Rattle.std.proofs.lemmas.Bool.{cond-true}
use Rattle.lwb_base.specs.Messages.{Plan, Schedule}
use Rattle.bus_rules.specs.declared.part.Part.{Part}
use Rattle.bus_rules.specs.declared.part.Part.TheVariants.{Opening, Data as DataSlot, Contention, Closing}
use Rattle.bus_rules.specs.Plans.{opening as opening_of, last_slot}
use Rattle.bus_rules.specs.Tuning.{hosts}
use Rattle.bus_rules.specs.HostPlans.{HostPlan}
use Rattle.bus_rules.specs.Cores.{Core, Setup}
use Rattle.bus_rules.specs.Slots.{Message, Opened, ScheduleOf, hosts_now, part_of, opened_slot, host_closes, silent}
use Rattle.bus_rules.proofs.Ranks.{planned_rank}
use Rattle.lwb_member.specs.Places.{IsPartOfSlot, kind_for}
use Rattle.lwb_member.specs.Said.{bytes_of}
use Rattle.lwb_member.proofs.Told.{told}
use Rattle.node_core.specs.declared.stage.Stage.{Stage}
use Rattle.node_core.specs.Nodes.{Node}
use Rattle.node_core.specs.Rows.{flood_for}
use Rattle.scenario_text.specs.ScenarioParts.{ScenarioParts}
use Rattle.air_log.specs.declared.entry.Entry.{Entry}
use Rattle.air_log.specs.Devices.{Device}
use Rattle.scenario_text.specs.Setups.{setup_of}
use Rattle.law_trails.specs.NodeRanges.{IsNodeInRange}
use Rattle.law_trails.proofs.ProfilePackets.{last_covered}
use Rattle.bus_rules.proofs.Ranks.{host_now}
use Rattle.law_trails.proofs.SaidInRange.{IsSayable, placed, says}
use Rattle.law_safety.specs.SentPlans.{FitsRound, IsPlanned, HasHeardPlan, HasHeardOpening}
use Rattle.law_safety.specs.RoundZeros.{RefFor}
use Rattle.law_safety.specs.SetAlarms.{rank_at}
use Rattle.law_safety.specs.TunedNodes.{Either}
use Rattle.law_safety.specs.KnownPlans.{KnowsPlan, KnowsOpening, InRound, HasRound, HasPlan}
use Rattle.law_safety.specs.Rows.{AtTick}
use Rattle.law_safety.proofs.AwaitedSlots.{Awaits}
use Rattle.law_safety.proofs.OpeningRoles.{Role, SameStanding}
use Rattle.law_safety.proofs.OpenedNodes.{is_set, left, window, after, next, role, standing, none_joins, hosts_round}

-- who goes on in the same standing knows the same
module _ (s : ScenarioParts) (clocks : ℕ → ℕ → ℕ) (air : List Entry) (v told_to : ℕ) (n : Node) (j : ℕ) (plan : Plan) (e : Core) (stage : Stage)
    (same : SameStanding n.core e) where
  abbrev moved : Node
  moved = record n { core = e; stage = stage }

  pub plan_kept : (frame : ℕ) → KnowsPlan s clocks air v told_to n frame plan → KnowsPlan s clocks air v told_to moved frame plan
  plan_kept frame knows = record {
    planned = subst (λ (r : ℕ). IsPlanned s air r frame plan) (sym same.rank) knows.planned;
    heard = λ guest. subst (λ (r : ℕ). HasHeardPlan s air v r frame plan told_to) (sym same.rank) (knows.heard (sym same.host ∙ guest));
  }

  pub opening_kept : KnowsOpening s clocks air v n j plan → KnowsOpening s clocks air v moved j plan
  opening_kept knows = record {
    behind = knows.behind;
    guest = same.host ∙ knows.guest;
    ref = subst (λ (r : ℕ). RefFor s clocks r v n.zero n.frame n.frame 0) (sym same.rank) knows.ref;
    heard = subst (λ (r : ℕ). HasHeardOpening s air v r n.frame plan) (sym same.rank) knows.heard;
  }

  who : (hosts e.tune ≡ false) ⊎ (1 ≤ j) → (hosts n.core.tune ≡ false) ⊎ (1 ≤ j)
  who (inl guest) = inl (sym same.host ∙ guest)
  who (inr behind) = inr behind

  pub round_kept : InRound s clocks air v told_to n j plan → InRound s clocks air v told_to moved j plan
  round_kept round = record {
    fits = subst (λ (r : ℕ). FitsRound s r plan) (sym same.rank) round.fits;
    known = λ is. plan_kept n.frame (round.known (who is));
    fresh = λ is. opening_kept (round.fresh (sym same.fresh ∙ is));
  }

module _ (s : ScenarioParts) (clocks : ℕ → ℕ → ℕ) (air : List Entry) (v t : ℕ) (at : AtTick s clocks air v t) (d : Device) (n : Node) (j : ℕ)
    (is : Awaits s clocks air v t d n j) (ranged : IsNodeInRange (setup_of s v) n) where
  abbrev S : Setup
  S = setup_of s v

  abbrev made : HostPlan
  made = next s clocks air v t at d n j is

  abbrev closing : Schedule
  closing = record { plan = made.plan; gap = made.gap }

  -- what a closing host says
  pub closing_sayable : hosts_now n.frame n.core ≡ true → part_of n.core.plan j ≡ Closing
      → IsSayable (setup_of s v) (kind_for Closing) j (ScheduleOf closing)
  closing_sayable now part =
      let here : IsPartOfSlot n.core.plan j Closing = subst (IsPartOfSlot n.core.plan j) part (placed n.core.plan j ranged.core.plan is.member.slot) in
      subst (λ (o : Opened). IfSome o.message (IsSayable S (kind_for Closing) j))
      (cond-true (hosts_now n.frame n.core) (host_closes S n.frame n.core) (silent n.core) now)
      (says S (is_set s clocks air v t at) n.frame j Closing n.core ranged.core here)

  pub closing_fits : hosts_now n.frame n.core ≡ true → part_of n.core.plan j ≡ Closing → FitsRound s (rank_at n) made.plan
  closing_fits now part =
      let say = closing_sayable now part in
      record {
        of_rank = planned_rank s.profile v n.core.boot (rank_at n) n.frame n.core.kept n.core.table n.core.streams;
        short = last_covered s.profile at.run.driven.sound.profile (bytes_of (ScheduleOf closing) j) closing say.of_profile
            (told (ScheduleOf closing) j say.may);
      }

  abbrev m : Node
  m = after s clocks air v t at d n j is

  abbrev so : SameStanding n.core m.core
  so = standing s clocks air v t at d n j is

  own_plan : Role S n.frame n.core j (left s clocks air v t at d n j is) → (hosts m.core.tune ≡ false) ⊎ (j < last_slot n.core.plan)
      → m.core.plan ≡ n.core.plan
  own_plan (inl keeps) who_is = keeps.plan
  own_plan (inr plans) (inl guest) = absurd (true≢false (sym (host_now n.frame n.core plans.now) ∙ sym so.host ∙ guest))
  own_plan (inr plans) (inr less) = let last = plans.last in absurd (omega (arith, last, less))

  next_plan : Role S n.frame n.core j (left s clocks air v t at d n j is) → FitsRound s (rank_at m) m.core.plan
  next_plan (inl keeps) =
      subst (λ (r : ℕ). FitsRound s r m.core.plan) (sym so.rank)
      (subst (FitsRound s (rank_at n)) (sym keeps.plan) is.plan.fits)
  next_plan (inr plans) =
      subst (λ (r : ℕ). FitsRound s r m.core.plan) (sym so.rank)
      (subst (λ (o : Opened). FitsRound s (rank_at n) o.core.plan) (sym plans.is) (closing_fits plans.now plans.part))

  -- in slot 0 a host says its plan
  opens_with : hosts m.core.tune ≡ true → j ≡ 0
      → (window s clocks air v t at d n j is).flood.first ≡ Some (bytes_of (ScheduleOf (opening_of n.core.plan)) 0)
  opens_with host first =
      let h = hosts_round s clocks air v t at d n j is (sym so.host ∙ host) in
      let c = n.core in
      let rest : Part =
      if nat_le j (length c.plan.owners) then DataSlot (slice_index c.plan.owners (j - 1))
      else if nat_lt j (last_slot c.plan) then Contention (j - length c.plan.owners) else Closing in
      let here : part_of c.plan j ≡ Opening = cond-true (j == 0) Opening rest (eq-eqb j 0 first) in
      let says_so : (opened_slot S n.frame (part_of c.plan j) c).message ≡ Some (ScheduleOf (opening_of c.plan)) =
      ap (λ (part : Part). (opened_slot S n.frame part c).message) here ∙ cond-true (hosts_now n.frame c) (Some (ScheduleOf (opening_of c.plan))) None h.now in
      ap (λ (x : Option Message). (flood_for S (part_of c.plan j) j x).first) says_so
      ∙ ap (λ (i : ℕ). Some (bytes_of (ScheduleOf (opening_of c.plan)) i)) first

  pub plan_clause : HasPlan s clocks air v (suc t) m
  plan_clause = record {
    at = subst (λ (joins : Bool). Either joins ⊤ (HasRound s clocks air v (suc t) m j (window s clocks air v t at d n j is)))
        (sym (none_joins s clocks air v t at d n j is)) (record {
          plan = n.core.plan;
          round = round_kept s clocks air v (suc t) n j n.core.plan m.core m.stage so is.plan;
          last = refl;
          part = refl;
          own = own_plan (role s clocks air v t at d n j is);
          next = λ host. next_plan (role s clocks air v t at d n j is);
          opens = opens_with;
        });
  }
