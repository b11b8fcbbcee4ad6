-- What a node says in the window that opens it may say there.
use Rattle.std.proofs.Common.{◌≡◌, ℕ, suc, ◌≤◌, ◌⊎◌, inl, inr, List, true, ◌==◌, Option, Some, None, IfSome, is_some, option_map, refl, sym, subst, arith}
use Rattle.std.proofs.lemmas.Bool.{cond_both, eqb-true, cases_Bool}
use Rattle.lwb_base.specs.Messages.{node_of, stream_of}
use Rattle.bus_rules.specs.declared.part.Part.{Part}
use Rattle.bus_rules.specs.declared.part.Part.TheVariants.{Opening, Data as DataSlot, Contention, Closing}
use Rattle.bus_rules.specs.Plans.{opening as opening_of}
use Rattle.bus_rules.specs.Streams.{WaitingPacket, first_waiting, requested}
use Rattle.bus_rules.specs.Tuning.{hosts}
use Rattle.bus_rules.specs.Cores.{Core, Setup, is_fresh}
use Rattle.bus_rules.specs.Slots.{Message, Opened, ScheduleOf, hosts_now, part_of, opened_slot, host_closes, silent, data_of, request_of, is_own}
use Rattle.lwb_member.specs.Places.{kind_for}
use Rattle.lwb_member.specs.Said.{bytes_of}
use Rattle.lwb_member.proofs.Told.{told}
use Rattle.node_core.specs.Nodes.{Node}
use Rattle.scenario_text.specs.ScenarioParts.{ScenarioParts}
use Rattle.air_log.specs.declared.entry.Entry.{Entry}
use Rattle.air_log.specs.Devices.{Device}
use Rattle.scenario_text.specs.Setups.{setup_of}
use Rattle.air_log.specs.Trails.{frame_start}
use Rattle.law_trails.specs.NodeRanges.{IsNodeInRange}
use Rattle.law_trails.proofs.CoresInRange.{host_plan_of}
use Rattle.bus_rules.proofs.Ranks.{host_now}
use Rattle.law_trails.proofs.OtherCounters.{first_place}
use Rattle.bus_rules.proofs.Ranks.{host_now}
use Rattle.law_trails.proofs.SaidInRange.{IsSayable, placed, says}
use Rattle.law_safety.specs.SentPlans.{HasHeardPlan}
use Rattle.law_safety.specs.SetAlarms.{rank_at}
use Rattle.law_safety.specs.Beginnings.{MaySay, MayBegin}
use Rattle.law_safety.specs.Rows.{AtTick}
use Rattle.law_safety.proofs.AwaitedSlots.{Awaits, has_begun, slot_in_round}
use Rattle.law_safety.proofs.OpeningRoles.{StandsAt, stands}
use Rattle.law_safety.proofs.OpenedNodes.{is_set, left, hosts_round}
use Rattle.law_safety.proofs.OpenedPlans.{closing_fits}

-- only a fresh node has a contention slot of its own
own_fresh : (own : Option ℕ) (i : ℕ) → is_own own i ≡ true → is_some own ≡ true
own_fresh None i is = is
own_fresh (Some k) i is = refl

module _ (s : ScenarioParts) (clocks : ℕ → ℕ → ℕ) (air : List Entry) (v t : ℕ) (at : AtTick s clocks air v t) (d : Device) (n : Node) (j : ℕ)
    (is : Awaits s clocks air v t d n j) (ranged : IsNodeInRange (setup_of s v) n) where
  abbrev S : Setup
  S = setup_of s v

  abbrev c : Core
  c = n.core

  abbrev May : Message → Type 0
  May x = MaySay s clocks air v (rank_at n) n.frame n.zero j (hosts n.core.tune) (Some x)

  -- data is said by the host, or by who received the plan
  heard_now : HasHeardPlan s air v (rank_at n) n.frame n.core.plan (suc t)
      → HasHeardPlan s air v (rank_at n) n.frame n.core.plan (suc (frame_start s n.frame))
  heard_now knows =
      let begun = has_begun s clocks air v t at d n j is in
      record {
        heard = knows.heard;
        gap = knows.gap;
        schedule = knows.schedule;
        due = knows.due;
        stays = λ l there node later before. knows.stays l there node later (omega (arith, before, begun));
      }

  by_word : 1 ≤ j → (hosts n.core.tune ≡ true) ⊎ HasHeardPlan s air v (rank_at n) n.frame n.core.plan (suc (frame_start s n.frame))
  by_word behind = elim (cases_Bool (hosts n.core.tune)) [
    | inl host ↦ inl host
    | inr guest ↦ inr (heard_now ((is.plan.known (inr behind)).heard guest))
  ]

  may_data : (owner : ℕ) → part_of n.core.plan j ≡ DataSlot owner → 1 ≤ j → node_of owner ≡ v → (o : Option WaitingPacket)
      → IfSome (option_map (data_of v c (stream_of owner)) o) May
  may_data owner part behind own None = tt
  may_data owner part behind own (Some x) = record {
    plan = n.core.plan;
    planned = (is.plan.known (inr behind)).planned;
    own = refl;
    owner = owner;
    part = part;
    node = own;
    stream = refl;
    word = by_word behind;
  }

  may_request : (i : ℕ) → part_of n.core.plan j ≡ Contention i → 1 ≤ j → is_fresh c ≡ true → (o : Option ℕ)
      → IfSome (option_map (request_of v c) o) May
  may_request i part behind fresh None = tt
  may_request i part behind fresh (Some k) =
      let opening_known = is.plan.fresh fresh in
      record {
        plan = n.core.plan;
        place = i;
        planned = (is.plan.known (inr behind)).planned;
        part = part;
        ref = opening_known.ref;
        word = opening_known.heard;
      }

  may_by : (part : Part) → part_of n.core.plan j ≡ part → StandsAt n.core.plan j part → IfSome (opened_slot S n.frame part c).message May
  may_by Opening part stood =
      cond_both (hosts_now n.frame c) (Some (ScheduleOf (opening_of c.plan))) None (λ (o : Option Message). IfSome o May)
      (λ now. let h = hosts_round s clocks air v t at d n j is (host_now n.frame c now) in
      record { host = h.host; zero = h.zero; fits = is.plan.fits; part = inl (refl, stood) })
      (λ other. tt)
  may_by (DataSlot owner) part stood =
      cond_both (node_of owner == v) (option_map (data_of v c (stream_of owner)) (first_waiting c.streams (stream_of owner))) None
      (λ (o : Option Message). IfSome o May)
      (λ own. may_data owner part stood.0 (eqb-true (node_of owner) v own) (first_waiting c.streams (stream_of owner)))
      (λ other. tt)
  may_by (Contention i) part stood =
      cond_both (is_own c.own_slot i) (option_map (request_of v c) (requested c.streams)) None (λ (o : Option Message). IfSome o May)
      (λ own. may_request i part stood.0 (own_fresh c.own_slot i own) (requested c.streams))
      (λ other. tt)
  may_by Closing part stood =
      cond_both (hosts_now n.frame c) (host_closes S n.frame c) (silent c) (λ (o : Opened). IfSome o.message May)
      (λ now. let h = hosts_round s clocks air v t at d n j is (host_now n.frame c now) in
      let gap = (host_plan_of S (is_set s clocks air v t at) n.frame c ranged.core).gap in
      record {
        host = h.host;
        zero = h.zero;
        fits = closing_fits s clocks air v t at d n j is ranged now part;
        part = inr (record { plan = c.plan; planned = (is.plan.known (inr stood.0)).planned; part = part; some = gap.0; few = gap.1 });
      })
      (λ other. tt)

  pub may_say : IfSome (left s clocks air v t at d n j is).message May
  may_say = may_by (part_of n.core.plan j) refl (stands n.core.plan j)

  pub sayable : IfSome (left s clocks air v t at d n j is).message (IsSayable (setup_of s v) (kind_for (part_of n.core.plan j)) j)
  sayable = says S (is_set s clocks air v t at) n.frame j (part_of n.core.plan j) c ranged.core (placed c.plan j ranged.core.plan is.member.slot)

  -- so it may begin its flood with that
  pub may_begin : (x : Message) → MaySay s clocks air v (rank_at n) n.frame n.zero j (hosts n.core.tune) (Some x)
      → IsSayable (setup_of s v) (kind_for (part_of n.core.plan j)) j x
      → MayBegin s clocks air v (rank_at n) n.frame n.zero j (hosts n.core.tune) (bytes_of x j)
  may_begin x may say = record {
    slot = (first_place x j).0;
    first = (first_place x j).1;
    in_round = slot_in_round s clocks air v t at d n j is;
    good = is.member.good;
    says = subst (MaySay s clocks air v (rank_at n) n.frame n.zero j (hosts n.core.tune)) (sym (told x j say.may)) may;
  }
