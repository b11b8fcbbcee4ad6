-- The life of a host goes on with the window that opens: it opens its round, closes it, or says nothing of it.
use Rattle.std.proofs.Common.{◌≡◌, ℕ, suc, ◌+◌, ◌/◌, ◌<◌, inl, inr, List, [], ◌∷◌, true, ◌==◌, Option, Some, None, IfSome, Contains, length, option_map, refl}
use Rattle.std.proofs.Common.{sym, ◌∙◌, ap, subst, arith}
use Rattle.std.proofs.lemmas.Bool.{cond_both}
use Rattle.std.proofs.lemmas.List.Elements.{Contains-append_left, Contains-push, Contains-push_cases}
use Rattle.lwb_base.specs.Messages.{Plan, Schedule, node_of, stream_of}
use Rattle.bus_rules.specs.declared.part.Part.{Part}
use Rattle.bus_rules.specs.declared.part.Part.TheVariants.{Opening, Data as DataSlot, Contention, Closing}
use Rattle.bus_rules.specs.declared.tune.Tune.TheVariants.{Host}
use Rattle.bus_rules.specs.Plans.{opening as opening_of}
use Rattle.bus_rules.specs.Streams.{WaitingPacket, first_waiting, requested}
use Rattle.bus_rules.specs.Tuning.{hosts}
use Rattle.bus_rules.specs.HostPlans.{HostPlan}
use Rattle.bus_rules.specs.Cores.{Core, Setup, own_rank}
use Rattle.bus_rules.specs.Slots.{Message, Opened, ScheduleOf, hosts_now, part_of, opened_slot, host_closes, silent, data_of, request_of, is_own}
use Rattle.node_core.specs.Nodes.{Node}
use Rattle.lwb_member.specs.Places.{kind_for}
use Rattle.lwb_member.specs.Said.{bytes_of, message_of}
use Rattle.lwb_member.proofs.Told.{told}
use Rattle.radio_model.specs.declared.sending.Sending.{Sending}
use Rattle.radio_model.specs.Hearing.{frame_of_sending}
use Rattle.scenario_text.specs.ScenarioParts.{ScenarioParts}
use Rattle.air_log.specs.declared.entry.Entry.{Entry}
use Rattle.air_log.specs.Devices.{Device}
use Rattle.scenario_text.specs.Setups.{setup_of}
use Rattle.air_log.specs.Trails.{frame_start}
use Rattle.law_trails.specs.Lives.{Life, OpeningMade, ClosingMade, Opens, Closes, after_step, Quiet}
use Rattle.law_trails.specs.NodeRanges.{IsNodeInRange}
use Rattle.law_trails.proofs.CoresInRange.{host_plan_of}
use Rattle.bus_rules.proofs.Ranks.{host_now}
use Rattle.law_trails.proofs.HostRanks.{host_is_of_rank}
use Rattle.law_trails.proofs.LifeSteps.{step_quiet}
use Rattle.law_trails.specs.RowEffects.{said}
use Rattle.bus_rules.proofs.Ranks.{host_now}
use Rattle.law_trails.proofs.SaidInRange.{IsSayable}
use Rattle.law_safety.specs.SentPlans.{IsHostOf}
use Rattle.law_safety.specs.SetAlarms.{rank_at}
use Rattle.law_safety.specs.QuietHosts.{LifeHasSchedule, LivesAs, LivesBy, IsOrderedBy, HostsInOrder}
use Rattle.law_safety.specs.Rows.{AtTick}
use Rattle.law_safety.proofs.AwaitedSlots.{Awaits, frame_now, has_begun}
use Rattle.law_safety.proofs.OpenedNodes.{IsLeft, is_set, left, after, next, HostsRound, hosts_round}
use Rattle.law_safety.proofs.OpenedDevices.{ordered_is}
use Rattle.law_safety.proofs.OpenedSpeech.{sayable}

abbrev opening_made : ℕ → Plan → OpeningMade
opening_made f plan = record { frame = f; plan = plan }

abbrev closing_made : ℕ → Plan → ℕ → ClosingMade
closing_made gap plan f = record { frame = f; gap = gap; plan = plan }

module _ (s : ScenarioParts) (clocks : ℕ → ℕ → ℕ) (air : List Entry) (v t : ℕ) (at : AtTick s clocks air v t) (d : Device) (n : Node) (j : ℕ)
    (is : Awaits s clocks air v t d n j) (ranged : IsNodeInRange (setup_of s v) n)
    (rank : ℕ) (hosted : IsHostOf s rank v) (old : HostsInOrder s rank t (suc t) d) (lives : LivesAs old.life n) where
  abbrev S : Setup
  S = setup_of s v

  abbrev c : Core
  c = n.core

  abbrev l : Life
  l = old.life

  abbrev now : ℕ
  now = t / s.profile.frame

  abbrev made : HostPlan
  made = next s clocks air v t at d n j is

  -- what it says, if that is a schedule, the life has
  abbrev Has : Life → Message → Type 0
  Has k x = (y : Schedule) → x ≡ ScheduleOf y → LifeHasSchedule k now y

  -- a life that goes on with what the opening leaves
  pub record GoesOn (o : Opened) : Type 0 where
    pub life : Life
    pub quiet : Quiet rank life
    pub on : life.on ≡ true
    pub frame : life.frame ≡ n.frame
    pub tune : life.tune ≡ o.core.tune
    pub plan : hosts o.core.tune ≡ true → life.plan ≡ o.core.plan
    pub opened_before : (x : OpeningMade) → Contains life.openings x → frame_start s x.frame < suc t
    pub closed_before : (x : ClosingMade) → Contains life.closings x → frame_start s x.frame < suc t
    pub more : (f : ℕ) (y : Schedule) → LifeHasSchedule l f y → LifeHasSchedule life f y
    pub says : IfSome o.message (Has life)

  stays : (o : Opened) → o.core.tune ≡ c.tune → o.core.plan ≡ c.plan → IfSome o.message (Has l) → GoesOn o
  stays o tune plan says = record {
    life = l;
    quiet = old.quiet;
    on = lives.on;
    frame = lives.frame;
    tune = lives.tune ∙ sym tune;
    plan = λ host. lives.plan (sym (ap hosts tune) ∙ host) ∙ sym plan;
    opened_before = old.opened;
    closed_before = old.closed;
    more = λ f y there. there;
    says = says;
  }

  -- it hosts, and the round is this frame's
  rank_is : HostsRound s clocks air v t at d n j is → rank_at n ≡ rank
  rank_is h =
      let own : own_rank v s.hosts ≡ Some (rank_at n) = (host_is_of_rank s at.run.driven.sound v (rank_at n)).1 h.host in
      let also : own_rank v s.hosts ≡ Some rank = (host_is_of_rank s at.run.driven.sound v rank).1 hosted in
      cc

  hosts_so : HostsRound s clocks air v t at d n j is → l.tune ≡ Host rank l.frame
  hosts_so h =
      lives.tune ∙ h.tune ∙ ap (λ (r : ℕ). Host r n.frame) (rank_is h) ∙ ap (λ (f : ℕ). Host rank f) (sym lives.frame)

  in_frame : (f : ℕ) → f ≡ n.frame → frame_start s f < suc t
  in_frame f same =
      let begun = has_begun s clocks air v t at d n j is in
      subst (λ (g : ℕ). frame_start s g < suc t) (sym same) (omega (arith, begun))

  frame_is_now : l.frame ≡ now
  frame_is_now = lives.frame ∙ frame_now s clocks air v t at d n j is

  -- it opens its round
  opens : hosts_now n.frame c ≡ true → GoesOn (record { core = c; message = Some (ScheduleOf (opening_of c.plan)) })
  opens hosting =
      let host = host_now n.frame c hosting in
      let h = hosts_round s clocks air v t at d n j is host in
      let new : OpeningMade = record { frame = l.frame; plan = l.plan } in
      let same : new ≡ opening_made now c.plan =
      ap (λ (f : ℕ). opening_made f l.plan) frame_is_now ∙ ap (opening_made now) (lives.plan host) in
      let life : Life = after_step rank (length s.hosts) l Opens in
      let there : LifeHasSchedule life now (opening_of c.plan) = inl (refl, subst (Contains life.openings) same (Contains-push l.openings new)) in
      record {
        life = life;
        quiet = step_quiet rank (length s.hosts) l old.quiet Opens (lives.on, hosts_so h);
        on = lives.on;
        frame = lives.frame;
        tune = lives.tune;
        plan = lives.plan;
        opened_before = λ x has. elim (Contains-push_cases l.openings new x has) [
          | inl before ↦ old.opened x before
          | inr this ↦ in_frame x.frame (sym (ap (λ (o : OpeningMade). o.frame) this) ∙ lives.frame)
        ];
        closed_before = old.closed;
        more = λ f y has. elim has [
          | inl opening ↦ inl (opening.0, Contains-append_left l.openings (new ∷ []) (record { frame = f; plan = y.plan }) opening.1)
          | inr closing ↦ inr closing
        ];
        says = λ y said. (let is_y : opening_of c.plan ≡ y = cc in subst (LifeHasSchedule life now) is_y there);
      }

  -- or closes it, and goes by its next plan
  closes : hosts_now n.frame c ≡ true → GoesOn (host_closes S n.frame c)
  closes hosting =
      let host = host_now n.frame c hosting in
      let h = hosts_round s clocks air v t at d n j is host in
      let gap = (host_plan_of S (is_set s clocks air v t at) n.frame c ranged.core).gap in
      let new : ClosingMade = record { frame = l.frame; gap = made.gap; plan = made.plan } in
      let same : new ≡ closing_made made.gap made.plan now =
      ap (closing_made made.gap made.plan) frame_is_now in
      let life : Life = after_step rank (length s.hosts) l (Closes made.gap made.plan) in
      let closing : Schedule = record { plan = made.plan; gap = made.gap } in
      let there : LifeHasSchedule life now closing = inr (subst (Contains life.closings) same (Contains-push l.closings new)) in
      record {
        life = life;
        quiet = step_quiet rank (length s.hosts) l old.quiet (Closes made.gap made.plan) (lives.on, hosts_so h, gap.0, gap.1);
        on = lives.on;
        frame = lives.frame;
        tune = ap (λ (f : ℕ). Host rank (f + made.gap)) lives.frame ∙ ap (λ (r : ℕ). Host r (n.frame + made.gap)) (sym (rank_is h));
        plan = λ still. refl;
        opened_before = old.opened;
        closed_before = λ x has. elim (Contains-push_cases l.closings new x has) [
          | inl before ↦ old.closed x before
          | inr this ↦ in_frame x.frame (sym (ap (λ (o : ClosingMade). o.frame) this) ∙ lives.frame)
        ];
        more = λ f y has. elim has [
          | inl opening ↦ inl opening
          | inr before ↦ inr (Contains-append_left l.closings (new ∷ []) (record { frame = f; gap = y.gap; plan = y.plan }) before)
        ];
        says = λ y said. (let is_y : closing ≡ y = cc in subst (LifeHasSchedule life now) is_y there);
      }

  no_data : (i : ℕ) (o : Option WaitingPacket) → IfSome (option_map (data_of v c i) o) (Has l)
  no_data i None = tt
  no_data i (Some x) = λ y said. absurd cc

  no_request : (o : Option ℕ) → IfSome (option_map (request_of v c) o) (Has l)
  no_request None = tt
  no_request (Some i) = λ y said. absurd cc

  goes_by : (part : Part) → GoesOn (opened_slot S n.frame part c)
  goes_by Opening =
      cond_both (hosts_now n.frame c) (Some (ScheduleOf (opening_of c.plan))) None (λ (o : Option Message). GoesOn (record { core = c; message = o })) opens
      (λ other. stays (record { core = c; message = None }) refl refl tt)
  goes_by (DataSlot owner) =
      stays (opened_slot S n.frame (DataSlot owner) c) refl refl
      (cond_both (node_of owner == v) (option_map (data_of v c (stream_of owner)) (first_waiting c.streams (stream_of owner))) None
      (λ (o : Option Message). IfSome o (Has l))
      (λ own. no_data (stream_of owner) (first_waiting c.streams (stream_of owner)))
      (λ other. tt))
  goes_by (Contention i) =
      stays (opened_slot S n.frame (Contention i) c) refl refl
      (cond_both (is_own c.own_slot i) (option_map (request_of v c) (requested c.streams)) None (λ (o : Option Message). IfSome o (Has l))
      (λ own. no_request (requested c.streams))
      (λ other. tt))
  goes_by Closing =
      cond_both (hosts_now n.frame c) (host_closes S n.frame c) (silent c) GoesOn closes (λ other. stays (silent c) refl refl tt)

  pub goes_on : GoesOn (left s clocks air v t at d n j is)
  goes_on = goes_by (part_of n.core.plan j)

  -- what is ordered, if it is a schedule, the life has
  ordered_by : (k : Life) (o : Option Message) → IfSome o (Has k) → IfSome o (IsSayable S (kind_for (part_of n.core.plan j)) j)
      → IsOrderedBy k now (said (clocks v) S t n.zero j None o)
  ordered_by k None has say = tt
  ordered_by k (Some x) has say =
      λ first y reads.
      let written : message_of (bytes_of x j) ≡ Some x = told x j say.may in
      let is_y : x ≡ ScheduleOf y = cc in
      has y is_y

  pub host_clause : (e : Device) → IsLeft s clocks air v t at d n j is e → HostsInOrder s rank t (suc t) e
  host_clause e leaves =
      let g = goes_on in
      let life = g.life in
      let lives_on : LivesAs life (after s clocks air v t at d n j is) = record { on = g.on; frame = g.frame; tune = g.tune; plan = g.plan } in
      let set = ordered_is s clocks air v t at d n j is e leaves in
      record {
        life = life;
        quiet = g.quiet;
        lives = subst (LivesBy life now) (sym leaves.power) lives_on;
        opened = g.opened_before;
        closed = g.closed_before;
        sent = λ x y there first reads.
            g.more (frame_of_sending s.profile x) y (old.sent x y (subst (λ (xs : List Sending). Contains xs x) leaves.sent there) first reads);
        ordered = subst (IsOrderedBy life now) (sym set)
            (ordered_by life (left s clocks air v t at d n j is).message g.says (sayable s clocks air v t at d n j is ranged));
      }
