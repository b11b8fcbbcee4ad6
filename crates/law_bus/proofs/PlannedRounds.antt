-- All windows of a rank in a frame are of one round, by one plan that was sent for it.
use Rattle.std.proofs.Common.{◌≡◌, ℕ, ◌<◌, ◌≤◌, List, [], ◌∷◌, Bool, true, false, ◌==◌, Some, None, Option, inl, inr, fold, is_some, refl, sym, ◌∙◌, ap, subst}
use Rattle.std.proofs.Common.{arith, eq-eqb, true≢false}
use Rattle.std.specs.Prelude.{◌⊎◌}
use Rattle.std.proofs.lemmas.Bool.{cases_lt, ne_eqb, cond-true, cond-false, cond_both}
use Rattle.lwb_base.specs.Messages.{Plan}
use Rattle.glossy_relay.specs.FloodState.{FloodState}
use Rattle.glossy_relay.specs.Relaying.{after_heard, after_sent, fits}
use Rattle.bus_rules.specs.declared.part.Part.{Part}
use Rattle.bus_rules.specs.declared.part.Part.TheVariants.{Opening, Data as DataSlot, Contention, Closing as ClosingSlot}
use Rattle.bus_rules.specs.Plans.{last_slot, opening}
use Rattle.bus_rules.specs.Tuning.{hosts}
use Rattle.bus_rules.specs.Cores.{Core, Setup}
use Rattle.bus_rules.specs.Slots.{Message, ScheduleOf, part_of, opened_slot, closed_slot, slot_heard, hosts_now}
use Rattle.node_core.specs.Nodes.{Node}
use Rattle.node_core.specs.Windows.{Window}
use Rattle.node_core.specs.Rows.{accepted_in, flood_for, window_opens}
use Rattle.scenario_text.specs.ScenarioParts.{ScenarioParts}
use Rattle.air_log.specs.declared.entry.Entry.{Entry}
use Rattle.scenario_text.specs.Setups.{setup_of}
use Rattle.air_log.specs.Trails.{run_end}
use Rattle.air_log.specs.WindowLogs.{WindowLog, Closing, Happening, HeardAt, SentAt}
use Rattle.law_safety.specs.Beginnings.{Closes}
use Rattle.law_safety.specs.SentPlans.{IsPlanned}
use Rattle.law_safety.specs.SetAlarms.{rank_at}
use Rattle.law_safety.specs.TunedNodes.{IsRoundOf}
use Rattle.law_safety.proofs.OpeningRoles.{StandsAt, stands}
use Rattle.law_safety.proofs.SentPlans.{one_planned}
use Rattle.law_windows.specs.WindowFloods.{after_happening, flood_at_first, initial_message}
use Rattle.law_windows.specs.WindowRows.{OpensByAlarm}
use Rattle.law_windows.proofs.WindowFacts.{floods_of_windows}
use Rattle.law_terms.specs.LawfulRuns.{IsLawfulRun}
use Rattle.law_terms.specs.SlotLaws.{IsWindowOf}
use Rattle.law_bus.proofs.MembersByTune.{leads_by, round_led, hosts_lead}
use Rattle.law_bus.proofs.RunsOfLogs.{run, whole, known_by, HasOrigin, origin_of}
use Rattle.law_bus.proofs.WindowsOfRounds.{OfMember, OfScanner}
use Rattle.law_bus.proofs.WindowsInTurn.{closed_as, of_kind, opens_by, next_of, as_member}

-- a flood that began here goes on so
begun_still : (f : FloodState) (es : List Happening) → f.initiated ≡ true → (fold after_happening f es).initiated ≡ true
begun_still f [] is = is
begun_still f (HeardAt t p ∷ es) is =
    begun_still (after_heard f p) es (cond_both (fits f p) _ _ (λ (g : FloodState). g.initiated ≡ true) (λ fit. is) (λ other. is))
begun_still f (SentAt t p ∷ es) is = begun_still (after_sent f) es is

nothing_accepted : (w : Window) → w.flood.initiated ≡ true → accepted_in w ≡ None
nothing_accepted w is = rw is refl

-- a slot in which nothing is accepted leaves the plan
plan_kept : (f : ℕ) (part : Part) (h : Bool) (c : Core) → (slot_heard f part h c).plan ≡ c.plan
plan_kept f Opening h c = refl
plan_kept f (DataSlot owner) h c = refl
plan_kept f (Contention i) h c = refl
plan_kept f ClosingSlot h c = refl

said_begins : (S : Setup) (part : Part) (j : ℕ) (m : Option Message) → is_some m ≡ true → (flood_for S part j m).initiated ≡ true
said_begins S part j None is = absurd (true≢false (sym is))
said_begins S part j (Some m) is = refl

-- a round has more slots than its first
some_slots : (p : Plan) → 0 < last_slot p
some_slots p = omega arith

module _ (s : ScenarioParts) (clocks : ℕ → ℕ → ℕ) (air : List Entry) (lawful : IsLawfulRun s clocks air)
    (rank f : ℕ) (in_run : f < s.frames) where
  abbrev Of : ℕ → ℕ → WindowLog → Type 0
  Of j v w = IsWindowOf s clocks air rank f j v w

  module _ (j v : ℕ) (w : WindowLog) (here : Of j v w) (alarm : w.by_alarm ≡ true) where
    member : OfMember s clocks air v (run_end s) w
    member = as_member s clocks air lawful rank f in_run j v w here alarm

    opens : OpensByAlarm s clocks v w
    opens = opens_by s clocks air lawful v w true here.there alarm

    -- a host in slot 0 opens the round, and goes on with its plan
    module _ (first : w.slot ≡ 0) (host : hosts w.before.core.tune ≡ true) where
      led : leads_by (rank_at w.before) w.before.frame w.before.core.tune ≡ true
      led = round_led s clocks v w.before w.before.core.tune
          (subst (λ (i : ℕ). IsRoundOf s clocks v w.before i false w.before.core.tune) first member.member.round)

      now : hosts_now w.before.frame w.before.core ≡ true
      now = hosts_lead w.before.frame w.before.core.tune host led

      abbrev S : Setup
      S = setup_of s v

      says : is_some (initial_message S w) ≡ true
      says =
          ap (λ (i : ℕ). is_some (opened_slot S w.before.frame (part_of w.before.core.plan i) w.before.core).message) first
          ∙ ap (λ (m : Option Message). is_some m) (cond-true (hosts_now w.before.frame w.before.core)
          (Some (ScheduleOf (opening w.before.core.plan))) None now)

      begun : w.last.flood.initiated ≡ true
      begun =
          let flood = floods_of_windows s clocks air (run s clocks air lawful) v
          (known_by s clocks air lawful v w here.there) (run_end s) (omega arith) w here.there in
          let start : (flood_at_first S w.by_alarm w).initiated ≡ true =
          ap (λ (b : Bool). (flood_at_first S b w).initiated) alarm ∙ said_begins S (part_of w.before.core.plan w.slot) w.slot (initial_message S w) says in
          ap (λ (x : FloodState). x.initiated) flood ∙ begun_still (flood_at_first S w.by_alarm w) w.happenings start

      opened_plan : w.after.core.plan ≡ w.before.core.plan
      opened_plan =
          ap (λ (n : Node). n.core.plan) opens.after
          ∙ ap (λ (i : ℕ). (window_opens S w.before i).node.core.plan) first

      same_plan : (c : Closing) → w.closed ≡ Some c → c.after.core.plan ≡ w.before.core.plan
      same_plan c is =
          ap (λ (n : Node). n.core.plan) (closed_as s clocks air lawful v w c here.there is)
          ∙ ap (λ (m : Option Message). (closed_slot S w.after.frame w.last.part w.last.flood.initiated w.after.core m).core.plan)
          (nothing_accepted w.last begun)
          ∙ plan_kept w.after.frame w.last.part w.last.flood.initiated w.after.core
          ∙ opened_plan

      host_planned : IsPlanned s air rank f w.before.core.plan
      host_planned =
          let last = member.last in
          let some = some_slots w.before.core.plan in
          let next = next_of s clocks air lawful rank f in_run j v w here (omega (arith, last, some, first)) in
          let x = next.window in
          let is : OfMember s clocks air v (run_end s) x = of_kind s clocks air lawful v x true next.here.there next.by_alarm in
          let slot = next.here.slot in
          let sent : IsPlanned s air x.rank x.frame x.before.core.plan = is.planned (inr (omega (arith, slot))) in
          let plan : x.before.core.plan ≡ w.before.core.plan = ap (λ (n : Node). n.core.plan) next.node ∙ same_plan next.closing next.closed in
          subst (λ (p : Plan). IsPlanned s air rank f p) plan
          (subst (λ (r : ℕ). IsPlanned s air r f x.before.core.plan) next.here.channel
          (subst (λ (g : ℕ). IsPlanned s air x.rank g x.before.core.plan) next.here.frame sent))

    planned_so : (hosts w.before.core.tune ≡ false) ⊎ (1 ≤ w.slot) → IsPlanned s air rank f w.before.core.plan
    planned_so why =
        subst (λ (r : ℕ). IsPlanned s air r f w.before.core.plan) here.channel
        (subst (λ (g : ℕ). IsPlanned s air w.rank g w.before.core.plan) here.frame (member.planned why))

    by_host : (b : Bool) → hosts w.before.core.tune ≡ b → IsPlanned s air rank f w.before.core.plan
    by_host false is = planned_so (inl is)
    by_host true is = elim (cases_lt 0 w.slot) [ inl behind ↦ planned_so (inr behind) | inr first ↦ host_planned (omega (arith, first)) is ]

    -- the plan of a member was sent for the round
    pub member_planned : IsPlanned s air rank f w.before.core.plan
    member_planned = by_host (hosts w.before.core.tune) refl

  -- the window in which the flood of a scanning node's schedule began
  pub origin_here : (j v : ℕ) (w : WindowLog) (here : Of j v w) (is : OfScanner s clocks air v w) → HasOrigin s clocks air lawful rank f j is.schedule
  origin_here j v w here is =
      subst (λ (i : ℕ). HasOrigin s clocks air lawful rank f i is.schedule) here.slot
      (subst (λ (r : ℕ). HasOrigin s clocks air lawful r f w.slot is.schedule) here.channel
      (subst (λ (g : ℕ). HasOrigin s clocks air lawful w.rank g w.slot is.schedule) here.frame (origin_of s clocks air lawful v w is)))

  -- where a window is in a round by this plan
  pub record IsPlaced (p : Plan) (j : ℕ) (w : WindowLog) : Type 0 where
    pub within : j ≤ last_slot p
    pub more : j < last_slot p → w.slot < w.last.last
    pub last : j ≡ last_slot p → w.last.last ≤ w.slot

  module _ (p : Plan) (planned : IsPlanned s air rank f p) where
    pub plan_is : (j v : ℕ) (w : WindowLog) (here : Of j v w) (alarm : w.by_alarm ≡ true) → w.before.core.plan ≡ p
    plan_is j v w here alarm = one_planned s clocks air (whole s clocks air lawful) rank f w.before.core.plan p (member_planned j v w here alarm) planned

    member_placed : (j v : ℕ) (w : WindowLog) (here : Of j v w) (alarm : w.by_alarm ≡ true) → IsPlaced p j w
    member_placed j v w here alarm =
        let is = member j v w here alarm in
        let same : last_slot w.before.core.plan ≡ last_slot p = ap last_slot (plan_is j v w here alarm) in
        let slot = here.slot in
        let last = is.last in
        let within = is.member.slot in
        record {
          within = omega (arith, slot, within, same);
          more = λ less. omega (arith, slot, last, same, less);
          last = λ end. omega (arith, slot, last, same, end);
        }

    module _ (j v : ℕ) (w : WindowLog) (here : Of j v w) (is : OfScanner s clocks air v w) where
      abbrev origin : HasOrigin s clocks air lawful rank f j is.schedule
      origin = origin_here j v w here is

      placed_by : ((is.schedule.gap ≡ 0) × (j ≡ 0)) ⊎ Closes s clocks air origin.host rank f origin.zero j is.schedule.gap → IsPlaced p j w
      placed_by (inl opens) =
          let same : is.schedule.plan ≡ p = one_planned s clocks air (whole s clocks air lawful) rank f is.schedule.plan p (origin.planned opens.0) planned in
          let last : w.last.last ≡ last_slot p =
          is.last ∙ cond-true (is.schedule.gap == 0) (last_slot is.schedule.plan) w.slot (eq-eqb is.schedule.gap 0 opens.0) ∙ ap last_slot same in
          let some = some_slots p in
          let slot = here.slot in
          let first = opens.1 in
          record {
            within = omega (arith, first);
            more = λ less. omega (arith, slot, last, less);
            last = λ end. absurd (omega (arith, end, first, some));
          }
      placed_by (inr closes) =
          let same : closes.plan ≡ p = one_planned s clocks air (whole s clocks air lawful) rank f closes.plan p closes.planned planned in
          let stands_last : StandsAt closes.plan j ClosingSlot = subst (StandsAt closes.plan j) closes.part (stands closes.plan j) in
          let behind : last_slot p ≤ j = subst (λ (q : Plan). last_slot q ≤ j) same stands_last.1 in
          let there : IsPlaced p j origin.window = member_placed j origin.host origin.window origin.here origin.by_alarm in
          let within = there.within in
          let some = closes.some in
          let last : w.last.last ≡ w.slot =
          is.last ∙ cond-false (is.schedule.gap == 0) (last_slot is.schedule.plan) w.slot (ne_eqb is.schedule.gap 0 (λ none. omega (arith, none, some))) in
          record {
            within = within;
            more = λ less. absurd (omega (arith, less, behind));
            last = λ end. omega (arith, last);
          }

      scanner_placed : IsPlaced p j w
      scanner_placed = placed_by origin.says.part

    placed_as : (j v : ℕ) (w : WindowLog) (here : Of j v w) (b : Bool) → w.by_alarm ≡ b → IsPlaced p j w
    placed_as j v w here true is = member_placed j v w here is
    placed_as j v w here false is = scanner_placed j v w here (of_kind s clocks air lawful v w false here.there is)

    pub placed : (j v : ℕ) (w : WindowLog) (here : Of j v w) → IsPlaced p j w
    placed j v w here = placed_as j v w here w.by_alarm refl
