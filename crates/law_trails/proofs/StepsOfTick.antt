-- A tick, step by step: what each step keeps holds after it.
use Rattle.std.proofs.Common.{◌≡◌, inl, inr, ℕ, zero, suc, ◌<◌, ◌≤◌, List, [], ◌∷◌, ◌++◌, Bool, true, false, ◌==◌, if◌then◌else◌, fold, Some, None, Option}
use Rattle.std.proofs.Common.{Contains, refl, sym, ◌∙◌, ap, subst, arith, eqb-true, true≢false}
use Rattle.std.proofs.lemmas.Bool.{cond_both, cond-false}
use Rattle.std.proofs.lemmas.List.{append_assoc}
use Rattle.std.proofs.lemmas.List.Sums.{fold-append}
use Rattle.std.proofs.lemmas.List.Elements.{All-contains, Contains-append_right}
use Rattle.lwb_base.specs.declared.event.Event.{Event}
use Rattle.lwb_base.specs.declared.event.Event.TheVariants.{Alarm, Heard, Sent}
use Rattle.tick_clock.specs.Clocks.{IsClock}
use Rattle.radio_model.specs.declared.sending.Sending.{Sending}
use Rattle.scenario_text.specs.ScenarioParts.{ScenarioParts}
use Rattle.scenario_text.specs.ScenarioFacts.{IsSoundScenario, IsScriptLine}
use Rattle.bus_rules.specs.declared.act.Act.{Act}
use Rattle.scenario_text.specs.declared.script.ScriptLine.{ScriptLine}
use Rattle.bus_rules.specs.Tuning.{rank_of}
use Rattle.bus_rules.specs.Cores.{Setup}
use Rattle.bus_rules.specs.Slots.{Message, ScheduleOf, DataOf, RequestOf}
use Rattle.bus_rules.specs.States.{switch_of, core_after_act}
use Rattle.lwb_member.specs.Said.{message_of}
use Rattle.node_core.specs.declared.stage.Stage.{Stage}
use Rattle.node_core.specs.declared.stage.Stage.TheVariants.{Idle, Scanning, AwaitFrame, AwaitSlot, InWindow}
use Rattle.node_core.specs.Nodes.{Node}
use Rattle.node_core.specs.Rows.{Stepped, at_alarm, at_heard, at_sent, scanner_hears, joins, sends, orders_by}
use Rattle.air_log.specs.Devices.{Device, Power, PowerOff, PowerOn, Listening, OrderedPacket, obeyed, moved, event, event_by}
use Rattle.air_log.specs.ScriptedDevices.{device_after_act, device_after_line, with_new_core}
use Rattle.air_log.specs.AlarmRuns.{IsAlarmRun, after_alarms}
use Rattle.scenario_text.specs.Setups.{setup_of}
use Rattle.air_log.specs.Trails.{Reception, run_end, lines_at, ending_at, device_after_reception, device_after_end, device_ended_by, alarm_is_due}
use Rattle.air_log.specs.Trails.{device_after_start, begun_by, starts, before_tick}
use Rattle.air_log.proofs.AlarmRuns.{alarms_are_run}
use Rattle.air_log.proofs.DeviceActs.{told, by_act}
use Rattle.air_log.proofs.NextDue.{some_byte}
use Rattle.lwb_base.proofs.Elements.{contains_head, filtered}
use Rattle.law_trails.specs.Phases.{Phase, Lines, Hearings, End, Alarms, Start, Over, device_at, NothingDue, SilentBy, IsNextLineOf, IsNextHearing, IsNextAlarm}
use Rattle.law_trails.specs.Walks.{AwaitsFrame, NoWindow, HasNoWindow, Now, Keeps}
use Rattle.law_trails.proofs.KnownDevices.{line_known, told_known, hearing_known, taken_known, end_known, alarm_known, over_known, begun_known, passed_known}
use Rattle.law_trails.proofs.LinesOfTick.{is_told}
use Rattle.law_trails.proofs.UnmovedDevices.{unmoved}

due_now : (t : ℕ) (alarm : Option ℕ) → alarm_is_due t alarm ≡ true → alarm ≡ Some t
due_now t None due = absurd (true≢false (sym due))
due_now t (Some k) due = ap (λ (i : ℕ). Some i) (eqb-true k t due)

module _ (P : ℕ → Phase → Device → Type 0) (s : ScenarioParts) (v : ℕ) (clock : ℕ → ℕ) (hs : List Reception) (t : ℕ)
    (sound : IsSoundScenario s) (drifts : IsClock clock) (in_run : t < run_end s) (keeps : Keeps P s v clock hs t) where
  abbrev node : Setup
  node = setup_of s v

  abbrev In : Phase → Device → Type 0
  In phase d = Now P s t phase d

  abbrev ToldNext : ScriptLine → Device → Type 0
  ToldNext l d = IsNextLineOf s v clock hs t l d

  abbrev HeardNext : Reception → Device → Type 0
  HeardNext h d = IsNextHearing s v clock hs t h d

  abbrev DueNext : Device → Type 0
  DueNext d = IsNextAlarm s v clock hs t d

  abbrev enters : Phase → Device
  enters phase = device_at s v clock hs t phase

  abbrev after : Event → Option Sending → Device → Node → Option Stepped → Device
  after e x d n r = fold (obeyed clock v t) (moved t e x d n r) (orders_by r)

  abbrev Holds : Phase → Device → Type 0
  Holds phase d = NothingDue t phase d × P t phase d

  now : (phase : Phase) (d : Device) → Holds phase d → In phase d
  now phase d all = record { in_run = in_run; known = all.0; holds = all.1 }

  -- what is left of a device where an event leaves it as it is
  as_it_was : (phase : Phase) (e : Event) (x : Option Sending) (d : Device) (n : Node) → d.power ≡ PowerOn n → NoWindow n.stage
      → P t phase d → P t phase (moved t e x d n None)
  as_it_was phase e x d n on none is = subst (P t phase) (sym (unmoved t e x d n on none)) is

  -- script lines
  by_line : (d : Device) (l : ScriptLine) → In Lines d → ToldNext l d → (a : Act) (p : Power) → l.act ≡ a → d.power ≡ p
      → P t Lines (device_after_act clock node t d a p)
  by_line d l here next =
      by_act clock node t d (λ a p e. l.act ≡ a → d.power ≡ p → P t Lines e) (λ count act on. keeps.boot d l count here next act on) (λ n act on. here.holds)
      (λ count act on. here.holds) (λ n act on. keeps.off d l n here next act on) streamed
    where
      streamed : (a : Act) (p : Power) → switch_of a ≡ None → l.act ≡ a → d.power ≡ p → P t Lines (told d a p)
      streamed a (PowerOff count) other act on = here.holds
      streamed a (PowerOn n) other act on =
          subst (λ (b : Act). P t Lines (with_new_core d n (core_after_act b n.core))) act (keeps.streaming d l n here next (ap switch_of act ∙ other) on)

  lines_from : (told rest : List ScriptLine) (d : Device) → lines_at s v t ≡ told ++ rest
      → d ≡ fold (device_after_line clock node t) (before_tick s v clock hs t) told → Holds Lines d → Holds Lines (fold (device_after_line clock node t) d rest)
  lines_from told [] d lines is all = all
  lines_from told (l ∷ rest) d lines is all =
      let there = subst (λ (ls : List ScriptLine). Contains ls l) (sym lines) (Contains-append_right told (l ∷ rest) l (contains_head l rest)) in
      let of = (is_told s v t l).0 there in
      let next : ToldNext l d = record {
        told = told;
        rest = rest;
        lines = lines;
        is = is;
        there = of.there;
        node = of.node;
        now = of.now;
        line = All-contains (IsScriptLine s) s.script l sound.script of.there;
      } in
      lines_from (told ++ l ∷ []) rest (device_after_line clock node t d l)
      (lines ∙ sym (append_assoc told (l ∷ []) rest))
      (ap (λ (e : Device). device_after_line clock node t e l) is
      ∙ sym (fold-append (device_after_line clock node t) (before_tick s v clock hs t) told (l ∷ [])))
      (line_known clock node t d l all.0, by_line d l (now Lines d all) next l.act d.power refl refl)

  -- receptions
  stays : (d : Device) (h : Reception) (n : Node) → In Hearings d → d.power ≡ PowerOn n → NoWindow n.stage → P t Hearings (after (Heard h.packet) None d n None)
  stays d h n here on none = as_it_was Hearings (Heard h.packet) None d n on none here.holds

  by_message : (d : Device) (h : Reception) (n : Node) → In Hearings d → HeardNext h d → d.power ≡ PowerOn n → n.stage ≡ Scanning
      → (m : Option Message) → message_of h.packet ≡ m → (let r = scanner_hears node n (clock t) h.packet m in P t Hearings (after (Heard h.packet) None d n r))
  by_message d h n here next on stage None says = stays d h n here on (subst NoWindow (sym stage) tt)
  by_message d h n here next on stage (Some (DataOf y)) says = stays d h n here on (subst NoWindow (sym stage) tt)
  by_message d h n here next on stage (Some (RequestOf y)) says = stays d h n here on (subst NoWindow (sym stage) tt)
  by_message d h n here next on stage (Some (ScheduleOf y)) says =
      cond_both (y.plan.rank == rank_of n.core.tune) (Some (joins node n (clock t) h.packet y)) None
      (λ (r : Option Stepped). P t Hearings (after (Heard h.packet) None d n r))
      (λ own. keeps.joining d h n y here next on stage says (eqb-true y.plan.rank (rank_of n.core.tune) own))
      (λ other. stays d h n here on (subst NoWindow (sym stage) tt))

  by_place : (d : Device) (h : Reception) (n : Node) → In Hearings d → HeardNext h d → d.power ≡ PowerOn n → (stage : Stage) → n.stage ≡ stage
      → (let r = at_heard node n (clock t) h.packet stage in P t Hearings (after (Heard h.packet) None d n r))
  by_place d h n here next on Idle stage = stays d h n here on (subst NoWindow (sym stage) tt)
  by_place d h n here next on Scanning stage = by_message d h n here next on stage (message_of h.packet) refl
  by_place d h n here next on AwaitFrame stage = stays d h n here on (subst NoWindow (sym stage) tt)
  by_place d h n here next on (AwaitSlot j) stage = stays d h n here on (subst NoWindow (sym stage) tt)
  by_place d h n here next on (InWindow j w) stage = keeps.hearing d h n j w here next on stage

  by_hearing : (d : Device) (h : Reception) → In Hearings d → HeardNext h d → (p : Power) → d.power ≡ p
      → P t Hearings (event_by clock node t (Heard h.packet) None d p)
  by_hearing d h here next (PowerOff count) on = here.holds
  by_hearing d h here next (PowerOn n) on = by_place d h n here next on n.stage refl

  hearings_from : (taken rest : List Reception) (d : Device) → ending_at t hs ≡ taken ++ rest
      → d ≡ fold (device_after_reception clock node t) (enters Hearings) taken
      → Holds Hearings d → Holds Hearings (fold (device_after_reception clock node t) d rest)
  hearings_from taken [] d hearings is all = all
  hearings_from taken (h ∷ rest) d hearings is all =
      let there = subst (λ (ks : List Reception). Contains ks h) (sym hearings) (Contains-append_right taken (h ∷ rest) h (contains_head h rest)) in
      let of = filtered (λ (k : Reception). k.end == t) hs h there in
      let next : HeardNext h d = record { taken = taken; rest = rest; hearings = hearings; is = is; there = of.0; now = eqb-true h.end t of.1 } in
      hearings_from (taken ++ h ∷ []) rest (device_after_reception clock node t d h)
      (hearings ∙ sym (append_assoc taken (h ∷ []) rest))
      (ap (λ (e : Device). device_after_reception clock node t e h) is
      ∙ sym (fold-append (device_after_reception clock node t) (enters Hearings) taken (h ∷ [])))
      (hearing_known clock node t d h all.0, by_hearing d h (now Hearings d all) next d.power refl)

  -- the end of the own transmission
  module _ (d : Device) (is : d ≡ enters End) (all : Holds End d) where
    here : In End d
    here = now End d all

    abbrev silent_now : Device
    silent_now = record d { sending = None }

    outside : (x : Sending) (n : Node) → d.sending ≡ Some x → x.end ≡ t → d.power ≡ PowerOn n → NoWindow n.stage
        → P t Alarms (after Sent (Some x) silent_now n None)
    outside x n own ends on none =
        as_it_was Alarms Sent (Some x) silent_now n on none (keeps.sent_elsewhere d x here is own ends (subst HasNoWindow (sym on) none))

    sent_at : (x : Sending) (n : Node) → d.sending ≡ Some x → x.end ≡ t → d.power ≡ PowerOn n → (stage : Stage) → n.stage ≡ stage
        → (let r = at_sent n stage in P t Alarms (after Sent (Some x) silent_now n r))
    sent_at x n own ends on Idle stage = outside x n own ends on (subst NoWindow (sym stage) tt)
    sent_at x n own ends on Scanning stage = outside x n own ends on (subst NoWindow (sym stage) tt)
    sent_at x n own ends on AwaitFrame stage = outside x n own ends on (subst NoWindow (sym stage) tt)
    sent_at x n own ends on (AwaitSlot j) stage = outside x n own ends on (subst NoWindow (sym stage) tt)
    sent_at x n own ends on (InWindow j w) stage =
        cond_both w.flood.waiting (Some (sends n j w)) None (λ (r : Option Stepped). P t Alarms (after Sent (Some x) silent_now n r))
        (λ waits. keeps.sent d x n j w here is own ends on stage waits)
        (λ idle. keeps.late_sent d x n j w here is own ends on stage idle)

    sent_by : (x : Sending) → d.sending ≡ Some x → x.end ≡ t → (p : Power) → d.power ≡ p → P t Alarms (event_by clock node t Sent (Some x) silent_now p)
    sent_by x own ends (PowerOff count) on = keeps.sent_elsewhere d x here is own ends (subst HasNoWindow (sym on) tt)
    sent_by x own ends (PowerOn n) on = sent_at x n own ends on n.stage refl

    -- nothing ends
    runs_on : device_after_end clock node t d ≡ d → P t Alarms (device_after_end clock node t d)
    runs_on same =
        let at : d ≡ enters Alarms = sym same ∙ ap (device_after_end clock node t) is in
        subst (P t Alarms) (sym same) (keeps.onwards End d here at (subst (NothingDue t Alarms) same (end_known clock node t d all.0)))

    end_by : (x : Option Sending) → d.sending ≡ x → P t Alarms (device_ended_by clock node t d x)
    end_by None own = subst (λ (x : Option Sending). P t Alarms (device_ended_by clock node t d x)) own (runs_on (ap (device_ended_by clock node t d) own))
    end_by (Some x) own = of_test (x.end == t) refl
      where
        of_test : (b : Bool) → (x.end == t) ≡ b → P t Alarms (if b then event clock node t Sent (Some x) silent_now else d)
        of_test true ends = sent_by x own (eqb-true x.end t ends) d.power refl
        of_test false runs =
            let same : device_after_end clock node t d ≡ d =
            ap (device_ended_by clock node t d) own ∙ cond-false (x.end == t) (event clock node t Sent (Some x) silent_now) d runs in
            subst (P t Alarms) same (runs_on same)

    pub end_holds : Holds Alarms (device_after_end clock node t d)
    end_holds = (end_known clock node t d all.0, end_by d.sending refl)

  -- alarms
  alarm_at : (d : Device) (n : Node) → In Alarms d → DueNext d → d.power ≡ PowerOn n → (stage : Stage) → n.stage ≡ stage
      → (let r = at_alarm node n stage in P t Alarms (after Alarm None (record d { alarm = None }) n r))
  alarm_at d n here next on Idle stage =
      as_it_was Alarms Alarm None (record d { alarm = None }) n on (subst NoWindow (sym stage) tt) (keeps.alarm_elsewhere d n here next on stage)
  alarm_at d n here next on Scanning stage = keeps.frame_alarm d n here next on (subst AwaitsFrame (sym stage) tt)
  alarm_at d n here next on AwaitFrame stage = keeps.frame_alarm d n here next on (subst AwaitsFrame (sym stage) tt)
  alarm_at d n here next on (AwaitSlot j) stage = keeps.opening d n j here next on stage
  alarm_at d n here next on (InWindow j w) stage = keeps.closing d n j w here next on stage

  alarm_by : (d : Device) → In Alarms d → DueNext d → (p : Power) → d.power ≡ p → SilentBy d p
      → P t Alarms (event_by clock node t Alarm None (record d { alarm = None }) p)
  alarm_by d here next (PowerOff count) on silent = absurd (unset (sym next.due ∙ silent.alarm))
    where
      unset : Some t ≡ None → ⊥
      unset is = cc
  alarm_by d here next (PowerOn n) on silent = alarm_at d n here next on n.stage refl

  alarms_upto : (e : Device) (run : IsAlarmRun clock node t (enters Alarms) e) → Holds Alarms (enters Alarms)
      → (k : ℕ) → k ≤ run.count → Holds Alarms (after_alarms clock node t k (enters Alarms))
  alarms_upto e run all zero within = all
  alarms_upto e run all (suc k) within =
      let d = after_alarms clock node t k (enters Alarms) in
      let so_far = alarms_upto e run all k (omega (arith, within)) in
      let next : DueNext d = record { gone = k; is = refl; due = due_now t d.alarm (run.due k (omega (arith, within))) } in
      (alarm_known clock node t d so_far.0, alarm_by d (now Alarms d so_far) next d.power refl so_far.0.off)

  -- the start of the ordered transmission
  module _ (d : Device) (is : d ≡ enters Start) (all : Holds Start d) where
    ready : In Start d
    ready = now Start d all

    known_over : NothingDue t Over (device_after_start node t d)
    known_over = begun_known clock node t (some_byte s v clock hs sound drifts) d all.0

    start_by : (o : OrderedPacket) → d.ordered ≡ Some o → o.tick ≡ t → (l : Option Listening) (x : Option Sending) → d.listening ≡ l → d.sending ≡ x
        → P t Over (starts node t o.packet d l x)
    start_by o order due None x on own = keeps.missed_start d o ready is order due (inl on)
    start_by o order due (Some l) (Some x) on own = keeps.missed_start d o ready is order due (inr (x, own))
    start_by o order due (Some l) None on own = keeps.beginning d o l ready is order due on own

    waits_on : device_after_start node t d ≡ d → P t Over (device_after_start node t d)
    waits_on same =
        let at : d ≡ enters Over = sym same ∙ ap (device_after_start node t) is in
        subst (P t Over) (sym same) (keeps.onwards Start d ready at (subst (NothingDue t Over) same known_over))

    order_by : (o : Option OrderedPacket) → d.ordered ≡ o → P t Over (begun_by node t d o)
    order_by None order = subst (λ (o : Option OrderedPacket). P t Over (begun_by node t d o)) order (waits_on (ap (begun_by node t d) order))
    order_by (Some o) order = of_test (o.tick == t) refl
      where
        of_test : (b : Bool) → (o.tick == t) ≡ b → P t Over (if b then starts node t o.packet d d.listening d.sending else d)
        of_test true due = start_by o order (eqb-true o.tick t due) d.listening d.sending refl refl
        of_test false waits =
            let same : device_after_start node t d ≡ d =
            ap (begun_by node t d) order ∙ cond-false (o.tick == t) (starts node t o.packet d d.listening d.sending) d waits in
            subst (P t Over) same (waits_on same)

    pub start_holds : Holds Over (device_after_start node t d)
    start_holds = (known_over, order_by d.ordered refl)

  -- the whole tick
  pub record HoldsAll : Type 0 where
    pub lines : Holds Lines (enters Lines)
    pub hearings : Holds Hearings (enters Hearings)
    pub end : Holds End (enters End)
    pub alarms : Holds Alarms (enters Alarms)
    pub start : Holds Start (enters Start)
    pub over : Holds Over (enters Over)

  pub all_hold : NothingDue t Lines (before_tick s v clock hs t) → P t Lines (before_tick s v clock hs t) → HoldsAll
  all_hold known holds =
      let d0 = enters Lines in
      let d1 = enters Hearings in
      let d2 = enters End in
      let d3 = enters Alarms in
      let d4 = enters Start in
      let told = lines_from [] (lines_at s v t) d0 refl refl (known, holds) in
      let known1 = told_known clock node t d1 told.0 in
      let one : Holds Hearings d1 = (known1, keeps.onwards Lines d1 (now Lines d1 told) refl known1) in
      let taken = hearings_from [] (ending_at t hs) d1 refl refl one in
      let known2 = taken_known clock node t d2 taken.0 in
      let two : Holds End d2 = (known2, keeps.onwards Hearings d2 (now Hearings d2 taken) refl known2) in
      let three : Holds Alarms d3 = end_holds d2 refl two in
      let run = alarms_are_run s v clock hs t sound drifts (omega (arith, in_run)) in
      let gone : Holds Alarms d4 = subst (Holds Alarms) (sym run.is) (alarms_upto d4 run three run.count (omega arith)) in
      let known4 = over_known clock node t d4 run.over gone.0 in
      let four : Holds Start d4 = (known4, keeps.onwards Alarms d4 (now Alarms d4 gone) refl known4) in
      record { lines = (known, holds); hearings = one; end = two; alarms = three; start = four; over = start_holds d4 refl four }

  pub next_holds : HoldsAll → Holds Over (enters Over) → (let d = before_tick s v clock hs (suc t) in NothingDue (suc t) Lines d × P (suc t) Lines d)
  unfolding before_tick
  next_holds all over =
      let d = enters Over in
      (passed_known clock node t d over.0, keeps.passing d (now Over d over) refl)
