-- A slot that is a run of the flood theorem: its windows have accepted and initiated what their nodes do on the bus.
use Rattle.std.proofs.Common.{◌≡◌, ℕ, ◌≤◌, List, [], ◌∷◌, Bool, true, false, if◌then◌else◌, Some, None, Option, IfSome, inl, inr, is_some, fold}
use Rattle.std.proofs.Common.{slice_set, option_and_then, refl, sym, ◌∙◌, ap, subst, arith, true≢false}
use Rattle.std.proofs.lemmas.Bool.{cases_Bool, false≢true}
use Rattle.lwb_base.specs.Messages.{Plan}
use Rattle.lwb_base.proofs.Options.{some_is}
use Rattle.glossy_relay.specs.FloodState.{FloodState}
use Rattle.glossy_relay.specs.Relaying.{accepted_of, after_heard}
use Rattle.glossy_relay.proofs.CountedPackets.{begun_here}
use Rattle.bus_rules.specs.declared.part.Part.{Part}
use Rattle.bus_rules.specs.Cores.{Setup, is_member}
use Rattle.bus_rules.specs.Slots.{Message, Opened, part_of, opened_slot}
use Rattle.bus_rules.specs.States.{State, StateOff, StateOn}
use Rattle.lwb_member.specs.Said.{MaySay, message_of}
use Rattle.node_core.specs.Rows.{flood_for}
use Rattle.scenario_text.specs.ScenarioParts.{ScenarioParts}
use Rattle.scenario_text.specs.FloodParts.{knows}
use Rattle.air_log.specs.declared.entry.Entry.{Entry}
use Rattle.scenario_text.specs.Setups.{setup_of}
use Rattle.air_log.specs.Trails.{run_end}
use Rattle.air_log.specs.WindowLogs.{WindowLog, Happening, HeardAt, SentAt}
use Rattle.law_trails.proofs.HeedfulLogs.{lawful_is_heedful}
use Rattle.law_trails.proofs.OtherCounters.{told_again}
use Rattle.law_safety.specs.Invariant.{IsObedientRun}
use Rattle.law_windows.specs.WindowFloods.{initial_message as said_on_air, flood_at_first, after_happening}
use Rattle.law_windows.proofs.WindowFacts.{floods_of_windows, one_a_slot, open_by_rows}
use Rattle.bus_terms.specs.FloodOfText.{ids}
use Rattle.bus_terms.specs.Flooding.{Setting, Accepts, accepted, has}
use Rattle.bus_terms.specs.Rounds.{Slot, accepted_at, before_slot, opened_at, message_said}
use Rattle.bus_terms.specs.Rounds.{takes_part as takes_part_by}
use Rattle.bus_terms.specs.Bus.{state_at}
use Rattle.bus_terms.proofs.FirstHearings.{accepted_first, heard_in_time}
use Rattle.bus_terms.proofs.ReceivedByPaths.{in_whole, of_filtered}
use Rattle.bus_terms.proofs.ReceivedInRounds.{accepted_none}
use Rattle.lwb_flood.specs.FloodRun.{Run, initiates, packet, IsParticipant}
use Rattle.lwb_flood.specs.FloodBySteps.{IsFloodBySteps, flood_at_end}
use Rattle.lwb_flood.proofs.LogEntries.{ids_known}
use Rattle.law_terms.specs.LawfulRuns.{IsLawfulRun}
use Rattle.bus_terms.specs.HostedRounds.{slot_in}
use Rattle.law_terms.specs.SlotLaws.{HasWindow, IsWindowOf, Says}
use Rattle.law_terms.specs.SlotRuns.{IsRunOf, RunsLaw}
use Rattle.law_terms.specs.SlotSteps.{IsSlotHeard, IsSlotStart, SlotHeardLaw}
use Rattle.law_terms.proofs.SlotSends.{accepts_same, listener, sends_same}
use Rattle.law_bus.specs.FloodedSlots.{StartedSlotLaw}
use Rattle.bus_terms.proofs.HeardOrigins.{heard_origin}
use Rattle.law_bus.proofs.SayableWindows.{sayable}

not_both : (o : Option (List ℕ × ℕ)) (a : List ℕ × ℕ) → o ≡ None → o ≡ Some a → ⊥
not_both o a none some = cc

-- what happens leaves an initiator one
leaves : (t : FloodState) (es : List Happening) → (fold after_happening t es).initiated ≡ t.initiated
leaves t [] = refl
leaves t (HeardAt tick q ∷ es) = leaves (after_heard t q) es ∙ begun_here t q
leaves t (SentAt tick q ∷ es) = leaves (after_happening t (SentAt tick q)) es

-- a window that opens by its alarm initiates where its node says something
begun_by : (s : Setup) (part : Part) (j : ℕ) (o : Option Message) → (flood_for s part j o).initiated ≡ is_some o
begun_by s part j None = refl
begun_by s part j (Some m) = refl

-- what was accepted, as a message
abbrev read : Option (List ℕ × ℕ) → Option Message
read a = option_and_then (λ (b : List ℕ × ℕ). message_of b.0) a

module _ (s : ScenarioParts) (clocks : ℕ → ℕ → ℕ) (air : List Entry) (lawful : IsLawfulRun s clocks air) (rank f : ℕ) (p : Plan) (j : ℕ)
    (start : IsSlotStart s clocks air rank f p j) where
  run : IsObedientRun s clocks air
  run = record { driven = record { sound = lawful.sound; drift = lawful.drift }; heedful = lawful_is_heedful s clocks air lawful.lawful }

  abbrev x : Slot
  x = slot_in s rank f p j

  abbrev states : ℕ → State
  states = before_slot s rank f p (state_at s f) j

  abbrev Of : ℕ → WindowLog → Type 0
  Of v w = IsWindowOf s clocks air rank f j v w

  -- a member's window says on the bus what it says in the log
  module _ (v : ℕ) (known : knows s.nodes v ≡ true) (w : WindowLog) (here : Of v w) (alarm : w.by_alarm ≡ true) where
    abbrev S : Setup
    S = setup_of s v

    window_is : x.window v ≡ Some (opened_slot (setup_of s v) f (part_of p j) w.before.core)
    window_is = ap (opened_at s rank f (part_of p j) v) (start.core v w here alarm) ∙ rw (start.member v w here alarm) refl

    part_is : part_of w.before.core.plan w.slot ≡ part_of p j
    part_is = ap (λ (q : Plan). part_of q w.slot) (start.plan v w here alarm) ∙ ap (part_of p) here.slot

    frame_is : w.before.frame ≡ f
    frame_is = (open_by_rows s clocks air run v known (run_end s) (omega arith) w here.there).frame_before ∙ here.frame

    said_same : message_said (x.window v) ≡ said_on_air S w
    said_same =
        ap (λ (o : Option Opened). message_said o) window_is
        ∙ ap (λ (g : ℕ). (opened_slot S g (part_of p j) w.before.core).message) (sym frame_is)
        ∙ ap (λ (k : Part). (opened_slot S w.before.frame k w.before.core).message) (sym part_is)

  -- who says something has such a window
  says_in_window : (v : ℕ) → knows s.nodes v ≡ true → is_some (message_said (x.window v)) ≡ true → HasWindow s clocks air rank f j v
  says_in_window v known some = by_state (states v) refl some
    where
      by_state : (y : State) → states v ≡ y → is_some (message_said (opened_at s rank f (part_of p j) v y)) ≡ true → HasWindow s clocks air rank f j v
      by_state (StateOff boots) at is = absurd (false≢true is)
      by_state (StateOn c) at is = elim (cases_Bool (is_member rank f c)) [
        | inl takes ↦ start.window v c known at takes
        | inr other ↦ absurd (false≢true (ap
            (λ (b : Bool). is_some (message_said (if b then Some (opened_slot (setup_of s v) f (part_of p j) c) else None))) (sym other) ∙ is))
      ]

  -- a window initiated where its node says something on the bus
  begun_at : (v : ℕ) → knows s.nodes v ≡ true → (w : WindowLog) → Of v w → (b : Bool) → w.by_alarm ≡ b
      → (flood_at_first (setup_of s v) b w).initiated ≡ is_some (message_said (x.window v))
  begun_at v known w here true alarm =
      begun_by (setup_of s v) (part_of w.before.core.plan w.slot) w.slot (said_on_air (setup_of s v) w)
      ∙ ap (λ (o : Option Message). is_some o) (sym (said_same v known w here alarm))
  begun_at v known w here false hears = elim (cases_Bool (is_some (message_said (x.window v)))) [
    | inr none ↦ sym none
    | inl some ↦ (
        let has = says_in_window v known some in
        let same : w ≡ has.window =
        one_a_slot s clocks air run v known (run_end s) (omega arith) w has.window here.there has.here.there
        (record { rank = here.channel ∙ sym has.here.channel; frame = here.frame ∙ sym has.here.frame; slot = here.slot ∙ sym has.here.slot }) in
        absurd (true≢false (sym has.by_alarm ∙ ap (λ (y : WindowLog). y.by_alarm) (sym same) ∙ hears))
        )
  ]

  initiated_same : (v : ℕ) → knows s.nodes v ≡ true → (w : WindowLog) → Of v w → w.last.flood.initiated ≡ is_some (message_said (x.window v))
  initiated_same v known w here =
      ap (λ (t : FloodState). t.initiated) (floods_of_windows s clocks air run v known (run_end s) (omega arith) w here.there)
      ∙ leaves (flood_at_first (setup_of s v) w.by_alarm w) w.happenings
      ∙ begun_at v known w here w.by_alarm refl

  module _ (r : Run) (is : IsRunOf s clocks air rank f p j r) (steps : IsFloodBySteps r) where
    -- who takes part is a node
    part_known : (v : ℕ) → IsParticipant r v → knows s.nodes v ≡ true
    part_known v here =
        sym (ids_known s.nodes v)
        ∙ in_whole (λ u. takes_part_by rank (part_of p j) (states u) (x.window u)) (ids s.nodes) v
        (ap (λ (g : Setting). has g.everyone v) (sym is.setting) ∙ here)

    -- an initiator says something, which may be said
    record HasSaid (o : ℕ) : Type 0 where
      message : Message
      said : Says s rank f p j o message
      may : MaySay j message

    has_said : (o : ℕ) → initiates r o → HasSaid o
    has_said o begun =
        let there : has x.flood.initiators o ≡ true = ap (λ (g : Setting). has g.initiators o) (sym is.setting) ∙ begun in
        let known = sym (ids_known s.nodes o) ∙ in_whole (λ u. is_some (message_said (x.window u))) (ids s.nodes) o there in
        let some = of_filtered (λ u. is_some (message_said (x.window u))) (ids s.nodes) o there in
        let m = some_is (message_said (x.window o)) some in
        let has_one = says_in_window o known some in
        let w = has_one.window in
        let on_air : said_on_air (setup_of s o) w ≡ Some m.0 = sym (said_same o known w has_one.here has_one.by_alarm) ∙ m.1 in
        record {
          message = m.0;
          said = (there, m.1);
          may = subst (λ (i : ℕ). MaySay i m.0) has_one.here.slot
              (subst (λ (q : Option Message). IfSome q (MaySay w.slot)) on_air
              (sayable s clocks air run o known (run_end s) (omega arith) w has_one.here.there has_one.by_alarm));
        }

    -- its packet says the same with each counter
    reads : (o k : ℕ) (h : HasSaid o) → k ≤ 11 → message_of (packet r o k) ≡ Some h.message
    reads o k h few =
        ap (λ (q : List ℕ). message_of (slice_set q 2 k)) (is.message o h.message h.said)
        ∙ told_again h.message j k h.may few

    -- what is accepted on the bus is accepted in the log
    on_run : (v o k : ℕ) → Accepts x.flood v o k → Accepts r.setting v o k
    on_run v o k a = subst (λ (g : Setting). Accepts g v o k) (sym is.setting) a

    on_air : (v o k : ℕ) → Accepts r.setting v o k → accepted_of (flood_at_end r v) ≡ Some (packet r o k, k)
    on_air v o k a = (steps.accepts v k o a.here a.listens (heard_origin r.setting k v o a.hears)).1 a

    nothing_accepted : (v : ℕ) → ((o k : ℕ) → Accepts x.flood v o k → ⊥) → accepted_at x v ≡ None
    nothing_accepted v none = ap (λ (q : Option (ℕ × ℕ)). option_and_then (λ b. message_said (x.window b.0)) q) (accepted_none x.flood v none)

    accepted_same : (v : ℕ) → IsParticipant r v → read (accepted_of (flood_at_end r v)) ≡ accepted_at x v
    accepted_same v here = by_flood (accepted_of (flood_at_end r v)) refl
      where
        by_flood : (a : Option (List ℕ × ℕ)) → accepted_of (flood_at_end r v) ≡ a → read a ≡ accepted_at x v
        by_flood None none =
            sym (nothing_accepted v (λ o k a. not_both (accepted_of (flood_at_end r v)) (packet r o k, k) none (on_air v o k (on_run v o k a))))
        by_flood (Some a) some =
            let by = steps.accepts_only v a.0 a.1 here (listener r v a some) some in
            let o = by.0 in
            let h = has_said o by.1 in
            let in_time = heard_in_time r.setting a.1 v o by.3.hears in
            let on_bus : ◌≡◌ {A = Option (ℕ × ℕ)} (accepted x.flood v) (Some (o, a.1)) =
            (accepted_first x.flood v o a.1).1 (subst (λ (g : Setting). Accepts g v o a.1) is.setting by.3) in
            ap message_of by.2 ∙ reads o a.1 h (omega (arith, in_time))
            ∙ sym h.said.1
            ∙ sym (ap (λ (q : Option (ℕ × ℕ)). option_and_then (λ b. message_said (x.window b.0)) q) on_bus)

    heard_slot : IsSlotHeard s clocks air rank f p j
    heard_slot = record {
      accepted = λ v w here closed.
          ap (λ (t : FloodState). read (accepted_of t)) (sym (is.flood v w here closed)) ∙ accepted_same v (is.part v w here);
      initiated = λ v w here. initiated_same v (part_known v (is.part v w here)) w here;
      deaf = λ v known none. nothing_accepted v (λ o k a.
          (let on = on_run v o k a in
          let c = is.closes v on.here (ap (λ (q : Option (List ℕ × ℕ)). is_some q) (on_air v o k on)) in
          none c.window c.here));
    }

pub slots_heard : RunsLaw → SlotHeardLaw
slots_heard runs s clocks air lawful rank f j p round within start =
    let found = runs s clocks air lawful rank f j p round within start in
    heard_slot s clocks air lawful rank f p j start found.0 found.1 found.2

pub slots_started : RunsLaw → StartedSlotLaw
slots_started runs s clocks air lawful rank f j p round within start =
    let found = runs s clocks air lawful rank f j p round within start in
    record {
      sends = λ v k o m says few. sends_same s clocks air rank f p j found.0 found.1 found.2 v k o m says few;
      accepts = λ v k o m says few. accepts_same s clocks air rank f p j found.0 found.1 found.2 v k o m says few;
    }
