-- With another counter the nodes of a slot send exactly what their floods relay.
use Rattle.std.proofs.Common.{◌≡◌, ◌≢◌, ℕ, ◌+◌, ◌==◌, Bool, true, false, if◌then◌else◌, List, [], Some, None, Option, inl, inr, Contains, refl, sym}
use Rattle.std.proofs.Common.{◌∙◌, ap, subst, true≢false, slice_index}
use Rattle.std.specs.Prelude.{unwrap_or}
use Rattle.lwb_base.specs.Messages.{Plan}
use Rattle.tick_clock.specs.Clocks.{due}
use Rattle.lwb_packets.specs.Kinds.{kind_by}
use Rattle.lwb_packets.specs.declared.kind.Kind as Kind
use Rattle.glossy_relay.specs.FloodState.{FloodState, listening, kind_named}
use Rattle.bus_rules.specs.declared.part.Part.{Part}
use Rattle.bus_rules.specs.Slots.{Message, ScheduleOf, DataOf, RequestOf, part_of}
use Rattle.lwb_member.specs.Places.{kind_for}
use Rattle.lwb_member.specs.Said.{bytes_of}
use Rattle.node_core.specs.Rows.{flood_for}
use Rattle.scenario_text.specs.ScenarioParts.{ScenarioParts}
use Rattle.radio_model.specs.declared.sending.Sending.{Sending}
use Rattle.air_log.specs.declared.entry.Entry.{Entry}
use Rattle.air_log.specs.Lawful.{trail_in}
use Rattle.air_log.specs.NodeEvents.{Event, Heard, EventOccasion, event_occasions}
use Rattle.scenario_text.specs.Setups.{setup_of}
use Rattle.air_log.specs.WindowLogs.{WindowLog}
use Rattle.lwb_base.proofs.Elements.{not_in_none}
use Rattle.law_trails.proofs.OtherCounters.{first_place}
use Rattle.law_windows.specs.WindowFloods.{flood_at_first, initial_message}
use Rattle.law_windows.specs.WindowParts.{SendsAt}
use Rattle.bus_terms.specs.Flooding.{has}
use Rattle.lwb_flood.specs.FloodRun.{Run, IsParticipant, counter, sending_of_run, flood_at_beginning, RelayedInRun, HasSendings}
use Rattle.law_terms.specs.LawfulRuns.{IsLawfulRun}
use Rattle.bus_terms.specs.HostedRounds.{slot_in}
use Rattle.law_terms.specs.SlotLaws.{IsRound, IsWindowOf}
use Rattle.law_terms.specs.SlotSteps.{IsSlotStart}
use Rattle.law_bus.proofs.RunsOfLogs.{known_by}
use Rattle.law_bus.proofs.SlotsAtNodes.{look_up}
use Rattle.law_bus.specs.SlotRun.{AreEvents, run_of_slot}
use Rattle.law_bus.proofs.SentInSlots.{begins_as_said, caller, here_so, sent_at}
use Rattle.law_bus.proofs.SlotEvents.{same_window}
use Rattle.law_bus.proofs.SlotSpeakers.{IsSpeaker, speaker, speaks, part_is, message_is}
use Rattle.law_bus.proofs.SlotStarts.{is_of_window}
use Rattle.law_bus.proofs.SlotWindows.{KindIs, said_kind, schedule_kind, schedule_slot, window_takes}

-- what is said names the kind of its slot
schedule_named : (b : Bool) → unwrap_or (kind_by (if b then 1 else 4)) Kind.TheVariants.Payload ≡ Kind.TheVariants.Schedule
schedule_named true = refl
schedule_named false = refl

pub named_kind : (part : Part) (m : Message) (j : ℕ) → KindIs part (Some m) → kind_named (bytes_of m j) ≡ kind_for part
named_kind part (ScheduleOf x) j is = schedule_named (x.plan.contend == 0) ∙ sym is
named_kind part (DataOf d) j is = sym is
named_kind part (RequestOf a) j is = sym is

module _ (s : ScenarioParts) (clocks : ℕ → ℕ → ℕ) (air : List Entry) (lawful : IsLawfulRun s clocks air)
    (rank f j : ℕ) (p : Plan) (round : IsRound s rank f p) (start : IsSlotStart s clocks air rank f p j)
    (events : ℕ → List Event) (are : AreEvents s clocks air rank f j events) where
  abbrev r : Run
  r = run_of_slot s clocks air rank f p j events

  abbrev Of : ℕ → WindowLog → Type 0
  Of v w = IsWindowOf s clocks air rank f j v w

  abbrev pub starting_by : ℕ → Bool → FloodState
  starting_by v b = record {
    kind = r.kind;
    slot = j;
    limit = s.sends;
    sent = 0;
    waiting = b;
    initiated = b;
    first = if b then Some (r.message v) else None;
  }

  abbrev pub initiates_by : ℕ → Bool
  initiates_by v = has (slot_in s rank f p j).flood.initiators v

  pub begins_by : (v : ℕ) (b : Bool) → initiates_by v ≡ b → flood_at_beginning r v ≡ starting_by v b
  begins_by v b is = ap (starting_by v) is

  abbrev first_of : ℕ → WindowLog → Bool → FloodState
  first_of v w b = flood_at_first (setup_of s v) b w

  abbrev listens_to : Kind.Kind → ℕ → FloodState
  listens_to kind slot = listening kind slot s.sends

  -- who says something
  speaking : (v : ℕ) (w : WindowLog) → Of v w → initiates_by v ≡ true → starting_by v true ≡ first_of v w w.by_alarm
  speaking v w here is =
      let who : IsSpeaker s clocks air lawful rank f j p round.in_run start v = speaker s clocks air lawful rank f j p round.in_run start v is in
      let same : who.window ≡ w = same_window s clocks air lawful rank f j round.in_run v who.window w who.here here in
      let alarm : w.by_alarm ≡ true = ap (λ (x : WindowLog). x.by_alarm) (sym same) ∙ who.by_alarm in
      let said : initial_message (setup_of s v) w ≡ Some who.message = ap (λ (x : WindowLog). initial_message (setup_of s v) x) (sym same) ∙ who.said in
      let m = who.message in
      let k : KindIs (part_of w.before.core.plan w.slot) (Some m) = subst (KindIs (part_of w.before.core.plan w.slot)) said
      (said_kind (setup_of s v) w.before.frame (part_of w.before.core.plan w.slot) w.before.core) in
      let kind : r.kind ≡ kind_named (bytes_of m w.slot) =
      ap kind_for (sym (part_is s clocks air lawful rank f j p round.in_run start v w here alarm))
      ∙ sym (named_kind (part_of w.before.core.plan w.slot) m w.slot k) in
      let message : r.message v ≡ bytes_of m w.slot =
      message_is s clocks air lawful rank f j p round.in_run start events are v who ∙ ap (bytes_of m) (sym here.slot) in
      let slot : j ≡ slice_index (bytes_of m w.slot) 1 = sym here.slot ∙ sym (first_place m w.slot).0 in
      ap (λ (q : List ℕ). record { kind = r.kind; slot = j; limit = s.sends; sent = 0; waiting = true; initiated = true; first = Some q }) message
      ∙ ap (λ (i : ℕ). record { kind = r.kind; slot = i; limit = s.sends; sent = 0; waiting = true; initiated = true; first = Some (bytes_of m w.slot) }) slot
      ∙ ap (λ (l : Kind.Kind). record {
        kind = l;
        slot = slice_index (bytes_of m w.slot) 1;
        limit = s.sends;
        sent = 0;
        waiting = true;
        initiated = true;
        first = Some (bytes_of m w.slot);
      }) kind
      ∙ ap (flood_for (setup_of s v) (part_of w.before.core.plan w.slot) w.slot) (sym said)
      ∙ ap (first_of v w) (sym alarm)

  -- and who does not
  silent_said : (v : ℕ) (w : WindowLog) → Of v w → w.by_alarm ≡ true → initiates_by v ≡ false → (o : Option Message) → initial_message (setup_of s v) w ≡ o
      → o ≡ None
  silent_said v w here alarm is None said = refl
  silent_said v w here alarm is (Some m) said =
      let known = known_by s clocks air lawful v w here.there in
      absurd (true≢false (sym (speaks s clocks air lawful rank f j p round.in_run start v w m known here alarm said) ∙ is))

  listening_so : (v : ℕ) (w : WindowLog) → Of v w → initiates_by v ≡ false → (b : Bool) → w.by_alarm ≡ b → starting_by v false ≡ first_of v w b
  listening_so v w here is true alarm =
      ap (λ (k : Part). listens_to (kind_for k) j) (sym (part_is s clocks air lawful rank f j p round.in_run start v w here alarm))
      ∙ ap (listens_to (kind_for (part_of w.before.core.plan w.slot))) (sym here.slot)
      ∙ ap (flood_for (setup_of s v) (part_of w.before.core.plan w.slot) w.slot) (sym (silent_said v w here alarm is (initial_message (setup_of s v) w) refl))
  listening_so v w here is false hears =
      ap (λ (k : Kind.Kind). listens_to k j) (schedule_kind (part_of p j) (schedule_slot s clocks air lawful rank f j p round start v w here hears))
      ∙ ap (listens_to Kind.TheVariants.Schedule) (sym here.slot)

  first_by : (v : ℕ) (w : WindowLog) → Of v w → (b : Bool) → initiates_by v ≡ b → flood_at_beginning r v ≡ first_of v w w.by_alarm
  first_by v w here true is = begins_by v true is ∙ speaking v w here is
  first_by v w here false is = begins_by v false is ∙ listening_so v w here is w.by_alarm refl

  -- the flood of a window begins as the run says
  pub begins_so : (v : ℕ) (w : WindowLog) → Of v w → flood_at_beginning r v ≡ flood_at_first (setup_of s v) w.by_alarm w
  begins_so v w here = first_by v w here (initiates_by v) refl

  relayed_by : (v tick : ℕ) (q : List ℕ) (is : RelayedInRun r v (sending_of_run r v tick q)) (w : WindowLog) → Of v w
      → Contains r.sendings (sending_of_run r v tick q)
  relayed_by v tick q is w here =
      let played = are.by_window v w here in
      let first = begins_so v w here in
      let o : EventOccasion = record { before = is.flood; event = Heard is.heard } in
      let there : Contains (event_occasions (flood_at_first (setup_of s v) w.by_alarm w) played.part.has.events) o =
      subst (λ (es : List Event). Contains (event_occasions (flood_at_first (setup_of s v) w.by_alarm w) es) o) (sym played.same)
      (subst (λ (g : FloodState). Contains (event_occasions g (events v)) o) first is.occasion) in
      let sends : SendsAt s clocks air v w (due (clocks v) (clocks v is.heard.end + s.profile.turn)) q =
      played.part.relayed is.heard is.flood q there is.answer in
      sent_at s clocks air lawful rank f j p round.in_run start events are sends.sending
      (sends.there, is_of_window s clocks air lawful rank f j p round.in_run start events are v w here sends.sending sends.of_slot)
      v tick q sends.node (sends.at ∙ sym is.start) sends.packet_is

  relayed_so : (v tick : ℕ) (q : List ℕ) → RelayedInRun r v (sending_of_run r v tick q) → Contains r.sendings (sending_of_run r v tick q)
  relayed_so v tick q is =
      elim (look_up rank f j (trail_in s clocks air v).made.windows) [
        | inl own ↦ relayed_by v tick q is own.window (record { there = own.there; frame = own.frame; channel = own.channel; slot = own.slot })
        | inr none ↦ (
            let empty : events v ≡ [] = are.without v (λ w here. none w here.there here.frame here.channel here.slot) in
            let o : EventOccasion = record { before = is.flood; event = Heard is.heard } in
            absurd (not_in_none o (subst (λ (es : List Event). Contains (event_occasions (flood_at_beginning r v) es) o) empty is.occasion))
            )
      ]

  relays_so : (x : Sending) → Contains r.sendings x → counter x ≢ 0 → IsParticipant r x.node × RelayedInRun r x.node x
  relays_so x there more =
      let is = here_so s clocks air lawful rank f j p round.in_run start events are x there in
      let from = caller s clocks air lawful rank f j p round.in_run start events are x is in
      let w = from.window in
      let played = are.by_window x.node w from.here in
      let answer = played.part.relays x is.0 refl from.of_slot more in
      let o : EventOccasion = record { before = answer.flood; event = Heard answer.heard } in (
        window_takes s clocks air lawful rank f j p round start x.node w from.here,
        record {
          heard = answer.heard;
          flood = answer.flood;
          occasion = subst (λ (g : FloodState). Contains (event_occasions g (events x.node)) o) (sym (begins_so x.node w from.here))
              (subst (λ (es : List Event). Contains (event_occasions (flood_at_first (setup_of s x.node) w.by_alarm w) es) o) played.same answer.occasion);
          answer = answer.answer;
          start = answer.at;
        },
      )

  -- so the transmissions of the slot are those of a flood
  pub has_sendings : HasSendings r
  has_sendings =
      let begun = begins_as_said s clocks air lawful rank f j p round.in_run start events are in
      record {
        lasts = begun.lasts;
        begun = begun.begun;
        beginnings = begun.beginnings;
        relayed = λ v tick q here is. relayed_so v tick q is;
        relays = relays_so;
      }
