-- The events of a node are what it receives and sends in the slot, and with a window by its alarm it listens in a window.
use Rattle.std.proofs.Common.{◌≡◌, ◌↔◌, ℕ, ◌+◌, ◌-◌, ◌*◌, ◌<◌, ◌≤◌, true, false, Bool, List, [], get_or, inl, inr, Contains, refl, sym, ◌∙◌, ap}
use Rattle.std.proofs.Common.{subst, arith, true≢false}
use Rattle.std.specs.Prelude.{◌⊎◌}
use Rattle.lwb_base.specs.Messages.{Plan}
use Rattle.scenario_text.specs.ScenarioParts.{ScenarioParts}
use Rattle.radio_model.specs.declared.sending.Sending.{Sending}
use Rattle.radio_model.specs.Hearing.{Scene, TunedThrough}
use Rattle.air_log.specs.declared.entry.Entry.{Entry}
use Rattle.air_log.specs.Entries.{hearings_of, HasHeardEntry}
use Rattle.air_log.specs.HearsAir.{scene_of}
use Rattle.air_log.specs.Lawful.{trail_in}
use Rattle.air_log.specs.NodeEvents.{Event, Heard, Ended, EventsInOrder, own_ends}
use Rattle.air_log.specs.Trails.{run_end, frame_start}
use Rattle.air_log.specs.WindowLogs.{WindowLog}
use Rattle.lwb_base.proofs.Elements.{not_in_none}
use Rattle.law_trails.proofs.SentInTrails.{sent_lasts}
use Rattle.law_safety.proofs.RunFacts.{frame_begins}
use Rattle.law_windows.specs.WindowTimes.{IsOfSlot}
use Rattle.law_windows.proofs.WindowFacts.{slot_covered}
use Rattle.lwb_flood.specs.FloodRun.{Run, WasHeard, initiates, IsParticipant, HasEvents}
use Rattle.lwb_flood.specs.Windows.{ListensInWindow as ListensIn, IsListeningWindow}
use Rattle.law_terms.specs.LawfulRuns.{IsLawfulRun}
use Rattle.law_terms.specs.SlotLaws.{IsRound, IsWindowOf, HasWindow}
use Rattle.law_terms.specs.SlotSteps.{IsSlotStart}
use Rattle.law_bus.proofs.RunsOfLogs.{run, known_by}
use Rattle.law_bus.proofs.SlotsAtNodes.{look_up}
use Rattle.law_bus.specs.ScannerLaws.{ScannersListen}
use Rattle.law_bus.specs.SlotRun.{AreEvents, run_of_slot}
use Rattle.law_bus.proofs.DeafScanners.{has_window}
use Rattle.law_bus.proofs.SentInSlots.{caller, here_so, sent_there}
use Rattle.law_bus.proofs.SlotEvents.{same_window}
use Rattle.law_bus.proofs.SlotSendings.{IsOf, heard_in_slot, in_heard}
use Rattle.law_bus.proofs.SlotSpeakers.{speaker, first_sending}
use Rattle.law_bus.proofs.SlotStarts.{InSlot, is_of_window, in_it}

in_order_none : (es : List Event) → es ≡ [] → EventsInOrder es
in_order_none es is = subst EventsInOrder (sym is) (λ i k d before within. absurd (omega (arith, within)))

module _ (s : ScenarioParts) (clocks : ℕ → ℕ → ℕ) (air : List Entry) (lawful : IsLawfulRun s clocks air)
    (rank f j : ℕ) (p : Plan) (round : IsRound s rank f p) (start : IsSlotStart s clocks air rank f p j)
    (events : ℕ → List Event) (are : AreEvents s clocks air rank f j events) where
  abbrev r : Run
  r = run_of_slot s clocks air rank f p j events

  abbrev Of : ℕ → WindowLog → Type 0
  Of v w = IsWindowOf s clocks air rank f j v w

  abbrev Slotted : Sending → Type 0
  Slotted x = InSlot s clocks air lawful rank f j p round.in_run start events are x

  -- a transmission of the slot is of a window's slot
  of_window : (v : ℕ) (w : WindowLog) → Of v w → (x : Sending) → IsOf s.profile rank f j x → IsOfSlot s w x
  of_window v w here x is = record { channel = is.0 ∙ sym here.channel; frame = is.1 ∙ sym here.frame; slot = is.2 ∙ sym here.slot }

  heard_so : (v : ℕ) (x : Sending) → WasHeard r v x → HasHeardEntry air v x × IsOf s.profile rank f j x
  heard_so v x heard = heard_in_slot s.profile rank f j (hearings_of air) (record { node = v; sending = x }) heard

  -- what is among the events was received in the slot
  events_heard : (v : ℕ) (w : WindowLog) → Of v w → (x : Sending) → Contains (events v) (Heard x) → WasHeard r v x
  events_heard v w here x in_it =
      let played = are.by_window v w here in
      let is = (played.part.has.heard x).0 (subst (λ (es : List Event). Contains es (Heard x)) (sym played.same) in_it) in
      in_heard s.profile rank f j (hearings_of air) (record { node = v; sending = x }) is.0
      (is_of_window s clocks air lawful rank f j p round.in_run start events are v w here x is.1)

  -- a window by its alarm is open before anything of its slot starts
  opened_before : (v : ℕ) (w : WindowLog) → Of v w → w.by_alarm ≡ true → (x : Sending) → Slotted x → w.opened < x.start
  opened_before v w here alarm x is =
      (slot_covered s clocks air (run s clocks air lawful) v (known_by s clocks air lawful v w here.there) (run_end s) (omega arith) w here.there
      x is.0 (of_window v w here x is.1)).1 alarm

  heard_events : (v : ℕ) (w : WindowLog) → Of v w → (x : Sending) → WasHeard r v x → Contains (events v) (Heard x)
  heard_events v w here x heard =
      let played = are.by_window v w here in
      let is = heard_so v x heard in
      subst (λ (es : List Event). Contains es (Heard x)) played.same ((played.part.has.heard x).1 (is.0, of_window v w here x is.1))

  own_ends_so : (v : ℕ) (w : WindowLog) → Of v w → (x : Sending) → Contains (events v) (Ended x) ↔ (Contains r.sendings x × (x.node ≡ v))
  own_ends_so v w here x = (to, from)
    where
      to : Contains (events v) (Ended x) → Contains r.sendings x × (x.node ≡ v)
      to in_it =
          let played = are.by_window v w here in
          let is = (played.part.has.ended x).0 (subst (λ (es : List Event). Contains es (Ended x)) (sym played.same) in_it) in (
            sent_there s clocks air lawful rank f j p round.in_run start events are x
                (is.0, is_of_window s clocks air lawful rank f j p round.in_run start events are v w here x is.2),
            is.1,
          )

      from : Contains r.sendings x × (x.node ≡ v) → Contains (events v) (Ended x)
      from both =
          let played = are.by_window v w here in
          let is = here_so s clocks air lawful rank f j p round.in_run start events are x both.0 in
          subst (λ (es : List Event). Contains es (Ended x)) played.same
          ((played.part.has.ended x).1 (is.0, both.1, of_window v w here x is.1))

  none_ends : (v : ℕ) → ((w : WindowLog) → Of v w → ⊥) → (x : Sending) → Contains (events v) (Ended x) ↔ (Contains r.sendings x × (x.node ≡ v))
  none_ends v none x = (
    λ in_it. absurd (not_in_none (Ended x) (subst (λ (es : List Event). Contains es (Ended x)) (are.without v none) in_it)),
    λ both. (
        let is = here_so s clocks air lawful rank f j p round.in_run start events are x both.0 in
        let from = caller s clocks air lawful rank f j p round.in_run start events are x is in
        absurd (none from.window (subst (λ (u : ℕ). Of u from.window) both.1 from.here))
        ),
  )

  -- a node has a window by its alarm, or it has none
  by_kind : (v : ℕ) (w : WindowLog) → Of v w → (b : Bool) → w.by_alarm ≡ b
      → HasWindow s clocks air rank f j v ⊎ (HasWindow s clocks air rank f j v → ⊥)
  by_kind v w here true is = inl (record { window = w; here = here; by_alarm = is })
  by_kind v w here false is = inr (λ own. (
      let same = same_window s clocks air lawful rank f j round.in_run v own.window w own.here here in
      true≢false (sym own.by_alarm ∙ ap (λ (x : WindowLog). x.by_alarm) same ∙ is)
      ))

  alarm_or_not : (v : ℕ) → HasWindow s clocks air rank f j v ⊎ (HasWindow s clocks air rank f j v → ⊥)
  alarm_or_not v =
      elim (look_up rank f j (trail_in s clocks air v).made.windows) [
        | inl own ↦ by_kind v own.window (record { there = own.there; frame = own.frame; channel = own.channel; slot = own.slot }) own.window.by_alarm refl
        | inr none ↦ inr (λ own. none own.window own.here.there own.here.frame own.here.channel own.here.slot)
      ]

  -- when an initiator starts
  pub origin_times : (o : ℕ) → initiates r o → (frame_start s f ≤ r.starts o) × (r.starts o < run_end s)
  origin_times o here =
      let who = speaker s clocks air lawful rank f j p round.in_run start o here in
      let first = first_sending s clocks air lawful rank f j p round.in_run start events are o who in
      let x = first.sending in
      let is : Slotted x = in_it s clocks air lawful rank f j p round.in_run start events are o here in
      let at = first.at in
      let from : frame_start s f ≤ x.start = subst (λ (g : ℕ). frame_start s g ≤ x.start) is.1.1 (frame_begins s lawful.sound x.start) in
      let until = (sent_lasts s clocks air (run s clocks air lawful).heedful.trails x is.0).0 in
      (omega (arith, from, at), omega (arith, until, at))

  abbrev far : ℕ
  far = run_end s + 12 * (r.air + r.turn)

  abbrev a : Scene
  a = scene_of s.profile s.trace air

  -- a window by its alarm covers the flood
  alarm_window : (v : ℕ) (w : WindowLog) → Of v w → w.by_alarm ≡ true → IsListeningWindow r (TunedThrough a) v (frame_start s f) far
  alarm_window v w here alarm =
      let played = are.by_window v w here in
      record {
        some = lawful.sound.some_sends;
        since = λ x time. (
            let since = time.since in
            let begins = (origin_times time.origin time.initiator).0 in
            omega (arith, since, begins)
            );
        until = λ x time. (
            let until = time.until in
            let begins = (origin_times time.origin time.initiator).1 in
            omega (arith, until, begins)
            );
        tuned = λ x sent since off. (
            let is = here_so s clocks air lawful rank f j p round.in_run start events are x sent in
            let opened = opened_before v w here alarm x is in
            played.part.radio.tuned x far is.0 (of_window v w here x is.1) (omega (arith, opened))
            (subst (λ (es : List Event). x.end ≤ get_or (own_ends es) (s.sends - 1) far) (sym played.same) off)
            );
        only = λ x sent time tuned. (
            let is = here_so s clocks air lawful rank f j p round.in_run start events are x sent in
            let opened = opened_before v w here alarm x is in
            let until = time.until in
            let begins = (origin_times time.origin time.initiator).1 in
            subst (λ (es : List Event). x.end ≤ get_or (own_ends es) (s.sends - 1) far) played.same
            (played.part.radio.only x far is.0 (of_window v w here x is.1) (omega (arith, opened)) tuned (omega (arith, until, begins)))
            );
      }

  to_heard : (v : ℕ) (x : Sending) → Contains (events v) (Heard x) → WasHeard r v x
  to_heard v x in_it =
      elim (look_up rank f j (trail_in s clocks air v).made.windows) [
        | inl own ↦ events_heard v own.window (record { there = own.there; frame = own.frame; channel = own.channel; slot = own.slot }) x in_it
        | inr none ↦ absurd (not_in_none (Heard x)
            (subst (λ (es : List Event). Contains es (Heard x)) (are.without v (λ w here. none w here.there here.frame here.channel here.slot)) in_it))
      ]

  from_heard : (v : ℕ) (x : Sending) → IsParticipant r v → WasHeard r v x → Contains (events v) (Heard x)
  from_heard v x here heard =
      elim (look_up rank f j (trail_in s clocks air v).made.windows) [
        | inl own ↦ heard_events v own.window (record { there = own.there; frame = own.frame; channel = own.channel; slot = own.slot }) x heard
        | inr none ↦ absurd (
            let is = heard_so v x heard in
            let own = has_window s clocks air lawful rank f j p round start v here
            (λ has. none has.window has.here.there has.here.frame has.here.channel has.here.slot) x is.0 is.1 in
            none own.window own.there own.frame own.channel own.slot
            )
      ]

  ends : (v : ℕ) (x : Sending) → Contains (events v) (Ended x) ↔ (Contains r.sendings x × (x.node ≡ v))
  ends v x =
      elim (look_up rank f j (trail_in s clocks air v).made.windows) [
        | inl own ↦ own_ends_so v own.window (record { there = own.there; frame = own.frame; channel = own.channel; slot = own.slot }) x
        | inr none ↦ none_ends v (λ w here. none w here.there here.frame here.channel here.slot) x
      ]

  ordered : (v : ℕ) → EventsInOrder (events v)
  ordered v =
      elim (look_up rank f j (trail_in s clocks air v).made.windows) [
        | inl own ↦ (
            let played = are.by_window v own.window (record { there = own.there; frame = own.frame; channel = own.channel; slot = own.slot }) in
            subst EventsInOrder played.same played.part.has.in_order
            )
        | inr none ↦ in_order_none (events v) (are.without v (λ w here. none w here.there here.frame here.channel here.slot))
      ]

  pub has_events : HasEvents r
  has_events = record {
    heard_events = λ v x here. (to_heard v x, from_heard v x here);
    ended_events = λ v x here. ends v x;
    in_order = λ v here. ordered v;
  }

  module _ (scanners : ScannersListen s clocks air rank f j r) where
    pub listens : (v : ℕ) → IsParticipant r v → ListensIn r (TunedThrough a) v
    listens v here = elim (alarm_or_not v) [
      | inl own ↦ record { opening = frame_start s f; closing = far; window = alarm_window v own.window own.here own.by_alarm }
      | inr none ↦ scanners.listens v here none
    ]
