-- The scanning nodes of each slot listen in windows that cover its flood.
use Rattle.std.proofs.Common.{◌≡◌, ℕ, zero, suc, ◌+◌, ◌-◌, ◌*◌, ◌<◌, ◌≤◌, inl, inr, List, [], ◌∷◌, true, Contains, get_or, sym, ◌∙◌}
use Rattle.std.proofs.Common.{subst, arith}
use Rattle.std.proofs.Math.Nat.{mul-le-mul_right}
use Rattle.std.proofs.lemmas.Bool.{cases_lt}
use Rattle.std.proofs.lemmas.List.Elements.{Contains-append_right}
use Rattle.lwb_base.specs.declared.limits.TheConstants.{MOST_FRAMES}
use Rattle.lwb_base.specs.Messages.{Plan}
use Rattle.time_reference.specs.Budgets.{budget_of}
use Rattle.bus_rules.specs.Plans.{last_slot}
use Rattle.scenario_text.specs.ScenarioParts.{ScenarioParts}
use Rattle.scenario_text.specs.FloodParts.{knows}
use Rattle.radio_model.specs.declared.sending.Sending.{Sending}
use Rattle.radio_model.specs.Hearing.{Scene, TunedThrough}
use Rattle.air_log.specs.declared.entry.Entry.{Entry}
use Rattle.air_log.specs.HearsAir.{scene_of}
use Rattle.air_log.specs.Lawful.{trail_in}
use Rattle.air_log.specs.NodeEvents.{Event, Heard, Ended, own_ends}
use Rattle.air_log.specs.Trails.{frame_start, run_end}
use Rattle.air_log.specs.WindowLogs.{WindowLog, Happening, HeardAt}
use Rattle.lwb_base.proofs.Elements.{contains_head, contains_tail}
use Rattle.law_trails.specs.TrailLinks.{device_in}
use Rattle.law_trails.proofs.UnstoppedTimes.{relay_after, relay_is}
use Rattle.law_safety.specs.Invariant.{IsObedientRun}
use Rattle.law_safety.proofs.RunFacts.{run_fits}
use Rattle.law_safety.proofs.RunSendings.{in_trail}
use Rattle.law_windows.specs.WindowCalls.{CallsFor, IsCalled}
use Rattle.law_windows.specs.WindowHistory.{HasHappened, HeardThen}
use Rattle.law_windows.proofs.WindowFacts.{history_on_air, sends_as_called}
use Rattle.lwb_flood.specs.FloodRun.{Run, InTime}
use Rattle.lwb_flood.specs.Windows.{ListensInWindow as ListensIn, IsListeningWindow}
use Rattle.bus_terms.specs.Flooding.{has}
use Rattle.law_terms.specs.LawfulRuns.{IsLawfulRun}
use Rattle.bus_terms.specs.HostedRounds.{slot_in}
use Rattle.law_terms.specs.SlotLaws.{IsRound, IsWindowOf, HasWindow}
use Rattle.law_terms.specs.SlotSteps.{IsSlotStart}
use Rattle.law_bus.proofs.RunsOfLogs.{run, whole, known_by}
use Rattle.law_bus.proofs.SlotsAtNodes.{look_up}
use Rattle.law_bus.specs.ScannerLaws.{ScannersLaw}
use Rattle.law_bus.specs.SlotRun.{AreEvents, run_of_slot}
use Rattle.law_bus.proofs.ListeningInSlots.{origin_times}
use Rattle.law_bus.proofs.SentInSlots.{here_so, lasts_so}
use Rattle.law_bus.proofs.SlotEvents.{same_window}
use Rattle.law_bus.proofs.SlotStarts.{is_of_window}
use Rattle.law_bus.proofs.TunedScanners.{tuned_then}

-- where all own transmissions end at a tick at the earliest, so does each of them
ends_from : (k n far : ℕ) (es : List Event) → ((y : Sending) → Contains es (Ended y) → k ≤ y.end) → k ≤ far → k ≤ get_or (own_ends es) n far
ends_from k n far [] later within = within
ends_from k n far (Heard x ∷ es) later within = ends_from k n far es (λ y there. later y (contains_tail (Heard x) es (Ended y) there)) within
ends_from k zero far (Ended x ∷ es) later within = later x (contains_head (Ended x) es)
ends_from k (suc n) far (Ended x ∷ es) later within = ends_from k n far es (λ y there. later y (contains_tail (Ended x) es (Ended y) there)) within

module _ (s : ScenarioParts) (clocks : ℕ → ℕ → ℕ) (air : List Entry) (lawful : IsLawfulRun s clocks air)
    (rank f j : ℕ) (p : Plan) (round : IsRound s rank f p) (within : j ≤ last_slot p) (start : IsSlotStart s clocks air rank f p j)
    (events : ℕ → List Event) (are : AreEvents s clocks air rank f j events)
    (v : ℕ) (here : has (slot_in s rank f p j).flood.everyone v ≡ true) (no_alarm : HasWindow s clocks air rank f j v → ⊥) where
  abbrev r : Run
  r = run_of_slot s clocks air rank f p j events

  abbrev a : Scene
  a = scene_of s.profile s.trace air

  abbrev far : ℕ
  far = run_end s + 12 * (r.air + r.turn)

  go : IsObedientRun s clocks air
  go = run s clocks air lawful

  -- what is sent by the window that it has joined starts after its opening
  module _ (w : WindowLog) (own : IsWindowOf s clocks air rank f j v w) where
    known : knows s.nodes v ≡ true
    known = known_by s clocks air lawful v w own.there

    history : HasHappened s air v w
    history = history_on_air s clocks air go v known (run_end s) (omega arith) w own.there

    behind_hearing : (y : Sending) → CallsFor s clocks v w y.start y.packet → w.opened < y.start
    behind_hearing y (inl begins) = absurd (no_alarm (record { window = w; here = own; by_alarm = begins.by_alarm }))
    behind_hearing y (inr relays) =
        let in_it : Contains w.happenings (HeardAt relays.until relays.heard) =
        subst (λ (l : List Happening). Contains l (HeardAt relays.until relays.heard)) (sym relays.is)
        (Contains-append_right relays.earlier (HeardAt relays.until relays.heard ∷ relays.later) (HeardAt relays.until relays.heard)
        (contains_head (HeardAt relays.until relays.heard) relays.later)) in
        let since = history.since (HeardAt relays.until relays.heard) in_it in
        let was : HeardThen s air v w relays.until relays.heard = history.then_ (HeardAt relays.until relays.heard) in_it in
        let ends = ((lawful.lawful.hearing.heard v was.heard).0 was.there).0 in
        let at = was.end in
        let few = mul-le-mul_right s.profile.frame lawful.sound.few_frames in
        let early : relays.until ≤ MOST_FRAMES * s.profile.frame = omega (arith, ends, at, few) in
        let fits = run_fits s lawful.sound in
        let clock = lawful.drift v known in
        let after = relay_after s.profile (budget_of s.profile) fits (clocks v) clock relays.until early in
        let tick = relay_is s.profile (budget_of s.profile) fits (clocks v) clock relays.until early in
        let starts = relays.at in
        omega (arith, since, after, tick, starts)

    own_starts : (y : Sending) → Contains (events v) (Ended y) → (w.opened < y.start) × (y.end ≡ y.start + r.air)
    own_starts y in_it =
        let played = are.by_window v w own in
        let is = (played.part.has.ended y).0 (subst (λ (es : List Event). Contains es (Ended y)) (sym played.same) in_it) in
        let of_slot = is_of_window s clocks air lawful rank f j p round.in_run start events are v w own y is.2 in
        let sent = in_trail s clocks air (whole s clocks air lawful) y is.0 in
        let calls = sends_as_called s clocks air go v known (run_end s) (omega arith) in
        let call : IsCalled s clocks v (device_in s clocks air v (run_end s)).made.windows y =
        calls.called y (subst (λ (u : ℕ). Contains (device_in s clocks air u (run_end s)).made.sent y) is.1 sent) in
        let same : call.window ≡ w = same_window s clocks air lawful rank f j round.in_run v call.window w (record {
          there = call.there;
          frame = sym call.of_slot.frame ∙ of_slot.1;
          channel = sym call.of_slot.channel ∙ of_slot.0;
          slot = sym call.of_slot.slot ∙ of_slot.2;
        }) own in (
          behind_hearing y (subst (λ (u : WindowLog). CallsFor s clocks v u y.start y.packet) same call.call),
          lasts_so s clocks air lawful rank f j p round.in_run start events are y (is.0, of_slot),
        )

    only_joined : (x : Sending) → Contains r.sendings x → x.end ≤ far → TunedThrough a v x → x.end ≤ get_or (own_ends (events v)) (s.sends - 1) far
    only_joined x there until tuned =
        let is = here_so s clocks air lawful rank f j p round.in_run start events are x there in
        let played = are.by_window v w own in
        elim (cases_lt x.start w.opened) [
          | inl before ↦ ends_from x.end (s.sends - 1) far (events v) (λ y in_it. (
              let later = own_starts y in_it in
              let ends = lasts_so s clocks air lawful rank f j p round.in_run start events are x is in
              omega (arith, later.0, later.1, ends, before)
              )) until
          | inr opened ↦ subst (λ (es : List Event). x.end ≤ get_or (own_ends es) (s.sends - 1) far) played.same
              (played.part.radio.only x far is.0 (record {
                channel = is.1.0 ∙ sym own.channel;
                frame = is.1.1 ∙ sym own.frame;
                slot = is.1.2 ∙ sym own.slot;
              }) opened tuned until)
        ]

  none_ended : (x : Sending) → events v ≡ [] → x.end ≤ far → x.end ≤ get_or (own_ends (events v)) (s.sends - 1) far
  none_ended x none until = subst (λ (es : List Event). x.end ≤ get_or (own_ends es) (s.sends - 1) far) (sym none) until

  only : (x : Sending) → Contains r.sendings x → x.end ≤ far → TunedThrough a v x → x.end ≤ get_or (own_ends (events v)) (s.sends - 1) far
  only x there until tuned =
      elim (look_up rank f j (trail_in s clocks air v).made.windows) [
        | inl own ↦ only_joined own.window (record { there = own.there; frame = own.frame; channel = own.channel; slot = own.slot }) x there until tuned
        | inr none ↦ none_ended x (are.without v (λ w at. none w at.there at.frame at.channel at.slot)) until
      ]

  covers_flood : IsListeningWindow r (TunedThrough a) v (frame_start s f) far
  covers_flood = record {
    some = lawful.sound.some_sends;
    since = λ x time. (
        let since = time.since in
        let begins = (origin_times s clocks air lawful rank f j p round start events are time.origin time.initiator).0 in
        omega (arith, since, begins)
        );
    until = ends_by;
    tuned = λ x there since off t from until.
        tuned_then s clocks air lawful rank f j p round within start events are v here no_alarm x there far off t from until;
    only = λ x there time tuned. only x there (ends_by x time) tuned;
  }
    where
      ends_by : (x : Sending) → InTime r x → x.end ≤ far
      ends_by x time =
          let until = time.until in
          let begins = (origin_times s clocks air lawful rank f j p round start events are time.origin time.initiator).1 in
          omega (arith, until, begins)

  pub scanner_listens : ListensIn r (TunedThrough a) v
  scanner_listens = record { opening = frame_start s f; closing = far; window = covers_flood }

pub scanners_listen : ScannersLaw
scanners_listen s clocks air lawful rank f j p round within start events are = record {
  listens = λ v here no_alarm. scanner_listens s clocks air lawful rank f j p round within start events are v here no_alarm;
}
