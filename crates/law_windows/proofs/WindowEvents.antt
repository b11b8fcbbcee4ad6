-- The events of each window.
use Rattle.std.proofs.Common.{◌≡◌, ◌≢◌, ℕ, ◌<◌, ◌≤◌, inl, inr, List, [], ◌∷◌, true, Some, None, Option, is_some, Contains, AllPairs, fold, map}
use Rattle.std.proofs.Common.{length, refl, sym, ◌∙◌, ap, subst, arith, true≢false}
use Rattle.std.specs.Option.{IfSome}
use Rattle.lwb_base.specs.Profile.{airtime}
use Rattle.glossy_relay.specs.FloodState.{FloodState}
use Rattle.glossy_relay.specs.Relaying.{after_heard}
use Rattle.scenario_text.specs.ScenarioParts.{ScenarioParts}
use Rattle.scenario_text.specs.FloodParts.{knows}
use Rattle.radio_model.specs.declared.sending.Sending.{Sending}
use Rattle.radio_model.specs.Hearing.{frame_of_sending}
use Rattle.air_log.specs.declared.entry.Entry.{Entry}
use Rattle.air_log.specs.Entries.{sendings_of, HasHeardEntry}
use Rattle.air_log.specs.Lawful.{Lawful, heard_by}
use Rattle.air_log.specs.NodeEvents.{Event, Heard, Ended, sending_of_event, EventsInOrder, flood_after_events}
use Rattle.scenario_text.specs.Setups.{setup_of}
use Rattle.air_log.specs.Trails.{run_end}
use Rattle.air_log.specs.WindowLogs.{WindowLog, Happening, HeardAt, SentAt, Closing}
use Rattle.lwb_base.proofs.Elements.{Distinct, not_in_none, contains_head, contains_tail, contains_cases, map_contains, map_from, pairs_head, pairs_tail}
use Rattle.lwb_base.proofs.Elements.{pairs_cons}
use Rattle.law_trails.specs.TrailLinks.{device_in}
use Rattle.law_trails.proofs.SentInTrails.{sent_below, sent_lasts}
use Rattle.law_trails.proofs.WalkOfRun.{known_before}
use Rattle.law_safety.specs.Invariant.{IsObedientRun}
use Rattle.law_safety.proofs.InvariantHolds.{all_rows}
use Rattle.law_windows.specs.OpenWindows.{SameWindowSlot}
use Rattle.law_windows.specs.WindowEvents.{happening_of, WindowHasEvents}
use Rattle.law_windows.specs.WindowFloods.{after_happening, flood_at_first}
use Rattle.law_windows.specs.WindowHistory.{tick_of_happening, WasThen, HasHappened}
use Rattle.law_windows.specs.WindowLaws.{WindowsHaveEvents}
use Rattle.air_log.proofs.SameSendings.{same_sending}
use Rattle.law_trails.proofs.HeedfulLogs.{lawful_is_heedful}
use Rattle.law_windows.specs.WindowTimes.{IsOfSlot, ClosesInTime, closing_of}
use Rattle.law_windows.proofs.ClosedByFrame.{closed_at_end}
use Rattle.law_windows.proofs.DistinctHappenings.{distinct_steps}
use Rattle.law_windows.proofs.DistinctHearings.{same_heard}
use Rattle.law_windows.proofs.SlotHearings.{since_or_happened}
use Rattle.law_windows.proofs.WindowFacts.{close_in_time, slots_apart, slot_covered, floods_of_windows, history_on_air, hearings_happen, one_a_slot}
use Rattle.law_windows.proofs.WindowFacts.{sends_as_called}
use Rattle.law_windows.proofs.WindowWalk.{windows_before}

module _ (s : ScenarioParts) (air : List Entry) (v : ℕ) (w : WindowLog) where
  abbrev event_of : (e : Happening) → WasThen s air v w e → Event
  event_of (HeardAt t p) is = Heard is.heard
  event_of (SentAt t p) is = Ended is.sent

  abbrev AllWere : List Happening → Type 0
  AllWere es = (e : Happening) → Contains es e → WasThen s air v w e

  abbrev events_of : (es : List Happening) → AllWere es → List Event
  events_of [] were = []
  events_of (e ∷ es) were = event_of e (were e (contains_head e es)) ∷ events_of es (λ d there. were d (contains_tail e es d there))

  one_happening : (e : Happening) (is : WasThen s air v w e) → happening_of (event_of e is) ≡ e
  one_happening (HeardAt t p) is = ap (λ (k : ℕ). HeardAt k is.heard.packet) is.end ∙ ap (λ (q : List ℕ). HeardAt t q) is.packet_is
  one_happening (SentAt t p) is = ap (λ (k : ℕ). SentAt k is.sent.packet) is.end ∙ ap (λ (q : List ℕ). SentAt t q) is.packet_is

  all_happenings : (es : List Happening) (were : AllWere es) → map happening_of (events_of es were) ≡ es
  all_happenings [] were = refl
  all_happenings (e ∷ es) were =
      ap (λ (d : Happening). d ∷ map happening_of (events_of es (λ d there. were d (contains_tail e es d there))))
      (one_happening e (were e (contains_head e es)))
      ∙ ap (λ (ds : List Happening). e ∷ ds) (all_happenings es (λ d there. were d (contains_tail e es d there)))

  -- what an event is
  abbrev IsEvent : Event → Type 0
  IsEvent (Heard x) = HasHeardEntry air v x × (x.rank ≡ w.rank) × (frame_of_sending s.profile x ≡ w.frame)
  IsEvent (Ended x) = Contains (sendings_of air) x × (x.node ≡ v) × IsOfSlot s w x

  is_event : (e : Happening) (is : WasThen s air v w e) → IsEvent (event_of e is)
  is_event (HeardAt t p) is = (is.there, is.channel, is.frame)
  is_event (SentAt t p) is = (is.there, is.node, is.of_slot)

  are_events : (es : List Happening) (were : AllWere es) (d : Event) → Contains (events_of es were) d → IsEvent d
  are_events [] were d there = absurd (not_in_none d there)
  are_events (e ∷ es) were d there =
      elim (contains_cases (event_of e (were e (contains_head e es))) (events_of es (λ d there. were d (contains_tail e es d there))) d there) [
        | inl same ↦ subst IsEvent same (is_event e (were e (contains_head e es)))
        | inr later ↦ are_events es (λ d there. were d (contains_tail e es d there)) d later
      ]

  one_flood : (f : FloodState) (e : Happening) (is : WasThen s air v w e) → flood_after_events f (event_of e is ∷ []) ≡ after_happening f e
  one_flood f (HeardAt t p) is = ap (λ (q : List ℕ). after_heard f q) is.packet_is
  one_flood f (SentAt t p) is = refl

  all_floods : (f : FloodState) (es : List Happening) (were : AllWere es) → flood_after_events f (events_of es were) ≡ fold after_happening f es
  all_floods f [] were = refl
  all_floods f (e ∷ es) were =
      ap (λ (g : FloodState). flood_after_events g (events_of es (λ d there. were d (contains_tail e es d there))))
      (one_flood f e (were e (contains_head e es)))
      ∙ all_floods (after_happening f e) es (λ d there. were d (contains_tail e es d there))

  tick_is : (d : Event) → tick_of_happening (happening_of d) ≡ (sending_of_event d).end
  tick_is (Heard x) = refl
  tick_is (Ended x) = refl

  -- in the order of their happenings
  ordered : (es : List Happening) (were : AllWere es) → AllPairs (λ (d e : Happening). tick_of_happening d ≤ tick_of_happening e) es → Distinct es
      → EventsInOrder (events_of es were)
  ordered [] were turn distinct = λ i j d before within. absurd (omega (arith, within))
  ordered (e ∷ es) were turn distinct =
      let rest : AllWere es = λ d there. were d (contains_tail e es d there) in
      let now = event_of e (were e (contains_head e es)) in
      pairs_cons (λ (d e : Event). ((sending_of_event d).end ≤ (sending_of_event e).end) × (d ≢ e)) now (events_of es rest)
      (λ d there.
      (let happened : Contains es (happening_of d) = subst (λ (ds : List Happening). Contains ds (happening_of d)) (all_happenings es rest)
      (map_contains happening_of (events_of es rest) d there) in
      let first : happening_of now ≡ e = one_happening e (were e (contains_head e es)) in
      let tick = pairs_head (λ (d e : Happening). tick_of_happening d ≤ tick_of_happening e) e es turn (happening_of d) happened in (
        omega (arith, tick, tick_is d, tick_is now, ap tick_of_happening first),
        λ same. distinct.0 (subst (Contains es) (sym (ap happening_of same) ∙ first) happened),
      )))
      (ordered es rest (pairs_tail (λ (d e : Happening). tick_of_happening d ≤ tick_of_happening e) e es turn) distinct.1)

module _ (s : ScenarioParts) (clocks : ℕ → ℕ → ℕ) (air : List Entry) (run : IsObedientRun s clocks air) (lawful : Lawful s clocks air) (v : ℕ)
    (known : knows s.nodes v ≡ true)
    (w : WindowLog) (there : Contains (device_in s clocks air v (run_end s)).made.windows w) where
  within : run_end s ≤ run_end s
  within = omega arith

  history : HasHappened s air v w
  history = history_on_air s clocks air run v known (run_end s) within w there

  distinct : Distinct w.happenings
  distinct = (windows_before s clocks air v (λ now taken x. Distinct x.happenings) all_rows run known
      (λ u at. distinct_steps all_rows s clocks air run lawful v known u at) (run_end s) within).each w there

  abbrev events : List Event
  events = events_of s air v w w.happenings history.then_

  happened : map happening_of (events_of s air v w w.happenings history.then_) ≡ w.happenings
  happened = all_happenings s air v w w.happenings history.then_

  -- the closing
  shut_so : (c : Option Closing) → w.closed ≡ c → is_some c ≡ true → (c : Closing) × (w.closed ≡ Some c)
  shut_so None is some = absurd (true≢false (sym some))
  shut_so (Some c) is some = (c, is)

  closing : (c : Closing) × (w.closed ≡ Some c)
  closing = shut_so w.closed refl (closed_at_end s clocks air run v known w there)

  closing_tick : closing.0.tick ≡ closing_of s clocks air v w
  closing_tick = subst (λ (c : Option Closing). IfSome c (ClosesInTime s clocks air v w)) closing.1
      (close_in_time s clocks air run v known (run_end s) within w there)

  in_run : closing.0.tick ≤ run_end s
  in_run = subst (λ (c : Option Closing). IfSome c (λ c. c.tick ≤ run_end s)) closing.1
      ((windows_before s clocks air v (λ now taken x. Distinct x.happenings) all_rows run known
      (λ u at. distinct_steps all_rows s clocks air run lawful v known u at) (run_end s) within).past w there)

  -- a window that has closed, with its closing
  pub closing_known : (c : Closing) × (w.closed ≡ Some c) × (c.tick ≡ closing_of s clocks air v w) × (c.tick ≤ run_end s)
  closing_known = (closing.0, closing.1, closing_tick, in_run)

  -- what was received in it is of its slot
  heard_of : (x : Sending) → Contains events (Heard x) → HasHeardEntry air v x × IsOfSlot s w x
  heard_of x in_it =
      let is = are_events s air v w w.happenings history.then_ (Heard x) in_it in
      let then_ : Contains w.happenings (HeardAt x.end x.packet) =
      subst (λ (ds : List Happening). Contains ds (HeardAt x.end x.packet)) happened (map_contains happening_of events (Heard x) in_it) in
      let since = history.since (HeardAt x.end x.packet) then_ in
      let until = subst (λ (c : Option Closing). IfSome c
      (λ c. (e : Happening) → Contains w.happenings e → tick_of_happening e ≤ c.tick)) closing.1 history.until (HeardAt x.end x.packet) then_ in
      let sent = (run.heedful.heard v x is.0).sent in
      let closes = closing_tick in
      let slot = slots_apart s clocks air run v known (run_end s) within w there x sent is.1 is.2 since (omega (arith, until, closes)) in
      (is.0, record { channel = is.1; frame = is.2; slot = slot })

  -- an event for each happening
  find : (e : Happening) → Contains w.happenings e → (d : Event) × Contains events d × (happening_of d ≡ e)
  find e in_it = map_from happening_of events e (subst (λ (ds : List Happening). Contains ds e) (sym happened) in_it)

  as_heard : (x : Sending) → HasHeardEntry air v x → (d : Event) → Contains events d → happening_of d ≡ HeardAt x.end x.packet → Contains events (Heard x)
  as_heard x is (Heard y) in_it same =
      let other = (heard_of y in_it).0 in
      let end : y.end ≡ x.end = cc in
      let packet : y.packet ≡ x.packet = cc in
      subst (λ (z : Sending). Contains events (Heard z)) (same_heard s clocks air run lawful v y x other is end packet) in_it
  as_heard x is (Ended y) in_it same = let not_same : SentAt y.end y.packet ≡ HeardAt x.end x.packet = same in absurd cc

  heard_all : (x : Sending) → HasHeardEntry air v x → IsOfSlot s w x → Contains events (Heard x)
  heard_all x is of_slot =
      let reach = (lawful.hearing.heard v x).0 is in
      let lies = (slot_covered s clocks air run v known (run_end s) within w there x reach.1.sent of_slot).0 in
      let closes = closing_tick in
      let before : IfSome w.closed (λ c. x.end < c.tick) =
      subst (λ (c : Option Closing). IfSome c (λ c. x.end < c.tick)) (sym closing.1) (omega (arith, lies, closes)) in
      let happens : Contains w.happenings (HeardAt x.end x.packet) = elim (since_or_happened s clocks air run v known w there x is of_slot) [
        | inl since ↦ hearings_happen s clocks air run v known (run_end s) within w there x is since reach.0 before
        | inr happened ↦ happened
      ] in
      let one = find (HeardAt x.end x.packet) happens in
      as_heard x is one.0 one.1 one.2

  as_ended : (x : Sending) → Contains (sendings_of air) x → x.node ≡ v → IsOfSlot s w x → (d : Event) → Contains events d
      → happening_of d ≡ SentAt x.end x.packet → Contains events (Ended x)
  as_ended x sent node of_slot (Heard y) in_it same = let not_same : HeardAt y.end y.packet ≡ SentAt x.end x.packet = same in absurd cc
  as_ended x sent node of_slot (Ended y) in_it same =
      let is = are_events s air v w w.happenings history.then_ (Ended y) in_it in
      let end : y.end ≡ x.end = cc in
      let packet : y.packet ≡ x.packet = cc in
      let x_lasts = (sent_lasts s clocks air run.heedful.trails x sent).1 in
      let y_lasts = (sent_lasts s clocks air run.heedful.trails y is.0).1 in
      let start : y.start ≡ x.start = (let long = ap (λ (q : List ℕ). airtime s.profile (length q)) packet in omega (arith, x_lasts, y_lasts, end, long)) in
      subst (λ (z : Sending). Contains events (Ended z)) (same_sending y x (is.2.channel ∙ sym of_slot.channel) (is.1 ∙ sym node) start end packet) in_it

  ended_all : (x : Sending) → Contains (sendings_of air) x → x.node ≡ v → IsOfSlot s w x → Contains events (Ended x)
  ended_all x sent node of_slot =
      let d = device_in s clocks air v (run_end s) in
      let start = (sent_lasts s clocks air run.heedful.trails x sent).0 in
      let made = (sent_below s clocks air run.heedful.trails v known (run_end s) within x).0 (record { there = sent; node = node; below = start }) in
      let lies = (slot_covered s clocks air run v known (run_end s) within w there x sent of_slot).0 in
      let closes = closing_tick in
      let early = in_run in
      elim ((sends_as_called s clocks air run v known (run_end s) within).ended x made) [
        | inl runs ↦ absurd (
            let left = subst (λ (o : Option Sending). IfSome o (λ x. run_end s ≤ x.end)) runs
            (known_before s v (clocks v) (heard_by air v) run.driven.sound (run.driven.drift v known) (run_end s) within).sending in
            omega (arith, left, lies, closes, early)
            )
        | inr is ↦ (
            let same : SameWindowSlot is.window w = record {
              rank = sym is.of_slot.channel ∙ of_slot.channel;
              frame = sym is.of_slot.frame ∙ of_slot.frame;
              slot = sym is.of_slot.slot ∙ of_slot.slot;
            } in
            let this : is.window ≡ w = one_a_slot s clocks air run v known (run_end s) within is.window w is.there there same in
            let one = find (SentAt x.end x.packet) (subst (λ (u : WindowLog). Contains u.happenings (SentAt x.end x.packet)) this is.event) in
            as_ended x sent node of_slot one.0 one.1 one.2
            )
      ]

  pub events_in_window : WindowHasEvents s air v w
  events_in_window = record {
    events = events;
    happened = happened;
    flood = floods_of_windows s clocks air run v known (run_end s) within w there
        ∙ sym (all_floods s air v w (flood_at_first (setup_of s v) w.by_alarm w) w.happenings history.then_);
    in_order = ordered s air v w w.happenings history.then_ history.in_turn distinct;
    heard = λ x. (heard_of x, λ is. heard_all x is.0 is.1);
    ended = λ x. (are_events s air v w w.happenings history.then_ (Ended x), λ is. ended_all x is.0 is.1 is.2);
  }

pub windows_have_events : WindowsHaveEvents
windows_have_events s clocks air driven lawful v known w there =
    events_in_window s clocks air (record { driven = driven; heedful = lawful_is_heedful s clocks air lawful }) lawful v known w there
