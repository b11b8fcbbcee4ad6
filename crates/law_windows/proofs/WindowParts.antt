-- The part of each node in the floods of its windows.
use Rattle.std.proofs.Common.{◌≡◌, ◌≢◌, ℕ, ◌+◌, ◌-◌, ◌<◌, ◌≤◌, length, inl, inr, List, ◌∷◌, ◌++◌, Bool, true, false, nat_lt, if◌then◌else◌, Option, IfSome}
use Rattle.std.proofs.Common.{Contains, fold, map, refl, sym, ◌∙◌, ap, subst, arith}
use Rattle.lwb_base.proofs.Options.{none_not_some}
use Rattle.tick_clock.specs.Clocks.{due}
use Rattle.time_reference.specs.Zeros.{tick_at_offset, starting_offset}
use Rattle.glossy_relay.specs.FloodState.{FloodState}
use Rattle.glossy_relay.specs.Relaying.{reply_to, fits, relay_of, counter_of as count_of}
use Rattle.glossy_relay.specs.declared.flood.Reply.TheVariants.{Relay, Keep, Ignore}
use Rattle.glossy_relay.proofs.CountedPackets.{counter_set, fitting_long}
use Rattle.lwb_member.specs.Said.{bytes_of}
use Rattle.scenario_text.specs.ScenarioParts.{ScenarioParts}
use Rattle.scenario_text.specs.FloodParts.{knows}
use Rattle.radio_model.specs.declared.sending.Sending.{Sending}
use Rattle.radio_model.specs.Hearing.{IsTuned, counter_of_sending}
use Rattle.air_log.specs.declared.entry.Entry.{Entry}
use Rattle.air_log.specs.Entries.{sendings_of}
use Rattle.air_log.specs.HearsAir.{scene_of}
use Rattle.air_log.specs.Lawful.{Lawful}
use Rattle.air_log.proofs.SendingsKept.{profile_lasts}
use Rattle.air_log.specs.NodeEvents.{Event, Heard, Ended, flood_after_events, event_occasions}
use Rattle.scenario_text.specs.Setups.{setup_of}
use Rattle.air_log.specs.Trails.{run_end}
use Rattle.air_log.specs.WindowLogs.{WindowLog, HeardAt, SentAt, Closing}
use Rattle.law_trails.specs.TrailLinks.{device_in}
use Rattle.law_trails.proofs.HeedfulLogs.{lawful_is_heedful}
use Rattle.law_trails.proofs.OtherCounters.{first_place}
use Rattle.law_trails.proofs.SentInTrails.{sent_below, sent_lasts}
use Rattle.law_safety.specs.Invariant.{IsObedientRun}
use Rattle.law_windows.specs.OpenWindows.{SameWindowSlot}
use Rattle.law_windows.specs.WindowCalls.{RelaysIn, CallsFor}
use Rattle.law_windows.specs.WindowEvents.{happening_of, WindowHasEvents}
use Rattle.law_windows.specs.WindowFloods.{after_happening, flood_at_first}
use Rattle.law_windows.specs.WindowLaws.{NodesTakePart}
use Rattle.law_windows.specs.WindowParts.{SendsAt, IsSaid, IsAnswer, IsTunedBy, TakesPart}
use Rattle.law_windows.specs.WindowTimes.{IsOfSlot}
use Rattle.law_windows.proofs.ClosedByFrame.{closed_at_end}
use Rattle.law_windows.proofs.EventOccasions.{ComesFrom, comes_from, map_parts, same_flood, occasion_at, occasion_of}
use Rattle.law_windows.specs.WindowRadios.{sendings_in, sendings_by, IsOpenAt, IsTunedThen}
use Rattle.law_windows.proofs.CountedEnds.{few_early, early_few}
use Rattle.law_windows.proofs.WindowEvents.{windows_have_events, closing_known}
use Rattle.law_windows.proofs.WindowFacts.{one_a_slot, radios_on, sends_as_called, slot_covered}

-- a relay is the packet with the next counter
relayed_so : (b c : Bool) (p q : List ℕ) → (if b then (if c then Relay p else Keep) else Ignore) ≡ Relay q → (b ≡ true) × (p ≡ q)
relayed_so true true p q is = (refl, cc)
relayed_so true false p q is = absurd cc
relayed_so false c p q is = absurd cc

not_first : (f : FloodState) (p q : List ℕ) → reply_to f p ≡ Relay q → count_of q ≡ 0 → ⊥
not_first f p q is first =
    let both = relayed_so (fits f p) (nat_lt (count_of p) 11) (relay_of p) q is in
    let next = counter_set p (count_of p + 1) (fitting_long f p both.0) in
    let same : count_of (relay_of p) ≡ count_of q = ap count_of both.1 in
    omega (arith, next, same, first)

module _ (s : ScenarioParts) (clocks : ℕ → ℕ → ℕ) (air : List Entry) (run : IsObedientRun s clocks air) (lawful : Lawful s clocks air) (v : ℕ)
    (known : knows s.nodes v ≡ true)
    (w : WindowLog) (there : Contains (device_in s clocks air v (run_end s)).made.windows w) (has : WindowHasEvents s air v w) where
  within : run_end s ≤ run_end s
  within = omega arith

  abbrev first : FloodState
  first = flood_at_first (setup_of s v) w.by_alarm w

  -- what the window called for was sent
  sent_for : (tick : ℕ) (packet : List ℕ) → CallsFor s clocks v w tick packet → SendsAt s clocks air v w tick packet
  sent_for tick packet call = elim ((sends_as_called s clocks air run v known (run_end s) within).answered w tick packet there call) [
    | inl is ↦ (
        let below = (sent_below s clocks air run.heedful.trails v known (run_end s) within is.sending).1 is.there in
        record { sending = is.sending; there = below.there; node = below.node; of_slot = is.of_slot; at = is.start; packet_is = is.packet_is }
        )
    | inr still ↦ absurd (none_not_some w.closed still.open_ (closed_at_end s clocks air run v known w there))
  ]

  -- and what was sent in its slot it called for
  called_for : (x : Sending) → Contains (sendings_of air) x → x.node ≡ v → IsOfSlot s w x → CallsFor s clocks v w x.start x.packet
  called_for x sent node of_slot =
      let start = (sent_lasts s clocks air run.heedful.trails x sent).0 in
      let made = (sent_below s clocks air run.heedful.trails v known (run_end s) within x).0 (record { there = sent; node = node; below = start }) in
      let is = (sends_as_called s clocks air run v known (run_end s) within).called x made in
      let same : SameWindowSlot is.window w = record {
        rank = sym is.of_slot.channel ∙ of_slot.channel;
        frame = sym is.of_slot.frame ∙ of_slot.frame;
        slot = sym is.of_slot.slot ∙ of_slot.slot;
      } in
      let this : is.window ≡ w = one_a_slot s clocks air run v known (run_end s) within is.window w is.there there same in
      subst (λ (u : WindowLog). CallsFor s clocks v u x.start x.packet) this is.call

  begins_by : (x : Sending) → counter_of_sending x ≡ 0 → CallsFor s clocks v w x.start x.packet → IsSaid s clocks air v w x
  begins_by x zero (inl begins) = record {
    by_alarm = begins.by_alarm;
    message = begins.message;
    said = begins.said;
    packet_is = begins.packet_is;
    at = begins.at;
  }
  begins_by x zero (inr relays) = absurd (not_first (fold after_happening first relays.earlier) relays.heard x.packet relays.answer zero)

  -- an occasion of the events for a relay
  answers_by : (x : Sending) → counter_of_sending x ≢ 0 → CallsFor s clocks v w x.start x.packet → IsAnswer s clocks air v w has.events x
  answers_by x more (inl begins) = absurd (more (ap count_of begins.packet_is ∙ (first_place begins.message w.slot).1))
  answers_by x more (inr relays) =
      let from = comes_from happening_of has.events relays.earlier (HeardAt relays.until relays.heard) relays.later (has.happened ∙ relays.is) in
      by_event x relays from from.at from.is from.at_is
    where
      by_event : (x : Sending) (relays : RelaysIn s clocks v w x.start x.packet)
          (from : ComesFrom happening_of has.events relays.earlier (HeardAt relays.until relays.heard)) (e : Event)
          → has.events ≡ from.first ++ e ∷ from.rest → happening_of e ≡ HeardAt relays.until relays.heard → IsAnswer s clocks air v w has.events x
      by_event x relays from (Ended h) is same = let not_same : SentAt h.end h.packet ≡ HeardAt relays.until relays.heard = same in absurd cc
      by_event x relays from (Heard h) is same =
          let until : h.end ≡ relays.until = cc in
          let heard : h.packet ≡ relays.heard = cc in
          let flood : flood_after_events first from.first ≡ fold after_happening first relays.earlier = same_flood first from.first
          ∙ ap (fold after_happening first) from.before_is in
          record {
            heard = h;
            flood = flood_after_events first from.first;
            occasion =
                subst (λ (es : List Event). Contains (event_occasions first es) (record { before = flood_after_events first from.first; event = Heard h }))
                (sym is) (occasion_at first from.first (Heard h) from.rest);
            answer = ap (λ (f : FloodState). reply_to f h.packet) flood ∙ ap (reply_to (fold after_happening first relays.earlier)) heard ∙ relays.answer;
            at = relays.at ∙ ap (λ (e : ℕ). due (clocks v) (clocks v e + s.profile.turn)) (sym until);
          }

  relays_by : (h : Sending) (f : FloodState) (q : List ℕ) → Contains (event_occasions first has.events) (record { before = f; event = Heard h })
      → reply_to f h.packet ≡ Relay q
      → RelaysIn s clocks v w (due (clocks v) (clocks v h.end + s.profile.turn)) q
  relays_by h f q in_it answer =
      let o = occasion_of first has.events (record { before = f; event = Heard h }) in_it in
      record {
        earlier = map happening_of o.first;
        until = h.end;
        heard = h.packet;
        later = map happening_of o.rest;
        is = sym has.happened ∙ ap (map happening_of) o.is ∙ map_parts happening_of o.first (Heard h) o.rest;
        answer = ap (λ (g : FloodState). reply_to g h.packet) (sym (o.before ∙ same_flood first o.first)) ∙ answer;
        at = refl;
      }

  -- ---- how long it is tuned

  -- the window is open at each tick of what is sent in the slot after its opening
  open_then : (x : Sending) → Contains (sendings_of air) x → IsOfSlot s w x → w.opened ≤ x.start → (k : ℕ) → x.start ≤ k → k < x.end
      → (k < run_end s) × IsOpenAt w k
  open_then x sent of_slot since k from until =
      let lies = (slot_covered s clocks air run v known (run_end s) within w there x sent of_slot).0 in
      let closing = closing_known s clocks air run lawful v known w there in
      let at = closing.2 in
      let by = closing.3 in (
        omega (arith, until, lies, at, by),
        record {
          since = omega (arith, since, from);
          until = subst (λ (c : Option Closing). IfSome c (λ c. k < c.tick)) (sym closing.1) (omega (arith, until, lies, at));
        },
      )

  tuned_then : IsTunedThen s air v (run_end s) w
  tuned_then = radios_on s clocks air run v known (run_end s) within w there

  same_count : (k : ℕ) → sendings_in k (map happening_of has.events) ≡ sendings_by k w
  same_count k = ap (sendings_in k) has.happened

  some_sends : 1 ≤ s.sends
  some_sends = run.driven.sound.some_sends

  tuned_by : IsTunedBy s clocks air v w has.events
  tuned_by = record {
    tuned = λ x far sent of_slot since off k from until. (
        let open_ = open_then x sent of_slot since k from until in
        let some = some_sends in
        let few = few_early k (s.sends - 1) far has.events has.in_order (omega (arith, off, until)) in
        let count = same_count k in
        subst (λ (r : ℕ). IsTuned (scene_of s.profile s.trace air) v r k) (sym of_slot.channel)
        (tuned_then.tuned k open_.0 open_.1 (omega (arith, few, count, some))));
    only = λ x far sent of_slot since tuned before. (
        let lasts = (sent_lasts s clocks air run.heedful.trails x sent).1 in
        let long = profile_lasts s.profile run.driven.sound.profile (length x.packet) in
        let k : ℕ = x.end - 1 in
        let from : x.start ≤ k = omega (arith, lasts, long) in
        let until : k < x.end = omega (arith, lasts, long) in
        let open_ = open_then x sent of_slot since k from until in
        let only = (tuned_then.only k x.rank open_.0 open_.1 (tuned k from until)).1 in
        let count = same_count k in
        let early = early_few k (s.sends - 1) far has.events has.in_order (omega (arith, before, until)) (omega (arith, only, count)) in
        omega (arith, early, lasts, long));
  }

  takes_part : TakesPart s clocks air v w
  takes_part = record {
    has = has;
    begun = λ m alarm said. sent_for (tick_at_offset (clocks v) w.after.zero (starting_offset s.profile w.slot)) (bytes_of m w.slot)
        (inl (record { by_alarm = alarm; message = m; said = said; packet_is = refl; at = refl }));
    beginnings = λ x sent node of_slot zero. begins_by x zero (called_for x sent node of_slot);
    relayed = λ h f q in_it answer. sent_for (due (clocks v) (clocks v h.end + s.profile.turn)) q (inr (relays_by h f q in_it answer));
    relays = λ x sent node of_slot more. answers_by x more (called_for x sent node of_slot);
    radio = tuned_by;
  }

pub nodes_take_part : NodesTakePart
nodes_take_part s clocks air driven lawful v known w there =
    takes_part s clocks air (record { driven = driven; heedful = lawful_is_heedful s clocks air lawful }) lawful v known w there
    (windows_have_events s clocks air driven lawful v known w there)
