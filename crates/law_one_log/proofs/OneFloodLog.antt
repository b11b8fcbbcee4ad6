-- One flood over the same clocks has one log, step by step.
use Rattle.std.proofs.Common.{◌≡◌, ◌≢◌, ℕ, zero, suc, ◌+◌, ◌-◌, ◌<◌, ◌≤◌, ◌↔◌, inl, inr, List, [], ◌∷◌, Some, Contains, AllPairs, get_or, true, refl, sym}
use Rattle.std.proofs.Common.{◌∙◌, ap, subst, arith}
use Rattle.std.proofs.lemmas.Bool.{cases_order}
use Rattle.lwb_base.specs.Profile.{one}
use Rattle.tick_clock.specs.Clocks.{due}
use Rattle.bus_terms.specs.Flooding.{Sends, Hears}
use Rattle.bus_terms.specs.FloodOfText.{setting}
use Rattle.radio_model.specs.declared.sending.Sending.{Sending}
use Rattle.radio_model.specs.OnAir.{Hearing, Tuning}
use Rattle.radio_model.specs.Hearing.{Rival}
use Rattle.lwb_base.proofs.Elements.{filter_from, in_filter, pairs_cons, pairs_tail, pairs_head, weaker_pairs}
use Rattle.scenario_text.specs.FloodParts.{FloodParts, knows}
use Rattle.air_log.specs.declared.entry.Entry.{Entry}
use Rattle.air_log.specs.Entries.{sendings_of, hearings_of, tunings_of, HasHeardEntry}
use Rattle.air_log.specs.FloodLaw.{FloodLaw, OPENING, CLOSING}
use Rattle.air_log.specs.HearsAir.{scene_of}
use Rattle.air_log.specs.NodeEvents.{Event, Heard, Ended, sending_of_event, own_end, own_ends}
use Rattle.air_log.proofs.StrictOrders.{same_order}
use Rattle.lwb_flood.specs.FloodBySteps.{IsFloodBySteps}
use Rattle.lwb_flood.specs.FloodLog.{HasClocks, HasSentEntry, HasHeard, run_of}
use Rattle.lwb_flood.specs.FloodRun.{counter}
use Rattle.law_one_log.specs.OneLog.{OneFloodLogLaw}
use Rattle.law_one_log.proofs.EntriesApart.{also_there}
use Rattle.lwb_flood.proofs.LogEntries.{lasting}
use Rattle.law_one_log.proofs.FloodFacts.{packet_at, same_sending, packet_is, timed, known, cause, meets}
use Rattle.law_one_log.proofs.SameElements.{same_elements}

-- what a sends in step k, b sends
abbrev SentToo : ℕ → List Entry → List Entry → Type 0
SentToo k a b = (x : Sending) → counter x ≡ k → Contains (sendings_of a) x → Contains (sendings_of b) x

-- two own transmissions that follow one another end so
abbrev EndsUp : Event → Event → Type 0
EndsUp (Heard x) e = Unit {0}
EndsUp (Ended x) (Heard y) = Unit {0}
EndsUp (Ended x) (Ended y) = x.end < y.end

abbrev Less : ℕ → ℕ → Type 0
Less m n = m < n

one_way : (m n : ℕ) → m < n → n < m → ⊥
one_way m n up down = omega (arith, up, down)

first_end : (x : Sending) (es : List Event) → AllPairs EndsUp (Ended x ∷ es) → (t : ℕ) → Contains (own_ends es) t → x.end < t
first_end x es all t there = let e = filter_from own_end es t there in by_event e.0 e.1 e.2
  where
    by_event : (e : Event) → Contains es e → own_end e ≡ Some t → x.end < t
    by_event (Heard y) at is = cc
    by_event (Ended y) at is =
        let same : y.end ≡ t = cc in
        let less = pairs_head EndsUp (Ended x) es all (Ended y) at in
        omega (arith, same, less)

ends_up : (es : List Event) → AllPairs EndsUp es → AllPairs Less (own_ends es)
ends_up [] all = λ i j d less within. absurd (omega (arith, within))
ends_up (Heard x ∷ es) all = ends_up es (pairs_tail EndsUp (Heard x) es all)
ends_up (Ended x ∷ es) all =
    pairs_cons Less x.end (own_ends es) (first_end x es all) (ends_up es (pairs_tail EndsUp (Ended x) es all))

-- the events of the log are these
abbrev pub StepsLaw : Type 0
StepsLaw = (f : FloodParts) (clocks : ℕ → ℕ → ℕ) (air : List Entry) → HasClocks f clocks → (law : FloodLaw f clocks air)
    → IsFloodBySteps (run_of f clocks air law)

abbrev pub SendsLaw : Type 0
SendsLaw = (f : FloodParts) (clocks : ℕ → ℕ → ℕ) (air : List Entry) → HasClocks f clocks → FloodLaw f clocks air
    → (v k : ℕ) → HasSentEntry air v k ↔ Sends (setting f) v k f.start

abbrev pub HearsLaw : Type 0
HearsLaw = (f : FloodParts) (clocks : ℕ → ℕ → ℕ) (air : List Entry) → HasClocks f clocks → FloodLaw f clocks air
    → (v k : ℕ) → knows f.nodes v ≡ true → HasHeard air v k ↔ Hears (setting f) v k f.start

module _ (steps : StepsLaw) (sends : SendsLaw) (hears : HearsLaw) (f : FloodParts) (clocks : ℕ → ℕ → ℕ) (is : HasClocks f clocks) where
  module _ (a b : List Entry) (law : FloodLaw f clocks a) (other : FloodLaw f clocks b) where
    abbrev in_a : IsFloodBySteps (run_of f clocks a law)
    in_a = steps f clocks a is law

    abbrev in_b : IsFloodBySteps (run_of f clocks b other)
    in_b = steps f clocks b is other

    -- of one step a node receives the same in both
    one_heard : (v k : ℕ) → SentToo k a b → SentToo k b a → (g h : Sending) → HasHeardEntry a v g → HasHeardEntry b v h → counter g ≡ k → counter h ≡ k → g ≡ h
    one_heard v k to from g h there also at at_too =
        let hears_g = ((law.hears v g).0 there).1 in
        let hears_h = ((other.hears v h).0 also).1 in
        let g_there = to g at hears_g.sent in
        let h_there = from h at_too hears_h.sent in
        let g_timed = timed f clocks a law in_a g hears_g.sent k at in
        let h_timed = timed f clocks a law in_a h h_there k at_too in
        let g_lasts = lasting f clocks a law g hears_g.sent in
        let h_lasts = lasting f clocks a law h h_there in
        let packet : h.packet ≡ g.packet =
        packet_is f clocks a law in_a h h_there
        ∙ ap (packet_at f) (at_too ∙ sym at)
        ∙ sym (packet_is f clocks a law in_a g hears_g.sent) in
        let rival : Rival (scene_of one f.trace a) v g h = record {
          sent = h_there;
          channel = h_lasts.0 ∙ sym g_lasts.0;
          meets = meets g h k g_timed.0 g_timed.1 h_timed.1 g_lasts.1 h_lasts.1;
          arrives = hears_h.arrives;
        } in
        let rival_back : Rival (scene_of one f.trace b) v h g = record {
          sent = g_there;
          channel = g_lasts.0 ∙ sym h_lasts.0;
          meets = meets h g k h_timed.0 h_timed.1 g_timed.1 h_lasts.1 g_lasts.1;
          arrives = hears_g.arrives;
        } in
        let up = hears_g.first h rival packet in
        let down = hears_h.first g rival_back (sym packet) in
        let up_start = up.start in
        let down_start = down.start in
        let start : g.start ≡ h.start = omega (arith, up_start, down_start) in
        let up_node = up.node start in
        let down_node = down.node (sym start) in
        same_sending g h (law.lasts g hears_g.sent) (law.lasts h h_there) (omega (arith, up_node, down_node)) start (sym packet)

    -- so it relays the same
    sent_next : (k : ℕ) → SentToo k a b → SentToo k b a → SentToo (suc k) a b
    sent_next k to from x at there =
        let v = x.node in
        let here = known f clocks a law in_a x there in
        let z = (sends f clocks b is other v (suc k)).1
        ((sends f clocks a is law v (suc k)).0 (record { sending = x; there = there; node = refl; counter = at })) in
        let y = z.sending in
        let relay = law.relays x there (λ none. omega (arith, at, none)) in
        let again = other.relays y z.there (λ none. omega (arith, z.counter, none)) in
        let caused = cause f clocks a law in_a x here relay in
        let caused_too = cause f clocks b other in_b y (known f clocks b other in_b y z.there) again in
        let heard_here : HasHeardEntry b v again.heard = subst (λ (u : ℕ). HasHeardEntry b u again.heard) z.node caused_too.0 in
        let heard : relay.heard ≡ again.heard = one_heard v k to from relay.heard again.heard caused.0 heard_here (omega (arith, at, caused.1))
        (omega (arith, z.counter, caused_too.1)) in
        let start : x.start ≡ y.start =
        relay.start
        ∙ ap (λ (w : Sending). due (clocks v) (clocks v w.end + one.turn)) heard
        ∙ ap (λ (u : ℕ). due (clocks u) (clocks u again.heard.end + one.turn)) (sym z.node)
        ∙ sym again.start in
        let packet : x.packet ≡ y.packet =
        packet_is f clocks a law in_a x there ∙ ap (packet_at f) (at ∙ sym z.counter) ∙ sym (packet_is f clocks b other in_b y z.there) in
        let same : x ≡ y = same_sending x y (law.lasts x there) (other.lasts y z.there) (sym z.node) start packet in
        subst (Contains (sendings_of b)) (sym same) z.there

    sent_first : SentToo 0 a b
    sent_first x at there = ((other.begun x).1 ((law.begun x).0 (there, at))).0

  module _ (a b : List Entry) (law : FloodLaw f clocks a) (other : FloodLaw f clocks b) where
    sent_both : (k : ℕ) → SentToo k a b × SentToo k b a
    sent_both zero = (sent_first a b law other, sent_first b a other law)
    sent_both (suc k) =
        let before = sent_both k in
        (sent_next a b law other k before.0 before.1, sent_next b a other law k before.1 before.0)

    sent_too : (x : Sending) → Contains (sendings_of a) x → Contains (sendings_of b) x
    sent_too x there = (sent_both (counter x)).0 x refl there

    heard_too : (h : Hearing) → Contains (hearings_of a) h → Contains (hearings_of b) h
    heard_too h there =
        let v = h.node in
        let x = h.sending in
        let k = counter x in
        let here = ((law.hears v x).0 there).0 in
        let z = (hears f clocks b is other v k here).1 ((hears f clocks a is law v k here).0 (record { sending = x; there = there; counter = refl })) in
        let both = sent_both k in
        let same = one_heard a b law other v k both.0 both.1 x z.sending there z.there refl z.counter in
        subst (HasHeardEntry b v) (sym same) z.there

    -- own transmissions of a node end one after the other
    own_up : (v : ℕ) → knows f.nodes v ≡ true → AllPairs EndsUp (law.events v)
    own_up v here =
        weaker_pairs (λ d e. ((sending_of_event d).end ≤ (sending_of_event e).end) × (d ≢ e)) EndsUp (law.events v) (law.happened v here).in_order
        (λ d e there also order. by_events d e there also order)
      where
        by_events : (d e : Event) → Contains (law.events v) d → Contains (law.events v) e → ((sending_of_event d).end ≤ (sending_of_event e).end) × (d ≢ e)
            → EndsUp d e
        by_events (Heard x) e there also order = tt
        by_events (Ended x) (Heard y) there also order = tt
        by_events (Ended x) (Ended y) there also order =
            let own = ((law.happened v here).sendings x).0 there in
            let own_too = ((law.happened v here).sendings y).0 also in
            let in_steps = steps f clocks a is law in
            let x_lasts = (lasting f clocks a law x own.0).1 in
            let y_lasts = (lasting f clocks a law y own_too.0).1 in
            let x_timed = timed f clocks a law in_steps x own.0 (counter x) refl in
            let y_timed = timed f clocks a law in_steps y own_too.0 (counter y) refl in
            let x_low = x_timed.1.below in
            let x_high = x_timed.1.above in
            let y_low = y_timed.1.below in
            let y_high = y_timed.1.above in
            let x_few = x_timed.0 in
            let y_few = y_timed.0 in
            let up = order.0 in
            elim (cases_order x.end y.end) [
              | inr (inl less) ↦ less
              | inr (inr more) ↦ absurd (omega (arith, up, more))
              | inl end ↦
                  let start : x.start ≡ y.start = omega (arith, end, x_lasts, y_lasts) in
                  let step : counter x ≡ counter y = omega (arith, start, x_low, x_high, y_low, y_high, x_few, y_few) in
                  let packet : x.packet ≡ y.packet =
                  packet_is f clocks a law in_steps x own.0 ∙ ap (packet_at f) step ∙ sym (packet_is f clocks a law in_steps y own_too.0) in
                  let same = same_sending x y (law.lasts x own.0) (law.lasts y own_too.0) (own.1 ∙ sym own_too.1) start packet in
                  absurd (order.1 (ap (λ (z : Sending). Ended z) same))
            ]

    ends_too : (v : ℕ) → knows f.nodes v ≡ true → (t : ℕ) → Contains (own_ends (law.events v)) t → Contains (own_ends (other.events v)) t
    ends_too v here t there = let e = filter_from own_end (law.events v) t there in by_event e.0 e.1 e.2
      where
        by_event : (e : Event) → Contains (law.events v) e → own_end e ≡ Some t → Contains (own_ends (other.events v)) t
        by_event (Heard y) at is = cc
        by_event (Ended y) at is =
            let own = ((law.happened v here).sendings y).0 at in
            let event = ((other.happened v here).sendings y).1 (sent_too y own.0, own.1) in
            in_filter own_end (other.events v) (Ended y) t event is

  module _ (a b : List Entry) (law : FloodLaw f clocks a) (other : FloodLaw f clocks b) where
    same_ends : (v : ℕ) → knows f.nodes v ≡ true → own_ends (law.events v) ≡ own_ends (other.events v)
    same_ends v here =
        same_order Less one_way (own_ends (law.events v)) (own_ends (other.events v)) (ends_up (law.events v) (own_up a b law other v here))
        (ends_up (other.events v) (own_up b a other law v here)) (ends_too a b law other v here) (ends_too b a other law v here)

    abbrev tuned_until : ℕ → ℕ → Tuning
    tuned_until v end = record { rank = 0; node = v; start = OPENING; end = end }

    tuned_too : (e : Tuning) → Contains (tunings_of a) e → Contains (tunings_of b) e
    tuned_too e there =
        let tuned = (law.tuned e).0 there in
        (other.tuned e).1 (tuned.0, tuned.1 ∙ ap (λ (l : List ℕ). tuned_until e.node (get_or l (f.sends - 1) CLOSING)) (same_ends e.node tuned.0))

    entries_too : (e : Entry) → Contains a e → Contains b e
    entries_too = also_there a b (sent_too a b law other) (heard_too a b law other) tuned_too

pub one_flood_log : StepsLaw → SendsLaw → HearsLaw → OneFloodLogLaw
one_flood_log steps sends hears f clocks a b is law other =
    same_elements a b law.once other.once (entries_too steps sends hears f clocks is a b law other) (entries_too steps sends hears f clocks is b a other law)
