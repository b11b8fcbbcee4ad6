-- The next step of each node.
use Rattle.std.proofs.Common.{◌≡◌, ℕ, suc, ◌+◌, ◌<◌, ◌≤◌, List, [], ◌∷◌, ◌++◌, Bool, true, false, if◌then◌else◌, inl, inr, Option, Some, None, is_some, refl}
use Rattle.std.proofs.Common.{sym, ◌∙◌, ap, subst, arith, nat_lt, append_assoc}
use Rattle.std.specs.Prelude.{Contains, slice_index, slice_set}
use Rattle.std.proofs.lemmas.Bool.{cases_lt, lt-ltb, ltb-true, cond-true}
use Rattle.std.proofs.lemmas.List.{set-set}
use Rattle.std.proofs.lemmas.List.Elements.{Contains-append_cases}
use Rattle.glossy_relay.specs.FloodState.{FloodState}
use Rattle.glossy_relay.specs.Relaying.{fits, after_heard, after_sent}
use Rattle.bus_terms.specs.Flooding.{Setting, Moment, has, hears, first_heard, next, STEPS}
use Rattle.radio_model.specs.declared.sending.Sending.{Sending}
use Rattle.air_log.specs.NodeEvents.{Event, Heard, Ended, sending_of_event, flood_after_event, EventsInOrder}
use Rattle.lwb_flood.specs.FloodRun.{counter, Run, FloodRun, sending_of_run, initiates, IsParticipant, packet, flood_at_beginning, HearsIn}
use Rattle.lwb_base.proofs.Elements.{not_in_none, contains_head, contains_tail, contains_cases}
use Rattle.lwb_base.proofs.Options.{not_both}
use Rattle.bus_terms.proofs.Options.{inspect, sends_parts}
use Rattle.glossy_relay.proofs.CountedPackets.{counter_set, relayed_parts, fitting_long}
use Rattle.lwb_flood.proofs.EventOrder.{after_all_append, order_head}
use Rattle.lwb_flood.proofs.SendingTimes.{counter_is, same_origin, occasion_event, same_sending}
use Rattle.lwb_flood.proofs.Stations.{of_parts, spell, station, quiet_state, ended_state, heard_state}
use Rattle.lwb_flood.proofs.StepHearings.{heard_by_rule, origin_at, counter_sent, silent_in, begun_of, hearing_from}
use Rattle.lwb_flood.proofs.StepOccasions.{parts_of, relay_of, heard_once, event_once, no_later_step, current}
use Rattle.lwb_flood.proofs.StepOccasions.{occasion_now, hears_is, in_rest, of_rest, rest_in_order, heard_event}
use Rattle.lwb_flood.proofs.StepsOnAir.{SentIn, Turn, IsAt}

module _ {r : Run} {Tuned : ℕ → Sending → Type 0} (f : FloodRun r Tuned) {k : ℕ} (few : k ≤ 11) {m : Moment} (at : IsAt r k m) where
  abbrev s : Setting
  s = r.setting

  abbrev m' : Moment
  m' = next s k m

  -- nothing happens at v in this step
  quiet_sends : (v : ℕ) → IsParticipant r v → (t : Turn r k v m) → ((e : Event) → Contains t.rest e → k < counter (sending_of_event e)) → m.sends v ≡ None
  quiet_sends v here t none =
      elim (inspect (m.sends v)) [
        | inl is ↦ is
        | inr some ↦ (let z = at.sent v some.0 some.1 in
            let step = counter_sent f few at v some.0 z in
            let ended = (f.times.ended_events v z.sending here).1 (z.sent, z.node) in
            let more = none (Ended z.sending) (in_rest f few at v t (Ended z.sending) ended (omega arith)) in
            absurd (omega arith))
      ]

  quiet_hears : (v : ℕ) → IsParticipant r v → (t : Turn r k v m) → ((e : Event) → Contains t.rest e → k < counter (sending_of_event e)) → hears s m k v ≡ None
  quiet_hears v here t none =
      elim (inspect (hears s m k v)) [
        | inl is ↦ is
        | inr some ↦ (let p = parts_of r k v some.0 m some.1 in
            let z = hearing_from f few at v some.0 here p.picked p.quiet p.few in
            let step = z.step in
            let more = none (Heard z.sending) (in_rest f few at v t (Heard z.sending) (heard_event f few at v z.sending here z.hears) (omega arith)) in
            absurd (omega arith))
      ]

  -- a node that sends receives nothing
  sends_hears : (v o : ℕ) → m.sends v ≡ Some o → hears s m k v ≡ None
  sends_hears v o is =
      elim (inspect (hears s m k v)) [
        | inl none ↦ none
        | inr some ↦ absurd (not_both (m.sends v) o (parts_of r k v some.0 m some.1).quiet is)
      ]

  abbrev then_at : ℕ → Option ℕ → Option ℕ → FloodState
  then_at v sends heard = of_parts r.kind s.limit r.slot (has s.initiators v) (r.message v) (spell r) (m.times v + (if is_some sends then 1 else 0))
      (if nat_lt (k + 1) STEPS then heard else None) (first_heard (m.heard v) k heard)

  abbrev now_at : ℕ → Option ℕ → FloodState
  now_at v sends = of_parts r.kind s.limit r.slot (has s.initiators v) (r.message v) (spell r) (m.times v) sends (m.heard v)

  stays : (v : ℕ) → m.sends v ≡ None → hears s m k v ≡ None → station r m v ≡ station r m' v
  stays v quiet deaf =
      ap (now_at v) quiet
      ∙ quiet_state r.kind s.limit r.slot (has s.initiators v) (r.message v) (spell r) (m.times v) k (nat_lt (k + 1) STEPS) (m.heard v)
      ∙ ap (λ (o : Option ℕ). then_at v o None) (sym quiet) ∙ ap (then_at v (m.sends v)) (sym deaf)

  after_ended : (v o : ℕ) → m.sends v ≡ Some o → after_sent (station r m v) ≡ station r m' v
  after_ended v o is =
      ap (λ (w : Option ℕ). after_sent (now_at v w)) is
      ∙ ended_state r.kind s.limit r.slot (has s.initiators v) (r.message v) (spell r) (m.times v) k (nat_lt (k + 1) STEPS) o (m.heard v)
      ∙ ap (λ (w : Option ℕ). then_at v w None) (sym is) ∙ ap (then_at v (m.sends v)) (sym (sends_hears v o is))

  after_hearing : (v : ℕ) (x : Sending) → IsParticipant r v → HearsIn r Tuned v x → counter x ≡ k → after_heard (station r m v) x.packet ≡ station r m' v
  after_hearing v x here h step =
      let quiet = silent_in f few at v x h step in
      let o = origin_at f few at x h.sent step in
      let got = hears_is f few at v o.0 x here h step o.1 o.2 in
      ap (λ (w : Option ℕ). after_heard (now_at v w) x.packet) quiet
      ∙ heard_state r.kind s.limit r.slot (has s.initiators v) (r.message v) (spell r) (m.times v) k x.packet o.0 (m.heard v) o.2 step
      ∙ ap (λ (w : Option ℕ). then_at v None (if fits (now_at v w) x.packet then Some o.0 else None)) (sym quiet)
      ∙ ap (λ (w : Option ℕ). then_at v w (if fits (station r m v) x.packet then Some o.0 else None)) (sym quiet) ∙ ap (then_at v (m.sends v)) (sym got)

  -- the events from the next step on
  next_after : (v : ℕ) → IsParticipant r v → (t : Turn r k v m) (e : Event) (es : List Event) → t.rest ≡ e ∷ es → counter (sending_of_event e) ≡ k
      → flood_after_event (station r m v) e ≡ station r m' v → Turn r (suc k) v m'
  next_after v here t e es is step becomes =
      let whole : r.events v ≡ (t.before ++ e ∷ []) ++ es = t.whole ∙ ap (λ (l : List Event). t.before ++ l) is ∙ sym (append_assoc t.before (e ∷ []) es) in
      let ordered = subst (λ (l : List Event). EventsInOrder l) is (rest_in_order f few at v here t) in
      record {
        before = t.before ++ e ∷ [];
        rest = es;
        whole = whole;
        earlier = λ d there. elim (Contains-append_cases t.before (e ∷ []) d there) [
          | inl old ↦ (let less = t.earlier d old in omega arith)
          | inr now ↦ elim (contains_cases e [] d now) [
            | inl same ↦ (let at_d : counter (sending_of_event d) ≡ k = ap (λ (i : Event). counter (sending_of_event i)) (sym same) ∙ step in omega arith)
            | inr none ↦ absurd (not_in_none d none)
          ]
        ];
        later = λ d there. later_on ordered d there;
        state = after_all_append (flood_at_beginning r v) t.before (e ∷ []) ∙ ap (λ (w : FloodState). flood_after_event w e) t.state ∙ becomes;
      }
    where
      in_t : (d : Event) → Contains (e ∷ es) d → Contains t.rest d
      in_t d there = subst (λ (l : List Event). Contains l d) (sym is) there

      later_on : EventsInOrder (e ∷ es) → (d : Event) → Contains es d → suc k ≤ counter (sending_of_event d)
      later_on ordered d there =
          let in_d = in_t d (contains_tail e es d there) in
          elim (cases_lt k (counter (sending_of_event d))) [
            | inl more ↦ more
            | inr less ↦ (let above = t.later d in_d in
                absurd ((order_head e es ordered d there).1
                (event_once f few at v here e d (of_rest f few at v t e (in_t e (contains_head e es))) (of_rest f few at v t d in_d) step (omega arith))))
          ]

  next_quiet : (v : ℕ) → IsParticipant r v → (t : Turn r k v m) → ((e : Event) → Contains t.rest e → k < counter (sending_of_event e)) → Turn r (suc k) v m'
  next_quiet v here t none = record {
    before = t.before;
    rest = t.rest;
    whole = t.whole;
    earlier = λ d there. (let less = t.earlier d there in omega arith);
    later = none;
    state = t.state ∙ stays v (quiet_sends v here t none) (quiet_hears v here t none);
  }

  next_event : (v : ℕ) → IsParticipant r v → (t : Turn r k v m) (e : Event) (es : List Event) → t.rest ≡ e ∷ es → counter (sending_of_event e) ≡ k
      → Turn r (suc k) v m'
  next_event v here t (Heard x) es is step =
      let there = of_rest f few at v t (Heard x) (subst (λ (l : List Event). Contains l (Heard x)) (sym is) (contains_head (Heard x) es)) in
      next_after v here t (Heard x) es is step (after_hearing v x here (heard_by_rule r Tuned f v x here there) step)
  next_event v here t (Ended x) es is step =
      let there = of_rest f few at v t (Ended x) (subst (λ (l : List Event). Contains l (Ended x)) (sym is) (contains_head (Ended x) es)) in
      let z = (f.times.ended_events v x here).0 there in
      let o = origin_at f few at x z.0 step in
      next_after v here t (Ended x) es is step (after_ended v o.0 (subst (λ (w : ℕ). m.sends w ≡ Some o.0) z.1 (at.sends x o.0 z.0 o.1 o.2)))

  next_turn : (v : ℕ) → IsParticipant r v → (t : Turn r k v m) (rest : List Event) → t.rest ≡ rest → Turn r (suc k) v m'
  next_turn v here t [] is = next_quiet v here t (λ e there. absurd (not_in_none e (subst (λ (l : List Event). Contains l e) is there)))
  next_turn v here t (e ∷ es) is =
      elim (cases_lt k (counter (sending_of_event e))) [
        | inl more ↦ next_quiet v here t (λ d there. all_more more d (subst (λ (l : List Event). Contains l d) is there))
        | inr less ↦ (let above = t.later e (in_t e (contains_head e es)) in next_event v here t e es is (omega arith))
      ]
    where
      in_t : (d : Event) → Contains (e ∷ es) d → Contains t.rest d
      in_t d there = subst (λ (l : List Event). Contains l d) (sym is) there

      ordered : EventsInOrder (e ∷ es)
      ordered = subst (λ (l : List Event). EventsInOrder l) is (rest_in_order f few at v here t)

      all_more : k < counter (sending_of_event e) → (d : Event) → Contains (e ∷ es) d → k < counter (sending_of_event d)
      all_more more d there =
          elim (contains_cases e es d there) [
            | inl same ↦ subst (λ (i : Event). k < counter (sending_of_event i)) same more
            | inr later ↦ (let below = no_later_step f few at v here e d (of_rest f few at v t e (in_t e (contains_head e es)))
                (of_rest f few at v t d (in_t d there)) (order_head e es ordered d later).0 in omega arith)
          ]

  -- a transmission of the next step, by its reception
  next_sending : (x : Sending) → Contains r.sendings x → counter x ≡ suc k
      → IsParticipant r x.node × ((y : Sending) × HearsIn r Tuned x.node y × (counter y ≡ k) × (fits (station r m x.node) y.packet ≡ true) × (k < 11)
      × (x.packet ≡ slice_set y.packet 2 (k + 1)) × (x.start ≡ r.relay_start x.node y.end))
  next_sending x sent step =
      let both = f.times.relays x sent (omega arith) in
      let v = x.node in
      let c = both.1 in
      let y = c.heard in
      let parts = relayed_parts c.flood y.packet x.packet c.answer in
      let there : Contains (r.events v) (Heard y) =
      occasion_event (flood_at_beginning r v) (r.events v) (record { before = c.flood; event = Heard y }) c.occasion in
      let raised : counter x ≡ counter y + 1 = ap (λ (p : List ℕ). slice_index p 2) parts.2
      ∙ counter_set y.packet (counter y + 1) (fitting_long c.flood y.packet parts.0) in
      let at_y : counter y ≡ k = omega (arith, raised) in
      let now : c.flood ≡ station r m v = current f few at v both.0 (record { before = c.flood; event = Heard y }) c.occasion at_y in
      let less = parts.1 in (
        both.0,
        (
          y,
          heard_by_rule r Tuned f v y both.0 there,
          at_y,
          subst (λ (w : FloodState). fits w y.packet ≡ true) now parts.0,
          omega arith,
          parts.2
              ∙ ap (λ (i : ℕ). slice_set y.packet 2 (i + 1)) at_y,
          c.start,
        ),
      )

  next_sends : (x : Sending) (o : ℕ) → Contains r.sendings x → initiates r o → x.packet ≡ packet r o (suc k) → m'.sends x.node ≡ Some o
  next_sends x o sent begun is =
      let n = next_sending x sent (counter_is r f.times o (suc k) x begun is) in
      let y = n.1.0 in
      let p = origin_at f few at y n.1.1.sent n.1.2 in
      let next_packet : x.packet ≡ packet r p.0 (k + 1) = n.1.5 ∙ ap (λ (q : List ℕ). slice_set q 2 (k + 1)) p.2 ∙ set-set (r.message p.0) 2 k (k + 1) in
      let same : p.0 ≡ o = same_origin r f.times p.0 o (k + 1) (suc k) p.1 begun (sym next_packet ∙ is) in
      let got = hears_is f few at x.node p.0 y n.0 n.1.1 n.1.2 p.1 p.2 in
      cond-true (nat_lt (k + 1) STEPS) (hears s m k x.node) None (let less = n.1.4 in lt-ltb (k + 1) 12 (omega arith)) ∙ got
      ∙ cond-true (fits (station r m x.node) y.packet) (Some p.0) None n.1.3 ∙ ap (λ (i : ℕ). Some i) same

  next_sent : (v o : ℕ) → m'.sends v ≡ Some o → SentIn r (suc k) v o
  next_sent v o is =
      let parts = sends_parts (nat_lt (k + 1) STEPS) (hears s m k v) o is in
      let next_less : k + 1 < 12 = ltb-true (k + 1) 12 parts.0 in
      let less : k < 11 = omega arith in
      let p = parts_of r k v o m parts.1 in
      let z = hearing_from f few at v o p.here p.picked p.quiet p.few in
      let y = z.sending in
      let got = hears_is f few at v o y p.here z.hears z.step z.initiator z.packet in
      let fitting : fits (station r m v) y.packet ≡ true = fit_of (fits (station r m v) y.packet) (sym got ∙ parts.1) in
      let answer = relay_of (station r m v) y.packet fitting (subst (λ (i : ℕ). i < 11) (sym z.step) less) in
      let x : Sending = sending_of_run r v (r.relay_start v y.end) (slice_set y.packet 2 (counter y + 1)) in
      let there = occasion_now f few at v y p.here (heard_event f few at v y p.here z.hears) z.step in
      let sent : Contains r.sendings x = f.times.relayed v (r.relay_start v y.end) (slice_set y.packet 2 (counter y + 1)) p.here (record {
        heard = y;
        flood = station r m v;
        occasion = there;
        answer = answer;
        start = refl;
      }) in
      record {
        sending = x;
        sent = sent;
        node = refl;
        packet = ap (λ (q : List ℕ). slice_set q 2 (counter y + 1)) z.packet ∙ set-set (r.message o) 2 k (counter y + 1)
            ∙ ap (λ (i : ℕ). packet r o i) (omega (arith, z.step));
        initiator = z.initiator;
      }
    where
      fit_of : (b : Bool) → (if b then Some o else None) ≡ Some o → b ≡ true
      fit_of true is = refl
      fit_of false is = absurd (cc)

  next_once : (x y : Sending) → Contains r.sendings x → Contains r.sendings y → counter x ≡ suc k → counter y ≡ suc k → x.node ≡ y.node → x ≡ y
  next_once x y sent_x sent_y at_x at_y node =
      let n = next_sending x sent_x at_x in
      let q = next_sending y sent_y at_y in
      let heard : HearsIn r Tuned x.node q.1.0 = subst (λ (v : ℕ). HearsIn r Tuned v q.1.0) (sym node) q.1.1 in
      let same : n.1.0 ≡ q.1.0 = heard_once f few at x.node n.1.0 q.1.0 n.1.1 heard n.1.2 q.1.2 in
      let start : x.start ≡ y.start = n.1.6 ∙ ap (λ (z : Sending). r.relay_start x.node z.end) same ∙ ap (λ (v : ℕ). r.relay_start v (q.1.0.end)) node
      ∙ sym q.1.6 in
      let packets : x.packet ≡ y.packet = n.1.5 ∙ ap (λ (z : Sending). slice_set z.packet 2 (k + 1)) same ∙ sym q.1.5 in
      same_sending r f.times x y sent_x sent_y node start packets

  next_heard : (v : ℕ) (h : ℕ × ℕ) → m'.heard v ≡ Some h → initiates r h.0 × (initiates r v → h.0 ≡ v)
  next_heard v h is = by_cases (m.heard v) (hears s m k v) (λ i. at.heard v i) (λ o. new o) is
    where
      new : (o : ℕ) → hears s m k v ≡ Some o → initiates r o × (initiates r v → o ≡ v)
      new o is = let p = parts_of r k v o m is in (begun_of f few at v o p.picked, λ begun. sym (p.own begun))

      by_cases : (old : Option (ℕ × ℕ)) (now : Option ℕ) → ((i : ℕ × ℕ) → old ≡ Some i → initiates r i.0 × (initiates r v → i.0 ≡ v))
          → ((o : ℕ) → now ≡ Some o → initiates r o × (initiates r v → o ≡ v))
          → first_heard old k now ≡ Some h → initiates r h.0 × (initiates r v → h.0 ≡ v)
      by_cases (Some i) now known fresh is = known h is
      by_cases None None known fresh is = absurd (cc)
      by_cases None (Some o) known fresh is =
          let same : (o, k) ≡ h = pair_same (o, k) h is in
          subst (λ (i : ℕ × ℕ). initiates r i.0 × (initiates r v → i.0 ≡ v)) same (fresh o refl)
        where
          pair_same : (a b : ℕ × ℕ) → Some a ≡ Some b → a ≡ b
          pair_same a b is = cc

  -- the next step
  pub step_on : IsAt r (suc k) m'
  step_on = record {
    sends = next_sends;
    sent = next_sent;
    once = next_once;
    heard = next_heard;
    turns = λ v here. (let t = at.turns v here in next_turn v here t t.rest refl);
  }
