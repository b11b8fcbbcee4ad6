-- What happens at a node in one step of a flood.
use Rattle.std.proofs.Common.{◌≡◌, ℕ, ◌+◌, ◌<◌, ◌≤◌, List, [], ◌∷◌, Bool, true, not, ◌&&◌, ◌||◌, if◌then◌else◌, inl, inr, Some, None, refl, sym, ◌∙◌, ap, subst}
use Rattle.std.proofs.Common.{arith, ◌==◌}
use Rattle.std.specs.Prelude.{Contains, slice_set}
use Rattle.std.proofs.lemmas.Bool.{cases_lt, and_parts, or_cases, not-true, lt-ltb, ltb-true, eqb-true, both_ways}
use Rattle.std.proofs.lemmas.List.Elements.{Contains-append_cases, Contains-append_right}
use Rattle.std.proofs.lemmas.Option.{same_Some}
use Rattle.glossy_relay.specs.FloodState.{FloodState}
use Rattle.glossy_relay.specs.Relaying.{fits, reply_to, counter_of}
use Rattle.glossy_relay.specs.declared.flood.Reply.TheVariants.{Relay}
use Rattle.bus_terms.specs.Flooding.{Setting, Moment, has, pick, agrees, may_hear, hears}
use Rattle.radio_model.specs.declared.sending.Sending.{Sending}
use Rattle.air_log.specs.NodeEvents.{Event, Heard, Ended, sending_of_event, flood_after_event, flood_after_events, EventOccasion, event_occasions}
use Rattle.air_log.specs.NodeEvents.{EventsInOrder}
use Rattle.lwb_flood.specs.FloodRun.{counter, Run, FloodRun, initiates, IsParticipant, packet, flood_at_beginning, HearsIn}
use Rattle.lwb_base.proofs.Elements.{not_in_none, contains_head, contains_tail, contains_cases}
use Rattle.lwb_base.proofs.Options.{none_is}
use Rattle.bus_terms.proofs.Options.{heard_parts}
use Rattle.lwb_flood.proofs.EventOrder.{occasions_append, in_order_rest, order_head, occasion_of}
use Rattle.lwb_flood.proofs.FittingPackets.{fits_is, wanted}
use Rattle.lwb_flood.proofs.SendingTimes.{over, meets, event_sent, occasion_event, same_sending}
use Rattle.lwb_flood.proofs.Stations.{station}
use Rattle.lwb_flood.proofs.StepHearings.{heard_by_rule, origin_at, rival, silent_in, picked, few_sent}
use Rattle.lwb_flood.proofs.StepsOnAir.{Turn, IsAt}

-- what reception in this step says
pub record HearsParts (r : Run) (k v o : ℕ) (m : Moment) : Type 0 where
  pub here : IsParticipant r v
  pub quiet : m.sends v ≡ None
  pub few : m.times v < r.setting.limit
  pub picked : pick r.setting m k v ≡ Some o
  pub own : initiates r v → v ≡ o

pub parts_of : (r : Run) (k v o : ℕ) (m : Moment) → hears r.setting m k v ≡ Some o → HearsParts r k v o m
parts_of r k v o m is =
    let s = r.setting in
    let p = heard_parts (may_hear s m v) (λ i. (not (has s.initiators v) || (v == i)) && agrees (m.heard v) i) (pick s m k v) o is in
    let may = and_parts _ _ p.0 in
    let free = and_parts _ _ may.0 in
    let want = and_parts (not (has s.initiators v) || (v == o)) (agrees (m.heard v) o) p.2 in
    record {
      here = free.0;
      quiet = none_is (m.sends v) free.1;
      few = ltb-true (m.times v) s.limit may.1;
      picked = p.1;
      own = λ begun. elim (or_cases _ _ want.0) [
        | inl no_one ↦ absurd (both_ways (has s.initiators v) (not-true _ no_one) begun)
        | inr same ↦ eqb-true v o same
      ];
    }

hears_from : (s : Setting) (m : Moment) (k v o : ℕ) (b : Bool) → has s.everyone v ≡ true → m.sends v ≡ None → m.times v < s.limit
    → pick s m k v ≡ Some o → ((not (has s.initiators v) || (v == o)) && agrees (m.heard v) o) ≡ b
    → hears s m k v ≡ (if b then Some o else None)
hears_from s m k v o b here quiet less is want = rw (here, quiet, lt-ltb (m.times v) s.limit less, is, want) refl

pub relay_of : (w : FloodState) (p : List ℕ) → fits w p ≡ true → counter_of p < 11 → reply_to w p ≡ Relay (slice_set p 2 (counter_of p + 1))
relay_of w p fitting less = rw (fitting, lt-ltb (counter_of p) 11 less) refl

module _ {r : Run} {Tuned : ℕ → Sending → Type 0} (f : FloodRun r Tuned) {k : ℕ} (few : k ≤ 11) {m : Moment} (at : IsAt r k m) where
  abbrev s : Setting
  s = r.setting

  -- v receives by steps what it received on the air, if and only if it fits
  pub hears_is : (v o : ℕ) (x : Sending) → IsParticipant r v → HearsIn r Tuned v x → counter x ≡ k → initiates r o → x.packet ≡ packet r o k
      → hears s m k v ≡ (if fits (station r m v) x.packet then Some o else None)
  hears_is v o x here h step begun is =
      let quiet = silent_in f few at v x h step in
      let less = few_sent f few at v x here h step in
      let got = picked f few at v x o h step begun is in
      let want : fits (station r m v) x.packet ≡ wanted f few at v o = ap (λ (p : List ℕ). fits (station r m v) p) is
      ∙ fits_is f few at v o begun quiet less in
      hears_from s m k v o (fits (station r m v) x.packet) here quiet less got (sym want)

  -- a node has one event of a step at most
  pub heard_once : (v : ℕ) (x y : Sending) → HearsIn r Tuned v x → HearsIn r Tuned v y → counter x ≡ k → counter y ≡ k → x ≡ y
  heard_once v x y h g at_x at_y =
      let p = origin_at f few at x h.sent at_x in
      let q = origin_at f few at y g.sent at_y in
      let same : p.0 ≡ q.0 = same_Some p.0 q.0
      (sym (picked f few at v x p.0 h at_x p.1 p.2) ∙ picked f few at v y q.0 g at_y q.1 q.2) in
      let packets : x.packet ≡ y.packet = p.2 ∙ ap (λ (i : ℕ). packet r i k) same ∙ sym q.2 in
      let passes_x : s.passes k x.node v ≡ true = subst (λ (i : ℕ). s.passes i x.node v ≡ true) at_x h.arrives in
      let passes_y : s.passes k y.node v ≡ true = subst (λ (i : ℕ). s.passes i y.node v ≡ true) at_y g.arrives in
      let first = h.first y (rival f few at v x y h.sent g.sent at_x at_y passes_y) (sym packets) in
      let second = g.first x (rival f few at v y x g.sent h.sent at_y at_x passes_x) packets in
      let start : x.start ≡ y.start = omega arith in
      let node : x.node ≡ y.node = omega arith in
      same_sending r f.times x y h.sent g.sent node start packets

  never_both : (v : ℕ) (x y : Sending) → HearsIn r Tuned v x → Contains r.sendings y → y.node ≡ v → counter x ≡ k → counter y ≡ k → ⊥
  never_both v x y h sent node at_x at_y = h.silent y sent node (meets r f.times x y h.sent sent (at_x ∙ sym at_y))

  pub event_once : (v : ℕ) → IsParticipant r v → (d e : Event) → Contains (r.events v) d → Contains (r.events v) e → counter (sending_of_event d) ≡ k
      → counter (sending_of_event e) ≡ k → d ≡ e
  event_once v here (Heard x) (Heard y) in_d in_e at_d at_e =
      ap (λ (z : Sending). Heard z) (heard_once v x y (heard_by_rule r Tuned f v x here in_d) (heard_by_rule r Tuned f v y here in_e) at_d at_e)
  event_once v here (Heard x) (Ended y) in_d in_e at_d at_e =
      let z = (f.times.ended_events v y here).0 in_e in absurd (never_both v x y (heard_by_rule r Tuned f v x here in_d) z.0 z.1 at_d at_e)
  event_once v here (Ended x) (Heard y) in_d in_e at_d at_e =
      let z = (f.times.ended_events v x here).0 in_d in absurd (never_both v y x (heard_by_rule r Tuned f v y here in_e) z.0 z.1 at_e at_d)
  event_once v here (Ended x) (Ended y) in_d in_e at_d at_e =
      let z = (f.times.ended_events v x here).0 in_d in
      let w = (f.times.ended_events v y here).0 in_e in
      ap (λ (i : Sending). Ended i) (at.once x y z.0 w.0 at_d at_e (z.1 ∙ sym w.1))

  pub in_rest : (v : ℕ) (t : Turn r k v m) (e : Event) → Contains (r.events v) e → k ≤ counter (sending_of_event e) → Contains t.rest e
  in_rest v t e there more =
      elim (Contains-append_cases t.before t.rest e (subst (λ (l : List Event). Contains l e) t.whole there)) [
        | inl old ↦ (let less = t.earlier e old in absurd (omega arith))
        | inr is ↦ is
      ]

  pub of_rest : (v : ℕ) (t : Turn r k v m) (e : Event) → Contains t.rest e → Contains (r.events v) e
  of_rest v t e there = subst (λ (l : List Event). Contains l e) (sym t.whole) (Contains-append_right t.before t.rest e there)

  pub rest_in_order : (v : ℕ) → IsParticipant r v → (t : Turn r k v m) → EventsInOrder t.rest
  rest_in_order v here t = in_order_rest t.before t.rest (subst (λ (l : List Event). EventsInOrder l) t.whole (f.times.in_order v here))

  -- an event that ends no later is of no later step
  pub no_later_step : (v : ℕ) → IsParticipant r v → (d e : Event) → Contains (r.events v) d → Contains (r.events v) e
      → (sending_of_event d).end ≤ (sending_of_event e).end → counter (sending_of_event d) ≤ counter (sending_of_event e)
  no_later_step v here d e in_d in_e order =
      elim (cases_lt (counter (sending_of_event e)) (counter (sending_of_event d))) [
        | inl less ↦
            (let ends = f.times.lasts (sending_of_event d) (event_sent r f.times v d here in_d) in
            absurd (omega (
              arith,
              over r f.times (sending_of_event e) (sending_of_event d) (event_sent r f.times v e here in_e)
                  (event_sent r f.times v d here in_d) less,
              ends.1,
            )))
        | inr is ↦ is
      ]

  -- the occasion of this step comes first
  current_in : (v : ℕ) → IsParticipant r v → (w : FloodState) (rest : List Event) → ((e : Event) → Contains rest e → Contains (r.events v) e)
      → ((e : Event) → Contains rest e → k ≤ counter (sending_of_event e)) → EventsInOrder rest
      → (c : EventOccasion) → Contains (event_occasions w rest) c → counter (sending_of_event c.event) ≡ k → c.before ≡ w
  current_in v here w [] real later ordered c there step = absurd (not_in_none c there)
  current_in v here w (e ∷ es) real later ordered c there step =
      elim (contains_cases (record { before = w; event = e }) (event_occasions (flood_after_event w e) es) c there) [
        | inl is ↦ ap (λ (o : EventOccasion). o.before) (sym is)
        | inr after_it ↦
            (let in_es : Contains es c.event = occasion_event (flood_after_event w e) es c after_it in
            let order = order_head e es ordered c.event in_es in
            let in_c = real c.event (contains_tail e es c.event in_es) in
            let in_e = real e (contains_head e es) in
            let below = no_later_step v here e c.event in_e in_c order.0 in
            let above = later e (contains_head e es) in
            absurd (order.1 (event_once v here e c.event in_e in_c (omega arith) step)))
      ]

  pub current : (v : ℕ) → IsParticipant r v → (c : EventOccasion) → Contains (event_occasions (flood_at_beginning r v) (r.events v)) c
      → counter (sending_of_event c.event) ≡ k → c.before ≡ station r m v
  current v here c there step =
      let t = at.turns v here in
      elim (Contains-append_cases (event_occasions (flood_at_beginning r v) t.before)
      (event_occasions (flood_after_events (flood_at_beginning r v) t.before) t.rest) c
      (subst (λ (l : List EventOccasion). Contains l c)
      (ap (λ (l : List Event). event_occasions (flood_at_beginning r v) l) t.whole ∙ occasions_append (flood_at_beginning r v) t.before t.rest) there)) [
        | inl old ↦ (let less = t.earlier c.event (occasion_event (flood_at_beginning r v) t.before c old) in absurd (omega arith))
        | inr now ↦ current_in v here (flood_after_events (flood_at_beginning r v) t.before) t.rest (of_rest v t) t.later (rest_in_order v here t) c now step
            ∙ t.state
      ]

  -- each reception of this step has its occasion now
  pub occasion_now : (v : ℕ) (x : Sending) → IsParticipant r v → Contains (r.events v) (Heard x) → counter x ≡ k
      → Contains (event_occasions (flood_at_beginning r v) (r.events v)) (record { before = station r m v; event = Heard x })
  occasion_now v x here there step =
      let o = occasion_of (flood_at_beginning r v) (r.events v) (Heard x) there in
      subst (λ (w : FloodState). Contains (event_occasions (flood_at_beginning r v) (r.events v)) (record { before = w; event = Heard x }))
      (current v here (record {
        before = o.0;
        event = Heard x;
      }) o.1 step) o.1

  pub heard_event : (v : ℕ) (x : Sending) → IsParticipant r v → HearsIn r Tuned v x → Contains (r.events v) (Heard x)
  heard_event v x here h = (f.times.heard_events v x here).1 ((f.hears v x here).1 h)
