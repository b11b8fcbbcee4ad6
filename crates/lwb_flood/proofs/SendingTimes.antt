-- Each transmission of a flood has an initiator, and its time by its counter.
use Rattle.std.proofs.Common.{◌≡◌, ℕ, zero, suc, ◌+◌, ◌*◌, ◌<◌, ◌≤◌, List, [], ◌∷◌, true, inl, inr, refl, sym, ◌∙◌, ap, subst, arith, length}
use Rattle.std.specs.Prelude.{Contains, slice_index, slice_set}
use Rattle.std.proofs.lemmas.Bool.{cases_order, cases_lt}
use Rattle.std.proofs.lemmas.List.{set-set}
use Rattle.glossy_relay.specs.FloodState.{FloodState}
use Rattle.lwb_packets.specs.Body.{body}
use Rattle.glossy_relay.specs.Relaying.{is_spelling}
use Rattle.tick_clock.specs.Clocks.{Near}
use Rattle.radio_model.specs.declared.sending.Sending.{Sending}
use Rattle.air_log.specs.NodeEvents.{Event, Heard, Ended, sending_of_event, flood_after_event, EventOccasion, event_occasions}
use Rattle.air_log.proofs.SameSendings.{same_sending as equal_sendings}
use Rattle.lwb_flood.specs.FloodRun.{counter, Run, RunHasTimes, initiates, IsParticipant, packet, flood_at_beginning, InTime}
use Rattle.radio_model.specs.Hearing.{Meets}
use Rattle.lwb_base.proofs.Elements.{not_in_none, contains_head, contains_tail, contains_cases}
use Rattle.glossy_relay.proofs.CountedPackets.{counter_set, body_set, set_same, long_spelling, fitting_long, relayed_parts}
use Rattle.lwb_flood.proofs.StepTimes.{chained, in_order, meet, within}

-- the event of an occasion
pub occasion_event : (s : FloodState) (es : List Event) (c : EventOccasion) → Contains (event_occasions s es) c → Contains es c.event
occasion_event s [] c there = absurd (not_in_none c there)
occasion_event s (e ∷ es) c there =
    elim (contains_cases (record { before = s; event = e }) (event_occasions (flood_after_event s e) es) c there) [
      | inl is ↦ subst (λ (x : Event). Contains (e ∷ es) x) (ap (λ (o : EventOccasion). o.event) is) (contains_head e es)
      | inr later ↦ contains_tail e es c.event (occasion_event (flood_after_event s e) es c later)
    ]

-- the steps of a run
pub record Timed (r : Run) (x : Sending) : Type 0 where
  pub origin : ℕ
  pub initiator : initiates r origin
  pub few : counter x ≤ 11
  pub packet : x.packet ≡ packet r origin (counter x)
  pub near : Near x.start (r.starts origin + counter x * (r.air + r.turn)) (counter x)
  pub here : IsParticipant r x.node

module _ (r : Run) (f : RunHasTimes r) where
  pub message_is : (o : ℕ) → initiates r o → packet r o 0 ≡ r.message o
  message_is o is = set_same (r.message o) 0 (f.counter_zero o is)

  pub long : (o : ℕ) → initiates r o → 2 < length (r.message o)
  long o is = long_spelling r.kind (r.message o) (subst (λ (p : List ℕ). is_spelling r.kind p ≡ true) (message_is o is) (f.spelled o 0 is (omega arith)))

  pub counter_is : (o k : ℕ) (x : Sending) → initiates r o → x.packet ≡ packet r o k → counter x ≡ k
  counter_is o k x is at = ap (λ (p : List ℕ). slice_index p 2) at ∙ counter_set (r.message o) k (long o is)

  -- a packet tells its initiator
  pub same_origin : (o p k l : ℕ) → initiates r o → initiates r p → packet r o k ≡ packet r p l → o ≡ p
  same_origin o p k l is is' at = f.different o p is is' (sym (body_set (r.message o) k) ∙ ap body at ∙ body_set (r.message p) l)

  pub heard_sent : (v : ℕ) (y : Sending) → IsParticipant r v → Contains (r.events v) (Heard y) → Contains r.sendings y
  heard_sent v y here there = f.heard_sent v y here ((f.heard_events v y here).0 there)

  pub in_time : (x : Sending) → Contains r.sendings x → Timed r x → InTime r x
  in_time x sent t =
      let room = f.room_to_turn in
      let ends = f.lasts x sent in
      let w = within r.air r.turn (counter x) x.start (r.starts t.origin) (omega arith) t.few t.near in
      record { origin = t.origin; initiator = t.initiator; since = w.0; until = omega (arith, w.1, ends.1) }

  -- with a raised counter a packet is still its initiator's
  raised_packet : (y : Sending) (t : Timed r y) (p : List ℕ) → p ≡ slice_set y.packet 2 (counter y + 1) → p ≡ packet r t.origin (counter y + 1)
  raised_packet y t p is = is ∙ ap (λ (q : List ℕ). slice_set q 2 (counter y + 1)) t.packet ∙ set-set (r.message t.origin) 2 (counter y) (counter y + 1)

  timed_next : (k : ℕ) → ((y : Sending) → Contains r.sendings y → counter y ≡ k → Timed r y) → (x : Sending) → Contains r.sendings x
      → counter x ≡ suc k → Timed r x
  timed_next k before x sent at =
      let both = f.relays x sent (omega arith) in
      let c = both.1 in
      let y = c.heard in
      let parts = relayed_parts c.flood y.packet x.packet c.answer in
      let event : Contains (r.events x.node) (Heard y) = occasion_event (flood_at_beginning r x.node) (r.events x.node) _ c.occasion in
      let was_sent = heard_sent x.node y both.0 event in
      let hearing = (f.heard_events x.node y both.0).0 event in
      let raised : counter x ≡ counter y + 1 = ap (λ (p : List ℕ). slice_index p 2) parts.2
      ∙ counter_set y.packet (counter y + 1) (fitting_long c.flood y.packet parts.0) in
      let at_y : counter y ≡ k = omega (arith, raised) in
      let t = before y was_sent at_y in
      let turned = f.turned x.node y both.0 hearing (in_time y was_sent t) in
      let ends = f.lasts y was_sent in
      let is : x.packet ≡ packet r t.origin (counter y + 1) = raised_packet y t x.packet parts.2 in
      let step : counter x ≡ counter y + 1 = counter_is t.origin (counter y + 1) x t.initiator is in
      let near : Near x.start (r.starts t.origin + (counter y + 1) * (r.air + r.turn)) (counter y + 1) =
      chained r.air r.turn (counter y) y.start x.start (r.starts t.origin) t.near
      (subst (λ (s : ℕ). Near s (y.start + r.air + r.turn) 1) (sym c.start)
      (subst (λ (e : ℕ). Near (r.relay_start x.node y.end) (e + r.turn) 1) ends.1 turned)) in
      record {
        origin = t.origin;
        initiator = t.initiator;
        few = omega (arith, parts.1, step);
        packet = subst (λ (i : ℕ). x.packet ≡ packet r t.origin i) (sym step) is;
        near = subst (λ (i : ℕ). Near x.start (r.starts t.origin + i * (r.air + r.turn)) i) (sym step) near;
        here = both.0;
      }

  timed_at : (k : ℕ) (x : Sending) → Contains r.sendings x → counter x ≡ k → Timed r x
  timed_at zero x sent at =
      let b = f.beginnings x sent at in
      record {
        origin = x.node;
        initiator = b.0;
        few = omega arith;
        packet = b.2 ∙ sym (message_is x.node b.0) ∙ ap (λ (i : ℕ). packet r x.node i) (sym at);
        near = subst (λ (i : ℕ). Near x.start (r.starts x.node + i * (r.air + r.turn)) i) (sym at) (omega (arith, b.1));
        here = f.there x.node b.0;
      }
  timed_at (suc k) x sent at = timed_next k (timed_at k) x sent at

  pub timed : (x : Sending) → Contains r.sendings x → Timed r x
  timed x sent = timed_at (counter x) x sent refl

  -- a transmission of a step is over before one of a later step begins
  pub over : (x y : Sending) → Contains r.sendings x → Contains r.sendings y → counter x < counter y → x.end < y.start
  over x y sent_x sent_y less =
      let t = timed x sent_x in
      let u = timed y sent_y in
      let ends = f.lasts x sent_x in
      let apart : x.start + r.air < y.start = in_order r.air r.turn (counter x) (counter y) r.spread x.start y.start (r.starts t.origin)
      (r.starts u.origin) f.room_to_turn less u.few (f.together t.origin u.origin t.initiator u.initiator) t.near u.near in
      omega (arith, apart, ends.1)

  pub meets : (x y : Sending) → Contains r.sendings x → Contains r.sendings y → counter x ≡ counter y → Meets x y
  meets x y sent_x sent_y same =
      let t = timed x sent_x in
      let u = timed y sent_y in
      let ends_x = f.lasts x sent_x in
      let ends_y = f.lasts y sent_y in
      let m = meet r.air r.turn (counter x) r.spread x.start y.start (r.starts t.origin) (r.starts u.origin) f.room_to_overlap t.few
      (f.together t.origin u.origin t.initiator u.initiator) t.near
      (subst (λ (i : ℕ). Near y.start (r.starts u.origin + i * (r.air + r.turn)) i) (sym same) u.near) in
      record { before = omega (arith, m.below, ends_y.1); after = omega (arith, m.above, ends_x.1) }

  pub one_step : (x y : Sending) → Contains r.sendings x → Contains r.sendings y → Meets x y → counter x ≡ counter y
  one_step x y sent_x sent_y meet =
      elim (cases_order (counter x) (counter y)) [
        | inl same ↦ same
        | inr other ↦ elim other [
          | inl less ↦ absurd (omega (arith, over x y sent_x sent_y less, meet.after))
          | inr more ↦ absurd (omega (arith, over y x sent_y sent_x more, meet.before))
        ]
      ]

  -- a transmission of this step or a later one has not ended when one of this step starts
  pub not_over : (x y : Sending) → Contains r.sendings x → Contains r.sendings y → counter x ≤ counter y → x.start < y.end
  not_over x y sent_x sent_y less =
      elim (cases_lt (counter x) (counter y)) [
        | inl before ↦ (let room = f.room_to_overlap in let ends_x = f.lasts x sent_x in let ends_y = f.lasts y sent_y in
            omega (arith, over x y sent_x sent_y before, room, ends_x.1, ends_y.1))
        | inr at ↦ (let m = meets x y sent_x sent_y (omega arith) in omega (arith, m.before))
      ]

  pub event_sent : (v : ℕ) (e : Event) → IsParticipant r v → Contains (r.events v) e → Contains r.sendings (sending_of_event e)
  event_sent v (Heard y) here there = heard_sent v y here there
  event_sent v (Ended y) here there = ((f.ended_events v y here).0 there).0

  -- a transmission is known by its node, start and packet
  pub same_sending : (x y : Sending) → Contains r.sendings x → Contains r.sendings y → x.node ≡ y.node → x.start ≡ y.start → x.packet ≡ y.packet → x ≡ y
  same_sending x y sent_x sent_y node start packet =
      let last_x = f.lasts x sent_x in
      let last_y = f.lasts y sent_y in
      equal_sendings x y (last_x.0 ∙ sym last_y.0) node start (last_x.1 ∙ ap (λ (s : ℕ). s + r.air) start ∙ sym last_y.1) packet
