-- One step of a flood on the air is one step of the flood by steps.
use Rattle.std.proofs.Common.{◌≡◌, ℕ, ◌+◌, ◌*◌, ◌<◌, ◌≤◌, List, true, inl, inr, Option, Some, None}
use Rattle.std.proofs.Common.{sym, ◌∙◌, ap, subst, arith}
use Rattle.std.specs.Prelude.{Contains, slice_index, ◌⊎◌}
use Rattle.std.specs.Option.{option_and_then}
use Rattle.std.proofs.lemmas.Bool.{cases_eq, cond-true}
use Rattle.std.proofs.lemmas.List.Elements.{Contains-append_left, Contains-append_right}
use Rattle.std.proofs.lemmas.Option.{same_Some}
use Rattle.lwb_base.proofs.Options.{not_both}
use Rattle.glossy_relay.specs.FloodState.{FloodState}
use Rattle.bus_terms.specs.Flooding.{Setting, Moment, has, offer, candidates, named, pick}
use Rattle.tick_clock.specs.Clocks.{Near}
use Rattle.radio_model.specs.declared.sending.Sending.{Sending}
use Rattle.radio_model.specs.Hearing.{Before, IsSilent, IsRival, IsAlone, IsCaptured}
use Rattle.air_log.specs.NodeEvents.{Event, Heard, sending_of_event, flood_after_events}
use Rattle.lwb_flood.specs.FloodRun.{counter, Run, FloodRun, initiates, IsParticipant, packet, flood_at_beginning, traffic_of_run, HearsIn}
use Rattle.bus_terms.proofs.Options.{inspect, only_when, only_from, in_filter, from_filter, sends_parts, named_parts}
use Rattle.lwb_flood.proofs.StepTimes.{close}
use Rattle.lwb_flood.proofs.SendingTimes.{timed, in_time, counter_is, same_origin, over, meets, one_step, not_over, event_sent}
use Rattle.lwb_flood.proofs.EventOrder.{earliest}
use Rattle.lwb_flood.proofs.StepsOnAir.{SentIn, Turn, IsAt}

-- of this step and origin, and reaches v
pub record Offered (r : Run) (k v o : ℕ) (x : Sending) : Type 0 where
  pub sent : Contains r.sendings x
  pub packet : x.packet ≡ packet r o k
  pub passes : r.setting.passes k x.node v ≡ true

-- v received a transmission of this step and origin
pub record HeardIn (r : Run) (Tuned : ℕ → Sending → Type 0) (k v o : ℕ) : Type 0 where
  pub sending : Sending
  pub hears : HearsIn r Tuned v sending
  pub step : counter sending ≡ k
  pub packet : sending.packet ≡ packet r o k
  pub initiator : initiates r o

-- what happened as a reception is received by the rule
pub heard_by_rule : (r : Run) (Tuned : ℕ → Sending → Type 0) → FloodRun r Tuned → (v : ℕ) (y : Sending) → IsParticipant r v
    → Contains (r.events v) (Heard y) → HearsIn r Tuned v y
heard_by_rule r Tuned f v y here there = (f.hears v y here).0 ((f.times.heard_events v y here).0 there)

module _ {r : Run} {Tuned : ℕ → Sending → Type 0} (f : FloodRun r Tuned) {k : ℕ} (few : k ≤ 11) {m : Moment} (at : IsAt r k m) where
  abbrev s : Setting
  s = r.setting

  -- the origin that u offers to v
  abbrev offer_to : ℕ → ℕ → Option ℕ
  offer_to v u = offer s m k v u

  offered : (v u o : ℕ) → s.passes k u v ≡ true → m.sends u ≡ Some o → offer_to v u ≡ Some o
  offered v u o passes sends = cond-true (s.passes k u v) (m.sends u) None passes ∙ sends

  pub origin_at : (x : Sending) → Contains r.sendings x → counter x ≡ k → (o : ℕ) × initiates r o × (x.packet ≡ packet r o k)
  origin_at x sent step = let t = timed r f.times x sent in (t.origin, t.initiator, t.packet ∙ ap (λ (i : ℕ). packet r t.origin i) step)

  pub counter_sent : (v o : ℕ) (z : SentIn r k v o) → counter z.sending ≡ k
  counter_sent v o z = counter_is r f.times o k z.sending z.initiator z.packet

  pub rival : (v : ℕ) (x y : Sending) → Contains r.sendings x → Contains r.sendings y → counter x ≡ k → counter y ≡ k → s.passes k y.node v ≡ true
      → IsRival (traffic_of_run r) v x y
  rival v x y sent_x sent_y at_x at_y passes = record {
    sent = sent_y;
    channel = (f.times.lasts y sent_y).0 ∙ sym (f.times.lasts x sent_x).0;
    meets = meets r f.times x y sent_x sent_y (at_x ∙ sym at_y);
    arrives = subst (λ (i : ℕ). s.passes i y.node v ≡ true) (sym at_y) passes;
  }

  -- what meets a transmission of this step is of this step
  pub rival_step : (v : ℕ) (x y : Sending) → Contains r.sendings x → counter x ≡ k → IsRival (traffic_of_run r) v x y → counter y ≡ k
  rival_step v x y sent_x at_x is = sym (one_step r f.times x y sent_x is.sent is.meets) ∙ at_x

  pub silent_in : (v : ℕ) (x : Sending) → HearsIn r Tuned v x → counter x ≡ k → m.sends v ≡ None
  silent_in v x h step =
      elim (inspect (m.sends v)) [
        | inl none ↦ none
        | inr some ↦ (let z = at.sent v some.0 some.1 in
            absurd (h.silent z.sending z.sent z.node (meets r f.times x z.sending h.sent z.sent (step ∙ sym (counter_sent v some.0 z)))))
      ]

  -- what is received is picked
  pub picked : (v : ℕ) (x : Sending) (o : ℕ) → HearsIn r Tuned v x → counter x ≡ k → initiates r o → x.packet ≡ packet r o k → pick s m k v ≡ Some o
  picked v x o h step begun is =
      let here : has s.everyone x.node ≡ true = (timed r f.times x h.sent).here in
      let passes : s.passes k x.node v ≡ true = subst (λ (i : ℕ). s.passes i x.node v ≡ true) step h.arrives in
      let mine : offer_to v x.node ≡ Some o = offered v x.node o passes (at.sends x o h.sent begun is) in
      only_when (candidates s m k v) (named s m k v) o (in_filter (offer_to v) s.everyone x.node o here mine)
      (elim h.chosen [
        | inl alone ↦ inl (λ p there. only p alone (from_filter (offer_to v) s.everyone p there))
        | inr c ↦ inr (chosen c)
      ])
    where
      only : (p : ℕ) → IsAlone (traffic_of_run r) v x → (u : ℕ) × (has s.everyone u ≡ true) × (offer_to v u ≡ Some p) → p ≡ o
      only p alone u =
          let parts = sends_parts (s.passes k u.0 v) (m.sends u.0) p u.2 in
          let z = at.sent u.0 p parts.1 in
          let close = rival v x z.sending h.sent z.sent step (counter_sent u.0 p z) (subst (λ (w : ℕ). s.passes k w v ≡ true) (sym z.node) parts.0) in
          same_origin r f.times p o k k z.initiator begun (sym z.packet ∙ alone z.sending close ∙ is)

      chosen : IsCaptured (traffic_of_run r) v x → named s m k v ≡ Some o
      chosen c =
          let at_step = rival_step v x c.winner h.sent step c.rival in
          let sends : m.sends c.winner.node ≡ Some o = at.sends c.winner o c.rival.sent begun (c.same ∙ is) in
          let passes : s.passes k c.winner.node v ≡ true = subst (λ (i : ℕ). s.passes i c.winner.node v ≡ true) at_step c.rival.arrives in
          let is_named : s.captured k v ≡ Some c.winner.node = subst (λ (i : ℕ). s.captured i v ≡ Some c.winner.node) step c.named in
          ap (λ (w : Option ℕ). option_and_then (offer_to v) w) is_named ∙ offered v c.winner.node o passes sends

  -- the events of a node around a transmission of this step
  early : (v : ℕ) (x : Sending) → IsParticipant r v → Contains r.sendings x → counter x ≡ k → (t : Turn r k v m) → (e : Event) → Contains t.before e
      → (sending_of_event e).end ≤ x.start
  early v x here sent step t e there =
      let event = subst (λ (l : List Event). Contains l e) (sym t.whole) (Contains-append_left t.before t.rest e there) in
      let less = t.earlier e there in
      omega (arith, over r f.times (sending_of_event e) x (event_sent r f.times v e here event) sent (omega arith))

  late : (v : ℕ) (x : Sending) → IsParticipant r v → Contains r.sendings x → counter x ≡ k → (t : Turn r k v m) → (e : Event) → Contains t.rest e
      → x.start < (sending_of_event e).end
  late v x here sent step t e there =
      let event = subst (λ (l : List Event). Contains l e) (sym t.whole) (Contains-append_right t.before t.rest e there) in
      let more = t.later e there in
      not_over r f.times x (sending_of_event e) sent (event_sent r f.times v e here event) (omega arith)

  sent_is : (v : ℕ) (t : Turn r k v m) → (flood_after_events (flood_at_beginning r v) t.before).sent ≡ m.times v
  sent_is v t = ap (λ (w : FloodState). w.sent) t.state

  pub few_sent : (v : ℕ) (x : Sending) → IsParticipant r v → HearsIn r Tuned v x → counter x ≡ k → m.times v < s.limit
  few_sent v x here h step =
      let t = at.turns v here in
      let less = (f.tuned v here x t.before t.rest h.sent (in_time r f.times x h.sent (timed r f.times x h.sent)) (record {
        whole = t.whole;
        ended = early v x here h.sent step t;
        later = late v x here h.sent step t;
      }) h.silent).0 h.tuned in
      subst (λ (n : ℕ). n < s.limit) (sent_is v t) less

  tuned_in : (v : ℕ) (x : Sending) → IsParticipant r v → Contains r.sendings x → counter x ≡ k → IsSilent (traffic_of_run r) v x → m.times v < s.limit
      → Tuned v x
  tuned_in v x here sent step silent less =
      let t = at.turns v here in
      (f.tuned v here x t.before t.rest sent (in_time r f.times x sent (timed r f.times x sent))
      (record { whole = t.whole; ended = early v x here sent step t; later = late v x here sent step t }) silent).1
      (subst (λ (n : ℕ). n < s.limit) (sym (sent_is v t)) less)

  -- what is picked is received
  decide : (v o u : ℕ) → initiates r o → ((x : Sending) × Offered r k v o x × (x.node ≡ u)) ⊎ ((x : Sending) → Offered r k v o x → x.node ≡ u → ⊥)
  decide v o u begun =
      elim (inspect (offer_to v u)) [
        | inl none ↦ inr (nothing none)
        | inr some ↦ elim (cases_eq some.0 o) [ inl same ↦ inl (found (some.1 ∙ ap (λ (p : ℕ). Some p) same)) | inr other ↦ inr (differs some.0 some.1 other) ]
      ]
    where
      is_offer : (x : Sending) → Offered r k v o x → x.node ≡ u → offer_to v u ≡ Some o
      is_offer x is node = subst (λ (w : ℕ). offer_to v w ≡ Some o) node (offered v x.node o is.passes (at.sends x o is.sent begun is.packet))

      nothing : offer_to v u ≡ None → (x : Sending) → Offered r k v o x → x.node ≡ u → ⊥
      nothing none x is node = not_both (offer_to v u) o none (is_offer x is node)

      differs : (p : ℕ) → offer_to v u ≡ Some p → (p ≡ o → ⊥) → (x : Sending) → Offered r k v o x → x.node ≡ u → ⊥
      differs p is_p other x is node = other (same_Some p o (sym is_p ∙ is_offer x is node))

      found : offer_to v u ≡ Some o → (x : Sending) × Offered r k v o x × (x.node ≡ u)
      found is =
          let parts = sends_parts (s.passes k u v) (m.sends u) o is in
          let z = at.sent u o parts.1 in
          (z.sending, record { sent = z.sent; packet = z.packet; passes = subst (λ (w : ℕ). s.passes k w v ≡ true) (sym z.node) parts.0 }, z.node)

  witness : (v o : ℕ) → pick s m k v ≡ Some o → (u : ℕ) × (offer_to v u ≡ Some o)
  witness v o is =
      elim (only_from (candidates s m k v) (named s m k v) o is) [
        | inl all ↦ (let u = from_filter (offer_to v) s.everyone o all.0 in (u.0, u.2))
        | inr other ↦ (let u = named_parts (offer_to v) (s.captured k v) o other in (u.0, u.2))
      ]

  pub begun_of : (v o : ℕ) → pick s m k v ≡ Some o → initiates r o
  begun_of v o is = let w = witness v o is in (at.sent w.0 o (sends_parts (s.passes k w.0 v) (m.sends w.0) o w.1).1).initiator

  offered_once : (v o : ℕ) → initiates r o → (x y : Sending) → Offered r k v o x → Offered r k v o y → x.node ≡ y.node → x ≡ y
  offered_once v o begun x y is is' node = at.once x y is.sent is'.sent (counter_is r f.times o k x begun is.packet)
      (counter_is r f.times o k y begun is'.packet) node

  hears_first : (v o : ℕ) → IsParticipant r v → pick s m k v ≡ Some o → m.sends v ≡ None → m.times v < s.limit
      → (x : Sending) → Offered r k v o x → ((y : Sending) → Offered r k v o y → has s.everyone y.node ≡ true → Before x y) → HearsIn r Tuned v x
  hears_first v o here is quiet less x mine first =
      let begun = begun_of v o is in
      let step : counter x ≡ k = counter_is r f.times o k x begun mine.packet in
      let passes : s.passes (counter x) x.node v ≡ true = subst (λ (i : ℕ). s.passes i x.node v ≡ true) (sym step) mine.passes in
      record {
        sent = mine.sent;
        tuned = tuned_in v x here mine.sent step (silent step) less;
        silent = silent step;
        arrives = passes;
        first = λ y rival same. first y (offer_of step y rival same) (timed r f.times y rival.sent).here;
        close = λ y rival same. near begun step y rival same;
        chosen = elim (only_from (candidates s m k v) (named s m k v) o is) [
          | inl all ↦ inl (λ y rival. alone begun step all.1 y rival)
          | inr other ↦ inr (winner begun step other)
        ];
      }
    where
      silent : counter x ≡ k → IsSilent (traffic_of_run r) v x
      silent step y sent node meet =
          let at_y : counter y ≡ k = sym (one_step r f.times x y mine.sent sent meet) ∙ step in
          let p = origin_at y sent at_y in
          not_both (m.sends v) p.0 quiet (subst (λ (w : ℕ). m.sends w ≡ Some p.0) node (at.sends y p.0 sent p.1 p.2))

      passes_of : (y : Sending) → counter y ≡ k → IsRival (traffic_of_run r) v x y → s.passes k y.node v ≡ true
      passes_of y at_y rival = subst (λ (i : ℕ). s.passes i y.node v ≡ true) at_y rival.arrives

      offer_of : counter x ≡ k → (y : Sending) → IsRival (traffic_of_run r) v x y → y.packet ≡ x.packet → Offered r k v o y
      offer_of step y rival same = record { sent = rival.sent; packet = same ∙ mine.packet; passes = passes_of y (rival_step v x y mine.sent step rival) rival }

      near : initiates r o → counter x ≡ k → (y : Sending) → IsRival (traffic_of_run r) v x y → y.packet ≡ x.packet → y.start ≤ x.start + r.delta
      near begun step y rival same =
          let t = timed r f.times x mine.sent in
          let u = timed r f.times y rival.sent in
          let at_y : counter y ≡ counter x = ap (λ (q : List ℕ). slice_index q 2) same in
          let origin : u.origin ≡ t.origin = same_origin r f.times u.origin t.origin (counter y) (counter x) u.initiator t.initiator
          (sym u.packet ∙ same ∙ t.packet) in
          let near_y : Near y.start (r.starts t.origin + counter x * (r.air + r.turn)) (counter x) =
          subst (λ (i : ℕ). Near y.start (r.starts t.origin + i * (r.air + r.turn)) i) at_y
          (subst (λ (p : ℕ). Near y.start (r.starts p + counter y * (r.air + r.turn)) (counter y)) origin u.near) in
          let room = f.times.displacement in
          omega (arith, close r.air r.turn (counter x) x.start y.start (r.starts t.origin) t.few t.near near_y, room)

      alone : initiates r o → counter x ≡ k → ((p : ℕ) → has (candidates s m k v) p ≡ true → p ≡ o) → IsAlone (traffic_of_run r) v x
      alone begun step all y rival =
          let at_y = rival_step v x y mine.sent step rival in
          let p = origin_at y rival.sent at_y in
          let offer_y : offer_to v y.node ≡ Some p.0 = offered v y.node p.0 (passes_of y at_y rival) (at.sends y p.0 rival.sent p.1 p.2) in
          let same : p.0 ≡ o = all p.0 (in_filter (offer_to v) s.everyone y.node p.0 (timed r f.times y rival.sent).here offer_y) in
          p.2 ∙ ap (λ (i : ℕ). packet r i k) same ∙ sym mine.packet

      winner : initiates r o → counter x ≡ k → named s m k v ≡ Some o → IsCaptured (traffic_of_run r) v x
      winner begun step other =
          let u = named_parts (offer_to v) (s.captured k v) o other in
          let parts = sends_parts (s.passes k u.0 v) (m.sends u.0) o u.2 in
          let z = at.sent u.0 o parts.1 in
          let near = rival v x z.sending mine.sent z.sent step (counter_sent u.0 o z) (subst (λ (w : ℕ). s.passes k w v ≡ true) (sym z.node) parts.0) in
          record {
            winner = z.sending;
            rival = near;
            same = z.packet ∙ sym mine.packet;
            named = ap (λ (i : ℕ). s.captured i v) step ∙ u.1 ∙ ap (λ (w : ℕ). Some w) (sym z.node);
          }

  pub hearing_from : (v o : ℕ) → IsParticipant r v → pick s m k v ≡ Some o → m.sends v ≡ None → m.times v < s.limit → HeardIn r Tuned k v o
  hearing_from v o here is quiet less =
      let begun = begun_of v o is in
      let w = witness v o is in
      let parts = sends_parts (s.passes k w.0 v) (m.sends w.0) o w.1 in
      let z = at.sent w.0 o parts.1 in
      let mine : Offered r k v o z.sending = record {
        sent = z.sent;
        packet = z.packet;
        passes = subst (λ (i : ℕ). s.passes k i v ≡ true) (sym z.node) parts.0;
      } in
      elim (earliest (Offered r k v o) (offered_once v o begun) (λ u. decide v o u begun) s.everyone) [
        | inl found ↦ record {
          sending = found.0;
          hears = hears_first v o here is quiet less found.0 found.1 found.2;
          step = counter_is r f.times o k found.0 begun found.1.packet;
          packet = found.1.packet;
          initiator = begun;
        }
        | inr nobody ↦ absurd (nobody z.sending mine (timed r f.times z.sending z.sent).here)
      ]
