-- From the first step to the last.
use Rattle.std.proofs.Common.{◌≡◌, ℕ, zero, suc, ◌≤◌, ◌↔◌, List, [], ◌∷◌, ◌++◌, Bool, true, false, if◌then◌else◌, Option, Some, None, option_map, refl, sym}
use Rattle.std.proofs.Common.{◌∙◌, ap, subst, arith}
use Rattle.std.specs.Prelude.{Contains}
use Rattle.std.proofs.lemmas.Bool.{true≢false, cond-true}
use Rattle.std.proofs.lemmas.List.{append-nil}
use Rattle.std.proofs.lemmas.List.Elements.{Contains-append_right}
use Rattle.std.proofs.lemmas.Option.{same_Some}
use Rattle.lwb_packets.specs.declared.kind.Kind.{Kind}
use Rattle.glossy_relay.specs.FloodState.{FloodState}
use Rattle.glossy_relay.specs.Relaying.{fits, counter_of, accepted_of}
use Rattle.bus_terms.specs.Flooding.{Setting, moment, beginning, has, Sends, Hears, Accepts}
use Rattle.radio_model.specs.declared.sending.Sending.{Sending}
use Rattle.air_log.specs.NodeEvents.{Event, Heard, sending_of_event, flood_after_events}
use Rattle.lwb_flood.specs.FloodRun.{counter, Run, FloodRun, sending_of_run, initiates, IsParticipant, packet, flood_at_beginning}
use Rattle.lwb_flood.specs.FloodBySteps.{SendsOnAir, HearsOnAir, flood_at_end, IsFloodBySteps}
use Rattle.lwb_base.proofs.Elements.{not_in_none, contains_head}
use Rattle.glossy_relay.proofs.CountedPackets.{counter_set}
use Rattle.bus_terms.proofs.FirstHearings.{first_hearing, kept_hearing, heard_in_time}
use Rattle.lwb_flood.proofs.NextSteps.{step_on}
use Rattle.lwb_flood.proofs.SendingTimes.{timed, message_is, long, counter_is, same_origin, event_sent, occasion_event, same_sending}
use Rattle.lwb_flood.proofs.Stations.{of_parts, spell, station}
use Rattle.lwb_flood.proofs.StepHearings.{heard_by_rule, hearing_from}
use Rattle.lwb_flood.proofs.StepOccasions.{heard_event, heard_once, parts_of, hears_is, current, occasion_now}
use Rattle.lwb_flood.proofs.StepsOnAir.{SentIn, Turn, IsAt}

begun_parts : (b : Bool) (v o : ℕ) → (if b then Some v else None) ≡ Some o → (b ≡ true) × (v ≡ o)
begun_parts true v o is = (refl, same_Some v o is)
begun_parts false v o is = absurd (cc)

begun_station : (kind : Kind) (limit slot : ℕ) (b : Bool) (message : List ℕ) (spelled : ℕ × ℕ → List ℕ) (v : ℕ)
    → ◌≡◌ {A = FloodState} (record {
      kind = kind;
      slot = slot;
      limit = limit;
      sent = 0;
      waiting = b;
      initiated = b;
      first = if b then Some message else None;
    }) (of_parts kind limit slot b message spelled 0 (if b then Some v else None) None)
begun_station kind limit slot true message spelled v = refl
begun_station kind limit slot false message spelled v = refl

some_pair : (a b : List ℕ × ℕ) → Some a ≡ Some b → a ≡ b
some_pair a b is = cc

first_kept : (kind : Kind) (limit slot : ℕ) (b : Bool) (message : List ℕ) (spelled : ℕ × ℕ → List ℕ) (times : ℕ) (sends : Option ℕ)
    (heard : Option (ℕ × ℕ)) → b ≡ false
    → accepted_of (of_parts kind limit slot b message spelled times sends heard) ≡ option_map {U = List ℕ × ℕ} (λ h. (spelled h, counter_of (spelled h))) heard
first_kept kind limit slot true message spelled times sends heard is = absurd (true≢false is)
first_kept kind limit slot false message spelled times sends None is = refl
first_kept kind limit slot false message spelled times sends (Some h) is = refl

module _ (r : Run) (Tuned : ℕ → Sending → Type 0) (f : FloodRun r Tuned) where
  abbrev s : Setting
  s = r.setting

  first_sends : (x : Sending) (o : ℕ) → Contains r.sendings x → initiates r o → x.packet ≡ packet r o 0 → (beginning s).sends x.node ≡ Some o
  first_sends x o sent begun is =
      let b = f.times.beginnings x sent (counter_is r f.times o 0 x begun is) in
      let same : x.node ≡ o = same_origin r f.times x.node o 0 0 b.0 begun (message_is r f.times x.node b.0 ∙ sym b.2 ∙ is) in
      cond-true (has s.initiators x.node) (Some x.node) None b.0 ∙ ap (λ (i : ℕ). Some i) same

  first_sent : (v o : ℕ) → (beginning s).sends v ≡ Some o → SentIn r 0 v o
  first_sent v o is =
      let p = begun_parts (has s.initiators v) v o is in
      record {
        sending = sending_of_run r v (r.starts v) (r.message v);
        sent = f.times.begun v p.0;
        node = refl;
        packet = sym (message_is r f.times v p.0) ∙ ap (λ (i : ℕ). packet r i 0) p.1;
        initiator = subst (λ (i : ℕ). initiates r i) p.1 p.0;
      }

  first_once : (x y : Sending) → Contains r.sendings x → Contains r.sendings y → counter x ≡ 0 → counter y ≡ 0 → x.node ≡ y.node → x ≡ y
  first_once x y sent_x sent_y at_x at_y node =
      let b = f.times.beginnings x sent_x at_x in
      let c = f.times.beginnings y sent_y at_y in
      same_sending r f.times x y sent_x sent_y node (b.1 ∙ ap r.starts node ∙ sym c.1) (b.2 ∙ ap r.message node ∙ sym c.2)

  first_at : IsAt r 0 (beginning s)
  first_at = record {
    sends = first_sends;
    sent = first_sent;
    once = first_once;
    heard = λ v h is. absurd (nothing h is);
    turns = λ v here. record {
      before = [];
      rest = r.events v;
      whole = refl;
      earlier = λ e none. absurd (not_in_none e none);
      later = λ e there. omega arith;
      state = begun_station r.kind s.limit r.slot (has s.initiators v) (r.message v) (spell r) v;
    };
  }
    where
      nothing : (h : ℕ × ℕ) → None ≡ Some h → ⊥
      nothing h is = cc

  pub at_step : (k : ℕ) → k ≤ 12 → IsAt r k (moment s k)
  unfolding moment
  at_step zero few = first_at
  at_step (suc k) few = step_on f {k = k} (omega arith) (at_step k (omega arith))

  -- transmissions
  sends_on_air : (v k o : ℕ) → initiates r o → k ≤ 11 → SendsOnAir r v k o ↔ Sends s v k o
  sends_on_air v k o begun few = (there, back)
    where
      at : IsAt r k (moment s k)
      at = at_step k (omega arith)

      there : SendsOnAir r v k o → Sends s v k o
      there x = subst (λ (w : ℕ). (moment s k).sends w ≡ Some o) x.node (at.sends x.sending o x.sent begun x.packet)

      back : Sends s v k o → SendsOnAir r v k o
      back is = let z = at.sent v o is in record { sending = z.sending; sent = z.sent; node = z.node; packet = z.packet }

  sends_once : (x y : Sending) → Contains r.sendings x → Contains r.sendings y → x.node ≡ y.node → counter x ≡ counter y → x ≡ y
  sends_once x y sent_x sent_y node step =
      let few = (timed r f.times x sent_x).few in
      (at_step (counter x) (omega arith)).once x y sent_x sent_y refl (sym step) node

  -- receptions
  hears_once : (v : ℕ) (x y : Sending) → IsParticipant r v → Contains (r.events v) (Heard x) → Contains (r.events v) (Heard y) → counter x ≡ counter y → x ≡ y
  hears_once v x y here in_x in_y step =
      let h = heard_by_rule r Tuned f v x here in_x in
      let g = heard_by_rule r Tuned f v y here in_y in
      let few = (timed r f.times x h.sent).few in
      heard_once f few (at_step (counter x) (omega arith)) v x y h g refl (sym step)

  hears_on_air : (v k o : ℕ) → IsParticipant r v → initiates r o → k ≤ 11 → HearsOnAir r v k o ↔ Hears s v k o
  hears_on_air v k o here begun few = (there, back)
    where
      at : IsAt r k (moment s k)
      at = at_step k (omega arith)

      there : HearsOnAir r v k o → Hears s v k o
      there h =
          let x = h.sending in
          let event : Contains (r.events v) (Heard x) =
          occasion_event (flood_at_beginning r v) (r.events v) (record { before = h.flood; event = Heard x }) h.occasion in
          let air = heard_by_rule r Tuned f v x here event in
          let step = counter_is r f.times o k x begun h.packet in
          let now : h.flood ≡ station r (moment s k) v = current f few at v here (record {
            before = h.flood;
            event = Heard x;
          }) h.occasion step in
          let fitting : fits (station r (moment s k) v) x.packet ≡ true = subst (λ (w : FloodState). fits w x.packet ≡ true) now h.fitting in
          hears_is f few at v o x here air step begun h.packet
          ∙ cond-true (fits (station r (moment s k) v) x.packet) (Some o) None fitting

      fit_of : (b : Bool) → (if b then Some o else None) ≡ Some o → b ≡ true
      fit_of true is = refl
      fit_of false is = absurd (cc)

      back : Hears s v k o → HearsOnAir r v k o
      back is =
          let p = parts_of r k v o (moment s k) is in
          let z = hearing_from f few at v o here p.picked p.quiet p.few in
          let got = hears_is f few at v o z.sending here z.hears z.step begun z.packet in
          record {
            sending = z.sending;
            flood = station r (moment s k) v;
            occasion = occasion_now f few at v z.sending here
                (heard_event f few at v z.sending here z.hears) z.step;
            fitting = fit_of (fits (station r (moment s k) v) z.sending.packet) (sym got ∙ is);
            packet = z.packet;
          }

  -- the end
  last_state : (v : ℕ) → IsParticipant r v → (t : Turn r 12 v (moment s 12)) (rest : List Event) → t.rest ≡ rest → flood_at_end r v ≡ station r (moment s 12) v
  last_state v here t [] is = ap (λ (l : List Event). flood_after_events (flood_at_beginning r v) l)
      (t.whole ∙ ap (λ (l : List Event). t.before ++ l) is ∙ append-nil t.before) ∙ t.state
  last_state v here t (e ∷ es) is =
      let there : Contains t.rest e = subst (λ (l : List Event). Contains l e) (sym is) (contains_head e es) in
      let more = t.later e there in
      let sent = event_sent r f.times v e here (subst (λ (l : List Event). Contains l e) (sym t.whole) (Contains-append_right t.before t.rest e there)) in
      let few = (timed r f.times (sending_of_event e) sent).few in
      absurd (omega arith)

  ended_is : (v : ℕ) → IsParticipant r v → flood_at_end r v ≡ station r (moment s 12) v
  ended_is v here = let t = (at_step 12 (omega arith)).turns v here in last_state v here t t.rest refl

  accepted_is : (v : ℕ) → IsParticipant r v → has s.initiators v ≡ false
      → accepted_of (flood_at_end r v) ≡ option_map {U = List ℕ × ℕ} (λ h. (spell r h, counter_of (spell r h))) ((moment s 12).heard v)
  accepted_is v here listens = ap (λ (w : FloodState). accepted_of w) (ended_is v here)
      ∙ first_kept r.kind s.limit r.slot (has s.initiators v) (r.message v) (spell r) ((moment s 12).times v) ((moment s 12).sends v)
      ((moment s 12).heard v) listens

  known : (v : ℕ) (h : ℕ × ℕ) → (moment s 12).heard v ≡ Some h → initiates r h.0
  known v h is = ((at_step 12 (omega arith)).heard v h is).0

  counter_of_spelled : (h : ℕ × ℕ) → initiates r h.0 → counter_of (spell r h) ≡ h.1
  counter_of_spelled h begun = counter_set (r.message h.0) h.1 (long r f.times h.0 begun)

  accepts_only : (v : ℕ) (p : List ℕ) (k : ℕ) → IsParticipant r v → has s.initiators v ≡ false → accepted_of (flood_at_end r v) ≡ Some (p, k)
      → (o : ℕ) × initiates r o × (p ≡ packet r o k) × Accepts s v o k
  accepts_only v p k here listens is = by_cases ((moment s 12).heard v) refl (sym (accepted_is v here listens) ∙ is)
    where
      by_cases : (h : Option (ℕ × ℕ)) → (moment s 12).heard v ≡ h
          → option_map {U = List ℕ × ℕ} (λ h. (spell r h, counter_of (spell r h))) h ≡ Some (p, k)
          → (o : ℕ) × initiates r o × (p ≡ packet r o k) × Accepts s v o k
      by_cases None at is = absurd (cc)
      by_cases (Some h) at is =
          let begun = known v h at in
          let pair : (spell r h, counter_of (spell r h)) ≡ (p, k) = some_pair (spell r h, counter_of (spell r h)) (p, k) is in
          let step : h.1 ≡ k = sym (counter_of_spelled h begun) ∙ ap (λ (q : List ℕ × ℕ). q.1) pair in
          let first = first_hearing s 12 v h at in (
            h.0,
            begun,
            sym (ap (λ (q : List ℕ × ℕ). q.0) pair)
                ∙ ap (λ (i : ℕ). packet r h.0 i) step,
            subst (λ (i : ℕ). Accepts s v h.0 i) step (record {
              here = here;
              listens = listens;
              hears = first.hears;
              first = λ i less. first.none i less h.0;
            }),
          )

  accepts_on_air : (v k o : ℕ) → IsParticipant r v → has s.initiators v ≡ false → initiates r o → accepted_of (flood_at_end r v) ≡ Some (packet r o k, k)
      ↔ Accepts s v o k
  accepts_on_air v k o here listens begun = (there, back)
    where
      there : accepted_of (flood_at_end r v) ≡ Some (packet r o k, k) → Accepts s v o k
      there is =
          let a = accepts_only v (packet r o k) k here listens is in
          subst (λ (p : ℕ). Accepts s v p k) (same_origin r f.times a.0 o k k a.1 begun (sym a.2)) a.3

      with_step : ℕ → Option (List ℕ × ℕ)
      with_step i = Some (packet r o k, i)

      back : Accepts s v o k → accepted_of (flood_at_end r v) ≡ Some (packet r o k, k)
      back a =
          let kept : (moment s 12).heard v ≡ Some (o, k) = kept_hearing s 12 v o k (heard_in_time s k v o a.hears) a in
          accepted_is v here listens ∙ ap (λ (h : Option (ℕ × ℕ)). option_map {U = List ℕ × ℕ} (λ h. (spell r h, counter_of (spell r h))) h) kept
          ∙ ap with_step (counter_of_spelled (o, k) begun)

  pub flood_by_steps : IsFloodBySteps r
  flood_by_steps = record {
    spelled = λ x sent. (let t = timed r f.times x sent in (t.origin, t.initiator, t.few, t.packet, t.near));
    sends = sends_on_air;
    sends_once = sends_once;
    hears_once = hears_once;
    hears = hears_on_air;
    accepts = accepts_on_air;
    accepts_only = accepts_only;
    times = λ v here. ap (λ (w : FloodState). w.sent) (ended_is v here);
  }
