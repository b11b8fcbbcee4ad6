-- A log that keeps the law of one flood is a run of the flood theorem.
use Rattle.std.proofs.Common.{◌≡◌, ℕ, ◌+◌, ◌-◌, ◌*◌, List, Bool, true, false, ◌||◌, if◌then◌else◌, inl, inr, Some, None, refl, sym, ◌∙◌, ap, subst, arith}
use Rattle.std.proofs.Common.{length, ◌==◌, eq-eqb}
use Rattle.std.specs.Prelude.{Contains}
use Rattle.std.proofs.lemmas.Bool.{or_cases, or_left, eqb-true, le-leb, false≢true}
use Rattle.std.proofs.lemmas.List.{length-set}
use Rattle.lwb_base.specs.Profile.{one, airtime}
use Rattle.link_trace.specs.Passes.{passes, captured}
use Rattle.tick_clock.specs.Clocks.{Near}
use Rattle.tick_clock.proofs.DueTicks.{turn}
use Rattle.lwb_packets.specs.DataPackets.{is_data}
use Rattle.lwb_packets.specs.declared.kind.Kind.TheVariants.{Payload}
use Rattle.glossy_relay.specs.FloodState.{FloodState, listening, initiating}
use Rattle.glossy_relay.specs.Relaying.{slot_of, counter_of}
use Rattle.scenario_text.specs.FloodParts.{FloodParts, knows}
use Rattle.air_log.specs.declared.entry.Entry.{Entry}
use Rattle.radio_model.specs.declared.sending.Sending.{Sending}
use Rattle.radio_model.specs.OnAir.{Tuning}
use Rattle.air_log.specs.Entries.{sendings_of, tunings_of}
use Rattle.air_log.specs.HearsAir.{scene_of}
use Rattle.radio_model.specs.Hearing.{Scene, frame_of_sending, TunedThrough}
use Rattle.air_log.specs.NodeEvents.{Heard, event_occasions}
use Rattle.air_log.specs.FloodLaw.{FloodLaw, IsRelay, OPENING, START, CLOSING, first_packet, first_flood, tuning_by, sending_at as lasting_at}
use Rattle.lwb_flood.specs.FloodRun.{Run, FloodRun, RunHasTimes, initiates, IsParticipant, counter, sending_of_run, flood_at_beginning, RelayedInRun}
use Rattle.lwb_flood.specs.FloodRun.{TurnsAround}
use Rattle.lwb_flood.specs.Windows.{IsListeningWindow}
use Rattle.lwb_flood.specs.FloodLog.{HasClocks, run_of}
use Rattle.lwb_flood.specs.RunOnAir.{IsPart}
use Rattle.lwb_flood.proofs.RuleInRun.{rule_in_run}
use Rattle.glossy_relay.proofs.CountedPackets.{slot_set, relayed_parts}
use Rattle.lwb_flood.proofs.SendingTimes.{occasion_event, timed}
use Rattle.glossy_relay.proofs.Spellings.{data_again}
use Rattle.lwb_flood.proofs.TunedWindows.{tuned_in_window}
use Rattle.lwb_flood.proofs.LogEntries.{ids_known, sender_known, heard_was_sent, event_was_sent, eight, lasting}

-- the two forms of a node's first flood
begins_by : (b : Bool) (start limit : ℕ)
    → ◌≡◌ {A = FloodState} (record {
      kind = Payload;
      slot = 1;
      limit = limit;
      sent = 0;
      waiting = b || false;
      initiated = b || false;
      first = if b || false then Some (first_packet start) else None;
    }) (if b then initiating (first_packet start) limit else listening Payload 1 limit)
begins_by true start limit = refl
begins_by false start limit = refl

module _ (f : FloodParts) (clocks : ℕ → ℕ → ℕ) (air : List Entry) (is : HasClocks f clocks) (law : FloodLaw f clocks air) where
  abbrev r : Run
  r = run_of f clocks air law

  abbrev scene : Scene
  scene = scene_of one f.trace air

  begins_is : (v : ℕ) → flood_at_beginning r v ≡ first_flood f v
  begins_is v = begins_by (f.start == v) f.start f.sends

  known : (v : ℕ) → IsParticipant r v → knows f.nodes v ≡ true
  known v here = sym (ids_known f.nodes v) ∙ here

  pub here_of : (v : ℕ) → knows f.nodes v ≡ true → IsParticipant r v
  here_of v there = ids_known f.nodes v ∙ there

  pub starter : (o : ℕ) → initiates r o → f.start ≡ o
  starter o begun = elim (or_cases (f.start == o) false begun) [ inl same ↦ eqb-true f.start o same | inr none ↦ absurd (false≢true none) ]

  pub start_begins : initiates r f.start
  start_begins = or_left (f.start == f.start) false (eq-eqb f.start f.start refl)

  starts_data : is_data (first_packet f.start) ≡ true
  starts_data = let range = is.start in rw (le-leb 1 f.start range.0, le-leb f.start 200 range.1) refl

  -- what is relayed
  to_relay : (v start : ℕ) (p : List ℕ) → RelayedInRun r v (sending_of_run r v start p) → IsRelay f (clocks v) (law.events v) (sending_of_run r v start p)
  to_relay v start p z = record {
    heard = z.heard;
    flood = z.flood;
    occasion =
        subst (λ (w : FloodState). Contains (event_occasions w (law.events v)) (record { before = z.flood; event = Heard z.heard })) (begins_is v) z.occasion;
    answer = z.answer;
    start = z.start;
  }

  from_relay : (x : Sending) → IsRelay f (clocks x.node) (law.events x.node) x → RelayedInRun r x.node x
  from_relay x z = record {
    heard = z.heard;
    flood = z.flood;
    occasion = subst (λ (w : FloodState). Contains (event_occasions w (law.events x.node)) (record { before = z.flood; event = Heard z.heard }))
        (sym (begins_is x.node)) z.occasion;
    answer = z.answer;
    start = z.start;
  }

  relay_sent : (v start : ℕ) (p : List ℕ) → IsParticipant r v → RelayedInRun r v (sending_of_run r v start p) → Contains r.sendings (sending_of_run r v start p)
  relay_sent v start p here z =
      let there = known v here in
      let parts = relayed_parts z.flood z.heard.packet p z.answer in
      let event : Contains (law.events v) (Heard z.heard) = occasion_event (flood_at_beginning r v) (law.events v) (record {
        before = z.flood;
        event = Heard z.heard;
      }) z.occasion in
      let size : length p ≡ 8 = ap (λ (q : List ℕ). length q) parts.2 ∙ length-set z.heard.packet 2 (counter_of z.heard.packet + 1)
      ∙ eight f clocks air law z.heard (event_was_sent f clocks air law v z.heard there event) in
      let end : start + 32768 ≡ start + airtime one (length p) = omega (arith, size) in
      law.relayed (sending_of_run r v start p) there
      (ap (λ (e : ℕ). record { rank = 0; node = v; start = start; end = e; packet = p }) end)
      (to_relay v start p z)

  turns : TurnsAround r
  turns v x here there time = let until = time.until in turn (clocks v) 12288 x.end (is.drift v (known v here)) (omega arith) (omega arith) (omega arith)

  pub log_times : RunHasTimes r
  log_times = record {
    room = record { room_to_turn = omega arith; room_to_overlap = omega arith; displacement = omega arith };
    initiators = record {
      there = λ o begun. subst (λ (v : ℕ). IsParticipant r v) (starter o begun) (here_of f.start is.sound.start_known);
      counter_zero = λ o begun. refl;
      spelled = λ o k begun few. data_again (first_packet f.start) k starts_data few;
      slot = λ o begun. refl;
      different = λ o p begun begun' same. sym (starter o begun) ∙ starter p begun';
      together = λ o p begun begun'. omega arith;
    };
    sent = record {
      lasts = λ x sent. lasting f clocks air law x sent;
      begun = λ o begun. subst (λ (v : ℕ). Contains r.sendings (sending_of_run r v START (first_packet f.start))) (starter o begun)
          ((law.begun (lasting_at f.start START (first_packet f.start))).1 refl).0;
      beginnings = λ x sent at. (let same = (law.begun x).0 (sent, at) in (
        subst (λ (v : ℕ). initiates r v) (sym (ap (λ (y : Sending). y.node) same)) start_begins,
        ap (λ (y : Sending). y.start) same,
        ap (λ (y : Sending). y.packet) same,
      ));
      relayed = relay_sent;
      relays = λ x sent more. (here_of x.node (sender_known f clocks air law x sent), from_relay x (law.relays x sent more));
    };
    happened = record {
      heard_events = λ v x here. (law.happened v (known v here)).hearings x;
      ended_events = λ v x here. (law.happened v (known v here)).sendings x;
      in_order = λ v here. (law.happened v (known v here)).in_order;
    };
    heard_sent = λ v x here there. heard_was_sent f clocks air law v x there;
    turned = turns;
  }

  -- all transmissions are of frame 5 and slot 1
  pub frame_is : (x : Sending) → Contains (sendings_of air) x → frame_of_sending one x ≡ 5
  frame_is x sent =
      let t = timed r log_times x sent in
      let few = t.few in
      let near : Near x.start (1344064000 + counter x * 45056) (counter x) = t.near in
      omega arith

  pub slot_is : (x : Sending) → Contains (sendings_of air) x → slot_of x.packet ≡ 1
  slot_is x sent = let t = timed r log_times x sent in ap slot_of t.packet ∙ slot_set (first_packet f.start) (counter x)

  -- so a link passes at the key of a transmission where it does in the step of its counter
  arrives_at : (v : ℕ) (x : Sending) → Contains (sendings_of air) x
      → passes f.trace (frame_of_sending one x) (slot_of x.packet) (counter x) x.node v ≡ r.setting.passes (counter x) x.node v
  arrives_at v x sent = ap (λ (i : ℕ). passes f.trace i (slot_of x.packet) (counter x) x.node v) (frame_is x sent)
      ∙ ap (λ (i : ℕ). passes f.trace 5 i (counter x) x.node v) (slot_is x sent)

  captured_at : (v : ℕ) (x : Sending) → Contains (sendings_of air) x
      → captured f.trace (frame_of_sending one x) (slot_of x.packet) (counter x) v ≡ r.setting.captured (counter x) v
  captured_at v x sent = ap (λ (i : ℕ). captured f.trace i (slot_of x.packet) (counter x) v) (frame_is x sent)
      ∙ ap (λ (i : ℕ). captured f.trace 5 i (counter x) v) (slot_is x sent)

  log_part : IsPart scene r
  log_part = record {
    delta = refl;
    sent = λ x there. (there, (lasting f clocks air law x there).0);
    channel = λ x y there sent rank meets. sent;
    own = λ x y there sent here meets. sent;
    passes_by = arrives_at;
    captured_by = captured_at;
  }

  abbrev pub Tuned : ℕ → Sending → Type 0
  Tuned v x = TunedThrough scene v x

  off_is : (v : ℕ) (t : Tuning) → Contains (tunings_of air) t → t.node ≡ v → t.end ≡ (tuning_by f.sends v (law.events v)).end
  off_is v t there node = ap (λ (i : Tuning). i.end) ((law.tuned t).0 there).1 ∙ ap (λ (w : ℕ). (tuning_by f.sends w (law.events w)).end) node

  window : (v : ℕ) → IsParticipant r v → IsListeningWindow r Tuned v OPENING CLOSING
  window v here = record {
    some = is.sound.some_sends;
    since = λ x time. (let since = time.since in omega arith);
    until = λ x time. (let until = time.until in omega arith);
    tuned = λ x sent since until t from below. record {
      tuning = tuning_by f.sends v (law.events v);
      there = (law.tuned (tuning_by f.sends v (law.events v))).1 (known v here, refl);
      node = refl;
      rank = sym (lasting f clocks air law x sent).0;
      since = omega (arith, since, from);
      until = omega (arith, until, below);
    };
    only = λ x sent time tuned. (let last = lasting f clocks air law x sent in
        let t = tuned (x.end - 1) (omega (arith, last.1)) (omega (arith, last.1)) in
        let off = off_is v t.tuning t.there t.node in
        let until = t.until in
        omega (arith, until, off, last.1));
  }

  pub log_run : FloodRun r Tuned
  log_run = record {
    times = log_times;
    hears = λ v x here. (
      λ there. (let h = (law.hears v x).0 there in (rule_in_run scene r log_part v x here h.1.sent).0 h.1),
      λ h. (law.hears v x).1 (known v here, (rule_in_run scene r log_part v x here h.sent).1 h),
    );
    tuned = λ v here. tuned_in_window r Tuned v OPENING CLOSING (λ x sent. (let last = lasting f clocks air law x sent in omega (arith, last.1)))
        (window v here) (λ z. ((law.happened v (known v here)).sendings z).0);
  }
