-- A log of two nodes keeps the law of one flood.
use Rattle.std.proofs.Common.{◌≡◌, ◌≢◌, ℕ, zero, suc, ◌+◌, ◌^◌, ◌≤◌, List, [], ◌∷◌, Bool, true, not, ◌&&◌, inl}
use Rattle.std.proofs.Common.{inr, refl, sym, ◌∙◌, ap, subst, arith, eq-eqb, ◌==◌, if◌then◌else◌}
use Rattle.std.specs.Prelude.{Contains, ◌⊎◌, All, AllPairs}
use Rattle.std.specs.List.{list_all}
use Rattle.std.proofs.lemmas.Bool.{or_cases, and_parts, eqb-true, false≢true, both_ways, not-true}
use Rattle.std.proofs.lemmas.List.Elements.{All-nil, All-cons}
use Rattle.std.proofs.lemmas.List.Kept.{AllPairs-cons}
use Rattle.lwb_base.specs.Profile.{one}
use Rattle.tick_clock.specs.Clocks.{due}
use Rattle.tick_clock.proofs.DueTicks.{due_at_most, due_is}
use Rattle.tick_clock.proofs.Readings.{true_clock}
use Rattle.glossy_relay.specs.Relaying.{counter_of, reply_to}
use Rattle.glossy_relay.specs.declared.flood.Reply.TheVariants.{Relay}
use Rattle.glossy_relay.proofs.CountedPackets.{relay_same}
use Rattle.scenario_text.specs.FloodParts.{knows}
use Rattle.air_log.specs.declared.entry.Entry.{Entry}
use Rattle.air_log.specs.declared.entry.Entry.TheVariants.{Sent, Heard as HeardOf, Tuned}
use Rattle.radio_model.specs.declared.sending.Sending.{Sending}
use Rattle.radio_model.specs.OnAir.{Hearing, Tuning}
use Rattle.air_log.specs.Entries.{sendings_of, hearings_of, tunings_of, node_of_entry}
use Rattle.radio_model.specs.Hearing.{Scene, Meets, Rival, Before, HearsInScene}
use Rattle.air_log.specs.HearsAir.{scene_of}
use Rattle.air_log.specs.NodeEvents.{Event, Heard, Ended, sending_of_event, EventsInOrder, flood_after_event, EventOccasion}
use Rattle.air_log.specs.FloodLaw.{FloodLaw, AreEventsOf, IsRelay, Lasts, START, first_packet, first_flood, tuning_by, sending_at}
use Rattle.air_log.specs.TwoNodeLog.{two_node_flood, true_time, packet_with, two_node_log}
use Rattle.air_log.proofs.EventKinds.{ended_not_heard, heard_not_ended}
use Rattle.lwb_base.proofs.Elements.{contains_head, contains_tail, one_of, one_of_two, all_passes}

-- such a clock comes to a reading at that tick
due_then : (x : ℕ) → x ≤ 2 ^ 47 → due (λ t. t) x ≡ x
due_then x small = omega (arith, due_at_most (λ t. t) x x (omega arith), (due_is (λ t. t) x true_clock small).0)

-- a number for the kind and node of an entry: no two of the log have the same
number_of : Entry → ℕ
number_of (Sent x) = x.node
number_of (HeardOf h) = 10 + h.node
number_of (Tuned t) = 20 + t.node

differ_from : Entry → List Entry → Bool
differ_from e es = list_all (λ d. not (number_of e == number_of d)) es

all_differ : List Entry → Bool
all_differ [] = true
all_differ (e ∷ es) = differ_from e es && all_differ es

differs : (e : Entry) (es : List Entry) → differ_from e es ≡ true → All (λ d. e ≢ d) es
unfolding differ_from
differs e [] all = All-nil (λ d. e ≢ d)
differs e (d ∷ es) all =
    let both = and_parts (not (number_of e == number_of d)) _ all in
    All-cons (λ d. e ≢ d) d es (λ same. both_ways (number_of e == number_of d) (not-true _ both.0) (eq-eqb _ _ (ap number_of same))) (differs e es both.1)

differ_in_pairs : (es : List Entry) → all_differ es ≡ true → AllPairs (λ d e. d ≢ e) es
unfolding all_differ
differ_in_pairs [] all = λ i j d less within. absurd (omega arith)
differ_in_pairs (e ∷ es) all =
    let both = and_parts (differ_from e es) _ all in
    AllPairs-cons (λ d e. d ≢ e) e es (differs e es both.0) (differ_in_pairs es both.1)

entries_differ : all_differ two_node_log ≡ true
unfolding all_differ differ_from number_of
entries_differ = refl

abbrev first_sending : Sending
first_sending = sending_at 1 START (first_packet 1)

abbrev second_sending : Sending
second_sending = sending_at 2 1344109056 (packet_with 1)

abbrev hearing : Hearing
hearing = record { node = 2; sending = first_sending }

abbrev events : ℕ → List Event
events v = if v == 1 then Ended first_sending ∷ [] else (if v == 2 then Heard first_sending ∷ Ended second_sending ∷ [] else [])

abbrev scene : Scene
scene = scene_of one two_node_flood.trace two_node_log

test_nodes : (v : ℕ) → knows two_node_flood.nodes v ≡ true → (1 ≡ v) ⊎ (2 ≡ v)
test_nodes v here =
    elim (or_cases (1 == v) _ here) [
      | inl is ↦ inl (eqb-true 1 v is)
      | inr later ↦ elim (or_cases (2 == v) _ later) [ inl is ↦ inr (eqb-true 2 v is) | inr none ↦ absurd (false≢true none) ]
    ]

at_nodes : (P : ℕ → Type 0) → P 1 → P 2 → (v : ℕ) → knows two_node_flood.nodes v ≡ true → P v
at_nodes P at_one at_two v here = elim (test_nodes v here) [ inl is ↦ subst P is at_one | inr is ↦ subst P is at_two ]

sent : (P : Sending → Type 0) → P first_sending → P second_sending → (x : Sending) → Contains (sendings_of two_node_log) x → P x
sent P at_first at_second x there = elim (one_of_two first_sending second_sending x there) [ inl is ↦ subst P is at_first | inr is ↦ subst P is at_second ]

first_there : Contains (sendings_of two_node_log) first_sending
first_there = contains_head first_sending (second_sending ∷ [])

second_there : Contains (sendings_of two_node_log) second_sending
second_there = contains_tail first_sending (second_sending ∷ []) second_sending (contains_head second_sending [])

abbrev first_tuning : Tuning
first_tuning = tuning_by 1 1 (events 1)

abbrev second_tuning : Tuning
second_tuning = tuning_by 1 2 (events 2)

-- the events of each node
events_one : AreEventsOf two_node_log 1 (events 1)
events_one = record {
  hearings = λ x. (
    λ there. absurd (ended_not_heard first_sending x (one_of (Ended first_sending) (Heard x) there)),
    λ there. absurd (two_not_one (ap (λ (h : Hearing). h.node) (one_of hearing (record { node = 1; sending = x }) there))),
  );
  sendings = λ x. (
    λ there. subst (λ (e : Event). Contains (sendings_of two_node_log) (sending_of_event e) × ((sending_of_event e).node ≡ 1))
        (one_of (Ended first_sending) (Ended x) there) (first_there, refl),
    λ is. sent (λ x. x.node ≡ 1 → Contains (events 1) (Ended x)) (λ node. contains_head (Ended first_sending) []) (λ node. absurd (omega arith)) x is.0 is.1,
  );
  in_order = λ i j d less within. absurd (omega arith);
}
  where
    two_not_one : ◌≡◌ {A = ℕ} 2 1 → ⊥
    two_not_one is = omega arith

order_two : EventsInOrder (events 2)
order_two zero zero d less within = absurd (omega arith)
order_two zero (suc zero) d less within = (omega arith, heard_not_ended first_sending second_sending)
order_two zero (suc (suc j)) d less within = absurd (omega arith)
order_two (suc i) j d less within = absurd (omega arith)

events_two : AreEventsOf two_node_log 2 (events 2)
events_two = record {
  hearings = λ x. (
    λ there. elim (one_of_two (Heard first_sending) (Ended second_sending) (Heard x) there) [
      | inl is ↦ subst (λ (e : Event). Contains (hearings_of two_node_log) (record { node = 2; sending = sending_of_event e })) is (contains_head hearing [])
      | inr is ↦ absurd (ended_not_heard second_sending x is)
    ],
    λ there. subst (λ (h : Hearing). Contains (events 2) (Heard h.sending)) (one_of hearing (record { node = 2; sending = x }) there)
        (contains_head (Heard first_sending) (Ended second_sending ∷ [])),
  );
  sendings = λ x. (
    λ there. elim (one_of_two (Heard first_sending) (Ended second_sending) (Ended x) there) [
      | inl is ↦ absurd (heard_not_ended first_sending x is)
      | inr is ↦ subst (λ (e : Event). Contains (sendings_of two_node_log) (sending_of_event e) × ((sending_of_event e).node ≡ 2)) is (second_there, refl)
    ],
    λ is. sent (λ x. x.node ≡ 2 → Contains (events 2) (Ended x)) (λ node. absurd (omega arith))
        (λ node. contains_tail (Heard first_sending) (Ended second_sending ∷ []) (Ended second_sending) (contains_head (Ended second_sending) [])) x is.0 is.1,
  );
  in_order = order_two;
}

-- who receives
rival_first : (v : ℕ) (y : Sending) → Rival scene v first_sending y → first_sending ≡ y
rival_first v y is =
    elim (one_of_two first_sending second_sending y is.sent) [
      | inl same ↦ same
      | inr other ↦ (let meets = is.meets in let start : 1344109056 ≡ y.start = ap (λ (x : Sending). x.start) other in absurd (omega arith))
    ]

hears_first : HearsInScene scene 2 first_sending
hears_first = record {
  sent = first_there;
  tuned = λ t from below. record {
    tuning = second_tuning;
    there = contains_tail first_tuning (second_tuning ∷ []) second_tuning (contains_head second_tuning []);
    node = refl;
    rank = refl;
    since = omega arith;
    until = omega arith;
  };
  silent = λ y there node meets. elim (one_of_two first_sending second_sending y there) [
    | inl is ↦ (let same : 1 ≡ y.node = ap (λ (x : Sending). x.node) is in absurd (omega arith))
    | inr is ↦ (let start : 1344109056 ≡ y.start = ap (λ (x : Sending). x.start) is in absurd (omega arith))
  ];
  arrives = refl;
  first = λ y rival same. subst (λ (x : Sending). Before first_sending x) (rival_first 2 y rival) (omega arith);
  close = λ y rival same. subst (λ (x : Sending). x.start ≤ 1344064000 + 32) (rival_first 2 y rival) (omega arith);
  chosen = inl (λ y rival. ap (λ (x : Sending). x.packet) (sym (rival_first 2 y rival)));
}

-- a node does not receive its own transmission
own_unheard : (v : ℕ) (x : Sending) → Contains (sendings_of two_node_log) x → x.node ≡ v → HearsInScene scene v x → ⊥
own_unheard v x there node h = h.silent x there node (sent (λ x. Meets x x) (omega arith) (omega arith) x there)

-- node 1 is off when node 2 relays
off_then : HearsInScene scene 1 second_sending → ⊥
off_then h =
    let t = h.tuned 1344141823 (omega arith) (omega arith) in
    elim (one_of_two first_tuning second_tuning t.tuning t.there) [
      | inl is ↦ (let end : 1344096768 ≡ t.tuning.end = ap (λ (i : Tuning). i.end) is in let until = t.until in omega arith)
      | inr is ↦ (let node : 2 ≡ t.tuning.node = ap (λ (i : Tuning). i.node) is in let same = t.node in omega arith)
    ]

hears_only : (v : ℕ) (x : Sending) → knows two_node_flood.nodes v ≡ true → HearsInScene scene v x
    → Contains (hearings_of two_node_log) (record { node = v; sending = x })
hears_only v x here h =
    at_nodes (λ v. HearsInScene scene v x → Contains (hearings_of two_node_log) (record { node = v; sending = x }))
    (λ h. sent (λ x. HearsInScene scene 1 x → Contains (hearings_of two_node_log) (record { node = 1; sending = x }))
    (λ g. absurd (own_unheard 1 first_sending first_there refl g)) (λ g. absurd (off_then g)) x h.sent h)
    (λ h. sent (λ x. HearsInScene scene 2 x → Contains (hearings_of two_node_log) (record { node = 2; sending = x })) (λ g. contains_head hearing [])
    (λ g. absurd (own_unheard 2 second_sending second_there refl g)) x h.sent h)
    v here h

-- who relays
abbrev Relays : ℕ → Sending → Type 0
Relays v x = IsRelay two_node_flood (true_time v) (events v) x

by_one : (x : Sending) → x.node ≡ 1 → Relays 1 x → ⊥
by_one x node is =
    let occasion : Contains (record { before = first_flood two_node_flood x.node; event = Ended first_sending } ∷ [])
    (record { before = is.flood; event = Heard is.heard }) = is.occasion in
    ended_not_heard first_sending is.heard (ap (λ (o : EventOccasion). o.event)
    (one_of (record { before = first_flood two_node_flood x.node; event = Ended first_sending })
    (record { before = is.flood; event = Heard is.heard }) occasion))

by_two : (x : Sending) → x.node ≡ 2 → Lasts x → Relays 2 x → second_sending ≡ x
by_two x node lasts is =
    elim (one_of_two (record { before = first_flood two_node_flood x.node; event = Heard first_sending })
    (record { before = flood_after_event (first_flood two_node_flood x.node) (Heard first_sending); event = Ended second_sending })
    (record { before = is.flood; event = Heard is.heard }) is.occasion) [
      | inl same ↦
          (let first : EventOccasion = record { before = first_flood two_node_flood 2; event = Heard first_sending } in
          let at : first ≡ record { before = is.flood; event = Heard is.heard } =
          ap (λ (v : ℕ). record { before = first_flood two_node_flood v; event = Heard first_sending }) (sym node) ∙ same in
          let answer : Relay (packet_with 1) ≡ Relay x.packet =
          ap (λ (o : EventOccasion). reply_to o.before (sending_of_event o.event).packet) at ∙ is.answer in
          let end : 1344096768 ≡ is.heard.end = ap (λ (o : EventOccasion). (sending_of_event o.event).end) at in
          let start : x.start ≡ 1344109056 = is.start ∙ ap (λ (e : ℕ). due (λ t. t) (e + 12288)) (sym end) ∙ due_then 1344109056 (omega arith) in
          ap (λ (v : ℕ). sending_at v 1344109056 (packet_with 1)) (sym node) ∙ ap (λ (t : ℕ). sending_at x.node t (packet_with 1)) (sym start)
          ∙ ap (λ (q : List ℕ). sending_at x.node x.start q) (relay_same (packet_with 1) x.packet answer) ∙ sym lasts)
      | inr other ↦ absurd (ended_not_heard second_sending is.heard (ap (λ (o : EventOccasion). o.event) other))
    ]

second_relayed : IsRelay two_node_flood (true_time 2) (events 2) second_sending
second_relayed = record {
  heard = first_sending;
  flood = first_flood two_node_flood 2;
  occasion =
      contains_head (record { before = first_flood two_node_flood 2; event = Heard first_sending })
      (record { before = flood_after_event (first_flood two_node_flood 2) (Heard first_sending); event = Ended second_sending } ∷ []);
  answer = refl;
  start = sym (due_then 1344109056 (omega arith));
}

pub two_nodes_keep_the_law : FloodLaw two_node_flood true_time two_node_log
two_nodes_keep_the_law = record {
  once = differ_in_pairs two_node_log entries_differ;
  events = events;
  happened = at_nodes (λ v. AreEventsOf two_node_log v (events v)) events_one events_two;
  known = all_passes (λ e. knows two_node_flood.nodes (node_of_entry e)) two_node_log refl;
  tuned = λ t. (
    λ there. elim (one_of_two first_tuning second_tuning t there) [
      | inl is ↦ subst (λ (t : Tuning). (knows two_node_flood.nodes t.node ≡ true) × (t ≡ tuning_by 1 t.node (events t.node))) is (refl, refl)
      | inr is ↦ subst (λ (t : Tuning). (knows two_node_flood.nodes t.node ≡ true) × (t ≡ tuning_by 1 t.node (events t.node))) is (refl, refl)
    ],
    λ is. subst (λ (t : Tuning). Contains (tunings_of two_node_log) t) (sym is.1)
        (at_nodes (λ v. Contains (tunings_of two_node_log) (tuning_by 1 v (events v))) (contains_head first_tuning (second_tuning ∷ []))
        (contains_tail first_tuning (second_tuning ∷ []) second_tuning (contains_head second_tuning [])) t.node is.0),
  );
  begun = λ x. (
    λ is. sent (λ x. counter_of x.packet ≡ 0 → x ≡ first_sending) (λ at. refl) (λ at. absurd (omega arith)) x is.0 is.1,
    λ is. subst (λ (y : Sending). Contains (sendings_of two_node_log) y × (counter_of y.packet ≡ 0)) (sym is) (first_there, refl),
  );
  lasts = sent (λ x. Lasts x) refl refl;
  hears = λ v x. (
    λ there. subst (λ (g : Hearing). (knows two_node_flood.nodes g.node ≡ true) × HearsInScene scene g.node g.sending)
        (one_of hearing (record { node = v; sending = x }) there) (refl, hears_first),
    λ is. hears_only v x is.0 is.1,
  );
  relayed = λ x here lasts is. at_nodes (λ v. x.node ≡ v → Relays v x → Contains (sendings_of two_node_log) x)
      (λ node is. absurd (by_one x node is))
      (λ node is. subst (λ (y : Sending). Contains (sendings_of two_node_log) y) (by_two x node lasts is) second_there)
      x.node here refl is;
  relays =
      sent (λ x. counter_of x.packet ≢ 0 → IsRelay two_node_flood (true_time x.node) (events x.node) x) (λ more. absurd (more refl)) (λ more. second_relayed);
}
