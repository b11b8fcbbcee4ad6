-- A run of two nodes meets the record.
use Rattle.std.proofs.Common.{◌≡◌, ◌≢◌, ℕ, zero, suc, ◌+◌, ◌<◌, ◌≤◌, ◌↔◌, List, [], ◌∷◌, true, inl, inr, refl, sym, ◌∙◌, ap, subst, arith, ◌==◌}
use Rattle.std.specs.Prelude.{Contains, ◌⊎◌}
use Rattle.std.proofs.lemmas.Bool.{or_cases, eqb-true, false≢true}
use Rattle.lwb_packets.specs.DataPackets.{is_data}
use Rattle.glossy_relay.specs.Relaying.{reply_to}
use Rattle.glossy_relay.specs.declared.flood.Reply.TheVariants.{Relay}
use Rattle.radio_model.specs.declared.sending.Sending.{Sending}
use Rattle.radio_model.specs.OnAir.{Hearing}
use Rattle.radio_model.specs.Hearing.{Before, IsRival, IsSilent}
use Rattle.air_log.specs.NodeEvents.{Event, Heard, Ended, sending_of_event, flood_after_events, EventOccasion, EventsInOrder}
use Rattle.air_log.proofs.EventKinds.{ended_not_heard, heard_not_ended}
use Rattle.air_log.proofs.SameSendings.{same_sending as equal_sendings}
use Rattle.lwb_flood.specs.FloodRun.{counter, sending_of_run, FloodRun, initiates, IsParticipant, flood_at_beginning, traffic_of_run, HearsIn}
use Rattle.lwb_flood.specs.FloodRun.{RelayedInRun, TunedByCount}
use Rattle.lwb_flood.specs.TwoNodes.{packet_of, first_transmission, second_sending, two_node_run, two_tuned}
use Rattle.lwb_base.proofs.Elements.{contains_head, contains_tail, one_of, one_of_two}
use Rattle.lwb_flood.specs.Windows.{IsListeningWindow}
use Rattle.lwb_flood.proofs.TunedWindows.{tuned_in_window}
use Rattle.glossy_relay.proofs.Spellings.{data_again}
use Rattle.glossy_relay.proofs.CountedPackets.{relay_same}

abbrev Tuned : ℕ → Sending → Type 0
Tuned v x = two_tuned v x ≡ true

test_nodes : (v : ℕ) → IsParticipant two_node_run v → (1 ≡ v) ⊎ (2 ≡ v)
test_nodes v here =
    elim (or_cases (1 == v) _ here) [
      | inl is ↦ inl (eqb-true 1 v is)
      | inr later ↦ elim (or_cases (2 == v) _ later) [ inl is ↦ inr (eqb-true 2 v is) | inr none ↦ absurd (false≢true none) ]
    ]

starter : (o : ℕ) → initiates two_node_run o → 1 ≡ o
starter o is = elim (or_cases (1 == o) _ is) [ inl same ↦ eqb-true 1 o same | inr none ↦ absurd (false≢true none) ]

sent : (P : Sending → Type 0) → P first_transmission → P second_sending → (x : Sending) → Contains two_node_run.sendings x → P x
sent P at_first at_second x there = elim (one_of_two first_transmission second_sending x there) [ inl is ↦ subst P is at_first | inr is ↦ subst P is at_second ]

at_nodes : (P : ℕ → Type 0) → P 1 → P 2 → (v : ℕ) → IsParticipant two_node_run v → P v
at_nodes P at_one at_two v here = elim (test_nodes v here) [ inl is ↦ subst P is at_one | inr is ↦ subst P is at_two ]

heard_hearing : (v : ℕ) (x : Sending) → Contains two_node_run.hearings (record { node = v; sending = x }) → (2 ≡ v) × (first_transmission ≡ x)
heard_hearing v x there =
    let is = one_of (record { node = 2; sending = first_transmission }) (record { node = v; sending = x }) there in
    (ap (λ (h : Hearing). h.node) is, ap (λ (h : Hearing). h.sending) is)

lasting : (x : Sending) → Contains two_node_run.sendings x → (x.rank ≡ 0) × (x.end ≡ x.start + 32768)
lasting x there = sent (λ x. (x.rank ≡ 0) × (x.end ≡ x.start + 32768)) (refl, refl) (refl, refl) x there

lasts_some : (x : Sending) → Contains two_node_run.sendings x → x.start < x.end
lasts_some x there = let last = lasting x there in omega (arith, last.1)

-- the first rivals nobody
rival_first : (v : ℕ) (y : Sending) → IsRival (traffic_of_run two_node_run) v first_transmission y → first_transmission ≡ y
rival_first v y is =
    elim (one_of_two first_transmission second_sending y is.sent) [
      | inl same ↦ same
      | inr other ↦ (let meets = is.meets in let start : 45056 ≡ y.start = ap (λ (x : Sending). x.start) other in absurd (omega arith))
    ]

hears_first : HearsIn two_node_run Tuned 2 first_transmission
hears_first = record {
  sent = contains_head first_transmission (second_sending ∷ []);
  tuned = refl;
  silent = λ y there node meets. elim (one_of_two first_transmission second_sending y there) [
    | inl is ↦ (let same : 1 ≡ y.node = ap (λ (x : Sending). x.node) is in absurd (omega arith))
    | inr is ↦ (let start : 45056 ≡ y.start = ap (λ (x : Sending). x.start) is in absurd (omega arith))
  ];
  arrives = refl;
  first = λ y rival same. subst (λ (x : Sending). Before first_transmission x) (rival_first 2 y rival) (omega arith);
  close = λ y rival same. subst (λ (x : Sending). x.start ≤ 0 + 32) (rival_first 2 y rival) (omega arith);
  chosen = inl (λ y rival. ap (λ (x : Sending). x.packet) (sym (rival_first 2 y rival)));
}

-- a node does not receive its own transmission
own_unheard : (v : ℕ) (x : Sending) → Contains two_node_run.sendings x → x.node ≡ v → IsSilent (traffic_of_run two_node_run) v x → ⊥
own_unheard v x there node silent = let some = lasts_some x there in silent x there node (omega arith)

hears_only : (v : ℕ) (x : Sending) → IsParticipant two_node_run v → HearsIn two_node_run Tuned v x
    → Contains two_node_run.hearings (record { node = v; sending = x })
hears_only v x here h =
    at_nodes (λ v. HearsIn two_node_run Tuned v x → Contains two_node_run.hearings (record { node = v; sending = x }))
    (λ h. sent (λ x. HearsIn two_node_run Tuned 1 x → Contains two_node_run.hearings (record { node = 1; sending = x }))
    (λ g. absurd (own_unheard 1 first_transmission g.sent refl g.silent)) (λ g. absurd (false≢true g.tuned)) x h.sent h)
    (λ h. sent (λ x. HearsIn two_node_run Tuned 2 x → Contains two_node_run.hearings (record { node = 2; sending = x }))
    (λ g. contains_head (record { node = 2; sending = first_transmission }) []) (λ g. absurd (own_unheard 2 second_sending g.sent refl g.silent)) x h.sent h)
    v here h

by_one : (x : Sending) → RelayedInRun two_node_run 1 x → ⊥
by_one x is = ended_not_heard first_transmission is.heard
    (ap (λ (o : EventOccasion). o.event) (one_of (record { before = flood_at_beginning two_node_run 1; event = Ended first_transmission }) (record {
      before = is.flood;
      event = Heard is.heard;
    }) is.occasion))

by_two : (start : ℕ) (p : List ℕ) → RelayedInRun two_node_run 2 (sending_of_run two_node_run 2 start p) → second_sending ≡ sending_of_run two_node_run 2 start p
by_two start p is =
    elim (one_of_two (record { before = flood_at_beginning two_node_run 2; event = Heard first_transmission })
    (record { before = flood_after_events (flood_at_beginning two_node_run 2) (Heard first_transmission ∷ []); event = Ended second_sending })
    (record { before = is.flood; event = Heard is.heard }) is.occasion) [
      | inl same ↦
          (let answer : Relay (packet_of 1 1) ≡ Relay p = ap (λ (o : EventOccasion). reply_to o.before (sending_of_event o.event).packet) same ∙ is.answer in
          let at : 45056 ≡ start = ap (λ (o : EventOccasion). (sending_of_event o.event).end + 12288) same ∙ sym is.start in
          equal_sendings second_sending (sending_of_run two_node_run 2 start p) refl refl at (ap (λ (t : ℕ). t + 32768) at)
          (relay_same (packet_of 1 1) p answer))
      | inr other ↦ absurd (ended_not_heard second_sending is.heard (ap (λ (o : EventOccasion). o.event) other))
    ]

heard_events_one : (x : Sending) → Contains (two_node_run.events 1) (Heard x) ↔ Contains two_node_run.hearings (record { node = 1; sending = x })
heard_events_one x = (
  λ there. absurd (ended_not_heard first_transmission x (one_of (Ended first_transmission) (Heard x) there)),
  λ there. (let is = heard_hearing 1 x there in absurd (two_not_one is.0)),
)
  where
    two_not_one : ◌≡◌ {A = ℕ} 2 1 → ⊥
    two_not_one is = omega arith

heard_events_two : (x : Sending) → Contains (two_node_run.events 2) (Heard x) ↔ Contains two_node_run.hearings (record { node = 2; sending = x })
heard_events_two x = (
  λ there. elim (one_of_two (Heard first_transmission) (Ended second_sending) (Heard x) there) [
    | inl is ↦ subst (λ (e : Event). Contains two_node_run.hearings (record { node = 2; sending = sending_of_event e })) is
        (contains_head (record { node = 2; sending = first_transmission }) [])
    | inr is ↦ absurd (ended_not_heard second_sending x is)
  ],
  λ there. (let is = heard_hearing 2 x there in subst (λ (y : Sending). Contains (two_node_run.events 2) (Heard y)) is.1
      (contains_head (Heard first_transmission) (Ended second_sending ∷ []))),
)

ended_events_one : (x : Sending) → Contains (two_node_run.events 1) (Ended x) ↔ (Contains two_node_run.sendings x × (x.node ≡ 1))
ended_events_one x = (
  λ there. subst (λ (e : Event). Contains two_node_run.sendings (sending_of_event e) × ((sending_of_event e).node ≡ 1))
      (one_of (Ended first_transmission) (Ended x) there)
      (contains_head first_transmission (second_sending ∷ []), refl),
  λ is. sent (λ x. x.node ≡ 1 → Contains (two_node_run.events 1) (Ended x)) (λ node. contains_head (Ended first_transmission) [])
      (λ node. absurd (omega arith)) x is.0 is.1,
)

ended_events_two : (x : Sending) → Contains (two_node_run.events 2) (Ended x) ↔ (Contains two_node_run.sendings x × (x.node ≡ 2))
ended_events_two x = (
  λ there. elim (one_of_two (Heard first_transmission) (Ended second_sending) (Ended x) there) [
    | inl is ↦ absurd (heard_not_ended first_transmission x is)
    | inr is ↦ subst (λ (e : Event). Contains two_node_run.sendings (sending_of_event e) × ((sending_of_event e).node ≡ 2)) is
        (contains_tail first_transmission (second_sending ∷ []) second_sending (contains_head second_sending []), refl)
  ],
  λ is. sent (λ x. x.node ≡ 2 → Contains (two_node_run.events 2) (Ended x)) (λ node. absurd (omega arith))
      (λ node. contains_tail (Heard first_transmission) (Ended second_sending ∷ []) (Ended second_sending) (contains_head (Ended second_sending) [])) x is.0
      is.1,
)

order_one : EventsInOrder (two_node_run.events 1)
order_one i j d less within = absurd (omega arith)

order_two : EventsInOrder (two_node_run.events 2)
order_two zero zero d less within = absurd (omega arith)
order_two zero (suc zero) d less within = (omega arith, heard_not_ended first_transmission second_sending)
order_two zero (suc (suc j)) d less within = absurd (omega arith)
order_two (suc i) j d less within = absurd (omega arith)

window_one : IsListeningWindow two_node_run Tuned 1 0 540672
window_one = record {
  some = omega arith;
  since = λ x time. omega arith;
  until = λ x time. (let until = time.until in omega arith);
  tuned = λ x there. sent (λ x. 0 ≤ x.start → x.end ≤ 32768 → Tuned 1 x) (λ a b. refl) (λ a b. absurd (omega arith)) x there;
  only = λ x there time. sent (λ x. Tuned 1 x → x.end ≤ 32768) (λ t. omega arith) (λ t. absurd (false≢true t)) x there;
}

window_two : IsListeningWindow two_node_run Tuned 2 0 540672
window_two = record {
  some = omega arith;
  since = λ x time. omega arith;
  until = λ x time. (let until = time.until in omega arith);
  tuned = λ x there. sent (λ x. 0 ≤ x.start → x.end ≤ 77824 → Tuned 2 x) (λ a b. refl) (λ a b. refl) x there;
  only = λ x there time. sent (λ x. Tuned 2 x → x.end ≤ 77824) (λ t. omega arith) (λ t. omega arith) x there;
}

relayed_by : (v start : ℕ) (p : List ℕ) → IsParticipant two_node_run v → RelayedInRun two_node_run v (sending_of_run two_node_run v start p)
    → Contains two_node_run.sendings (sending_of_run two_node_run v start p)
relayed_by v start p here is =
    at_nodes (λ v. RelayedInRun two_node_run v (sending_of_run two_node_run v start p) → Contains two_node_run.sendings (sending_of_run two_node_run v start p))
    (λ is. absurd (by_one (sending_of_run two_node_run 1 start p) is))
    (λ is. subst (λ (y : Sending). Contains two_node_run.sendings y) (by_two start p is)
    (contains_tail first_transmission (second_sending ∷ []) second_sending (contains_head second_sending [])))
    v here is

pub two_is_run : FloodRun two_node_run Tuned
two_is_run = record {
  times = record {
    room = record {
      room_to_turn = omega arith;
      room_to_overlap = omega arith;
      displacement = omega arith;
    };
    initiators = record {
      there = λ o is. subst (λ (v : ℕ). IsParticipant two_node_run v) (starter o is) refl;
      counter_zero = λ o is. refl;
      spelled = λ o k is few. data_again (packet_of o 0) k (subst (λ (v : ℕ). is_data (packet_of v 0) ≡ true) (starter o is) refl) few;
      slot = λ o is. refl;
      different = λ o p is is' same. sym (starter o is) ∙ starter p is';
      together = λ o p is is'. omega arith;
    };
    sent = record {
      lasts = lasting;
      begun = λ o is. subst (λ (v : ℕ). Contains two_node_run.sendings (sending_of_run two_node_run v 0 (packet_of v 0))) (starter o is)
          (contains_head first_transmission (second_sending ∷ []));
      beginnings = λ x there. sent (λ x. counter x ≡ 0 → initiates two_node_run x.node × (x.start ≡ 0) × (x.packet ≡ packet_of x.node 0))
          (λ at. (refl, refl, refl)) (λ at. absurd (omega arith)) x there;
      relayed = relayed_by;
      relays = λ x there. sent (λ x. counter x ≢ 0 → IsParticipant two_node_run x.node × RelayedInRun two_node_run x.node x) (λ at. absurd (at refl)) (λ at. (
        refl,
        record {
          heard = first_transmission;
          flood = flood_at_beginning two_node_run 2;
          occasion = contains_head (record { before = flood_at_beginning two_node_run 2; event = Heard first_transmission })
              (record { before = flood_after_events (flood_at_beginning two_node_run 2) (Heard first_transmission ∷ []); event = Ended second_sending } ∷ []);
          answer = refl;
          start = refl;
        },
      )) x there;
    };
    happened = record {
      heard_events = λ v x here. at_nodes
          (λ v. Contains (two_node_run.events v) (Heard x) ↔ Contains two_node_run.hearings (record { node = v; sending = x })) (heard_events_one x)
          (heard_events_two x) v here;
      ended_events = λ v x here. at_nodes (λ v. Contains (two_node_run.events v) (Ended x) ↔ (Contains two_node_run.sendings x × (x.node ≡ v)))
          (ended_events_one x) (ended_events_two x) v here;
      in_order = λ v here. at_nodes (λ v. EventsInOrder (two_node_run.events v)) order_one order_two v here;
    };
    heard_sent = λ v x here there.
        (let is = heard_hearing v x there in
        subst (λ (y : Sending). Contains two_node_run.sendings y) is.1 (contains_head first_transmission (second_sending ∷ [])));
    turned = λ v x here there time. omega arith;
  };
  hears = λ v x here. (
    λ there.
        (let is = heard_hearing v x there in subst (λ (w : ℕ). HearsIn two_node_run Tuned w x) is.0
        (subst (λ (y : Sending). HearsIn two_node_run Tuned 2 y) is.1 hears_first)),
    hears_only v x here,
  );
  tuned = λ v here. at_nodes (λ v. TunedByCount two_node_run Tuned v)
      (tuned_in_window two_node_run Tuned 1 0 540672 lasts_some window_one (λ z. (ended_events_one z).0))
      (tuned_in_window two_node_run Tuned 2 0 540672 lasts_some window_two (λ z. (ended_events_two z).0)) v here;
}
