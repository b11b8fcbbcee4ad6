-- A packet that is a spelling says a message in its ranges; so do relays of it, and what a node says itself.
use Rattle.std.proofs.Common.{◌≡◌, ℕ, zero, suc, ◌+◌, ◌*◌, ◌<◌, ◌≤◌, List, [], ◌∷◌, length, Bool, true, false, ◌||◌, ◌==◌, if◌then◌else◌, is_some, Some, None}
use Rattle.std.proofs.Common.{Option, option_map, inl, inr, refl, sym, ap, subst, arith, mul-le-mul_left}
use Rattle.std.specs.Prelude.{slice_index, slice_set, bytes_eq}
use Rattle.std.proofs.lemmas.Bool.{cond_both, and_parts, or_left, or_right, leb-true, ltb-true, eqb-true, false≢true}
use Rattle.std.proofs.lemmas.List.{length-set, length-drop}
use Rattle.lwb_base.specs.Profile.{Numbers, IsProfile}
use Rattle.lwb_base.specs.Messages.{Schedule, least_passing, width_of, differences, owners_length, length_of}
use Rattle.lwb_packets.specs.DataPackets.{is_data}
use Rattle.lwb_packets.specs.Requests.{is_request}
use Rattle.lwb_packets.specs.declared.kind.Kind.{Kind}
use Rattle.lwb_packets.specs.declared.kind.Kind.TheVariants as Kinds
use Rattle.schedule_codec.specs.Packing.{fit}
use Rattle.schedule_codec.specs.Spelling.{schedule_spelling, schedule_in_range}
use Rattle.schedule_codec.specs.Reading.{schedule_of, is_schedule}
use Rattle.schedule_codec.proofs.Readings.{range_from, spelled_by, bytes_same, length-spelling, schedule_spelled}
use Rattle.glossy_relay.specs.FloodState.{FloodState}
use Rattle.glossy_relay.specs.Relaying.{is_packet, is_spelling, slot_of, counter_of, fits, reply_to}
use Rattle.glossy_relay.specs.declared.flood.Reply.TheVariants.{Relay}
use Rattle.glossy_relay.proofs.CountedPackets.{relayed_parts}
use Rattle.glossy_relay.proofs.Spellings.{spelled_again}
use Rattle.bus_rules.specs.Slots.{Message, ScheduleOf, DataOf, RequestOf, message_length}
use Rattle.lwb_member.specs.Said.{IsInitialPacket, MaySay, bytes_of, message_of, data_in, request_in, data_packet, request_packet}
use Rattle.lwb_member.proofs.Spoken.{data_spoken, request_spoken, schedule_spoken}
use Rattle.lwb_member.proofs.Lengths.{said_long}
use Rattle.law_trails.specs.PlanRanges.{IsWholePlan}
use Rattle.law_trails.specs.SpokenRanges.{IsSpoken}
use Rattle.law_trails.proofs.SaidPackets.{parts_in}

-- how long a packet is, and its counter
record IsSized (q : List ℕ) : Type 0 where
  least : 7 ≤ length q
  counter : counter_of q ≤ 11

-- a data packet
data_may : (q : List ℕ) → is_data q ≡ true → IsSized q × MaySay (slot_of q) (DataOf (data_in q))
data_may q is =
    let seq = and_parts _ _ is in
    let stream = and_parts _ _ seq.0 in
    let boot = and_parts _ _ stream.0 in
    let node = and_parts _ _ boot.0 in
    let counter = and_parts _ _ node.0 in
    let slot = and_parts _ _ counter.0 in
    let kind = and_parts _ _ slot.0 in
    let long = and_parts _ _ kind.0 in
    let slots = and_parts _ _ slot.1 in
    let nodes = and_parts _ _ node.1 in
    let boots = and_parts _ _ boot.1 in
    let low : 8 ≤ length q = leb-true 8 (length q) long.0 in
    let high : length q ≤ 104 = leb-true (length q) 104 long.1 in
    let rest = length-drop 8 q in (
      record { least = omega arith; counter = leb-true (slice_index q 2) 11 counter.1 },
      (
        record {
          slot = (leb-true 1 (slice_index q 1) slots.0, leb-true (slice_index q 1) 40 slots.1);
          counter = omega arith;
          boot = (leb-true 1 (slice_index q 4) boots.0, leb-true (slice_index q 4) 200 boots.1);
          stream = leb-true (slice_index q 5) 3 stream.1;
          seq = leb-true (256 * slice_index q 6 + slice_index q 7) 65534 seq.1;
        },
        leb-true 1 (slice_index q 3) nodes.0,
        leb-true (slice_index q 3) 200 nodes.1,
        omega (arith, rest),
      ),
    )

-- a request
request_may : (q : List ℕ) → is_request q ≡ true → IsSized q × MaySay (slot_of q) (RequestOf (request_in q))
request_may q is =
    let interval = and_parts _ _ is in
    let stream = and_parts _ _ interval.0 in
    let boot = and_parts _ _ stream.0 in
    let node = and_parts _ _ boot.0 in
    let counter = and_parts _ _ node.0 in
    let slot = and_parts _ _ counter.0 in
    let kind = and_parts _ _ slot.0 in
    let slots = and_parts _ _ slot.1 in
    let nodes = and_parts _ _ node.1 in
    let boots = and_parts _ _ boot.1 in
    let long : length q ≡ 7 = eqb-true (length q) 7 kind.0 in (
      record { least = omega arith; counter = leb-true (slice_index q 2) 11 counter.1 },
      (
        record {
          slot = (leb-true 1 (slice_index q 1) slots.0, leb-true (slice_index q 1) 44 slots.1);
          counter = omega arith;
          boot = (leb-true 1 (slice_index q 4) boots.0, leb-true (slice_index q 4) 200 boots.1);
          stream = leb-true (slice_index q 5) 3 stream.1;
          interval = leb-true (slice_index q 6) 120 interval.1;
        },
        leb-true 1 (slice_index q 3) nodes.0,
        leb-true (slice_index q 3) 200 nodes.1,
      ),
    )

-- a schedule
some_owners : (cs : List ℕ) → 1 ≤ owners_length cs
some_owners [] = omega arith
some_owners (c ∷ cs) = omega arith

schedule_long : (x : Schedule) → 7 ≤ length_of x
schedule_long x =
    let owners = some_owners x.plan.owners in
    cond_both (x.plan.contend == 0) 9 (6 + 4 * length x.plan.acks) (λ (n : ℕ). 7 ≤ n + owners_length x.plan.owners) (λ one. omega arith) (λ two. omega arith)

schedule_may : (q : List ℕ) (x : Schedule) → schedule_of q ≡ Some x → IsSized q × MaySay (slot_of q) (ScheduleOf x)
schedule_may q x is =
    let parts = parts_in q x is in
    let same : schedule_spelling x (slot_of q) (counter_of q) ≡ q =
    bytes_same (schedule_spelling x (slot_of q) (counter_of q)) q
    (and_parts (schedule_in_range x (slot_of q) (counter_of q)) (bytes_eq (schedule_spelling x (slot_of q) (counter_of q)) q) (spelled_by q x is)).1 in
    let long = length-spelling x (slot_of q) (counter_of q) in (
      record { least = omega (arith, ap length same, long, schedule_long x); counter = parts.count },
      range_from x (slot_of q) 0 (record {
        count = omega arith;
        place = parts.place;
        rank = parts.rank;
        boot = parts.boot;
        gap = parts.gap;
        contend = parts.contend;
        few = parts.few;
        acks = parts.acks;
        ordered = parts.ordered;
        owners = parts.owners;
      }),
    )

-- what a packet says
record IsMeant (q : List ℕ) (o : Option Message) : Type 0 where
  message : Message
  read : o ≡ Some message
  sized : IsSized q
  may : MaySay (slot_of q) message

abbrev read_by : List ℕ → Bool → Bool → Option Schedule → Option Message
read_by q b c o = if b then Some (DataOf (data_in q)) else if c then Some (RequestOf (request_in q)) else option_map ScheduleOf o

meant : (q : List ℕ) (b c : Bool) (o : Option Schedule) → is_data q ≡ b → is_request q ≡ c → schedule_of q ≡ o → (b || c || is_some o) ≡ true
    → IsMeant q (read_by q b c o)
meant q true c o sent request schedule is = let may = data_may q sent in record { message = DataOf (data_in q); read = refl; sized = may.0; may = may.1 }
meant q false true o sent request schedule is = let may = request_may q request in record {
  message = RequestOf (request_in q);
  read = refl;
  sized = may.0;
  may = may.1;
}
meant q false false (Some x) sent request schedule is = let may = schedule_may q x schedule in record {
  message = ScheduleOf x;
  read = refl;
  sized = may.0;
  may = may.1;
}
meant q false false None sent request schedule is = absurd (false≢true is)

pub spoken : (p : Numbers) (q : List ℕ) → is_packet q ≡ true → length q ≤ p.packet_max → IsSpoken p q
spoken p q is few =
    let m = meant q (is_data q) (is_request q) (schedule_of q) refl refl refl is in
    record { packet = is; least = m.sized.least; most = few; counter = m.sized.counter; says = record { message = m.message; read = m.read; may = m.may } }

-- what is read may be said
may_by : (q : List ℕ) (m : Message) (b c : Bool) (o : Option Schedule) → is_data q ≡ b → is_request q ≡ c → schedule_of q ≡ o
    → read_by q b c o ≡ Some m → MaySay (slot_of q) m
may_by q m true c o sent request schedule is = let same : DataOf (data_in q) ≡ m = cc in subst (MaySay (slot_of q)) same (data_may q sent).1
may_by q m false true o sent request schedule is = let same : RequestOf (request_in q) ≡ m = cc in subst (MaySay (slot_of q)) same (request_may q request).1
may_by q m false false (Some x) sent request schedule is = let same : ScheduleOf x ≡ m = cc in subst (MaySay (slot_of q)) same (schedule_may q x schedule).1
may_by q m false false None sent request schedule is = absurd (cc)

pub read_may : (q : List ℕ) (m : Message) → message_of q ≡ Some m → MaySay (slot_of q) m
read_may q m is = may_by q m (is_data q) (is_request q) (schedule_of q) refl refl refl is

-- spellings of one kind
pub packet_of : (k : Kind) (q : List ℕ) → is_spelling k q ≡ true → is_packet q ≡ true
packet_of Kinds.Schedule q is = or_right (is_data q || is_request q) (is_schedule q) is
packet_of Kinds.Payload q is = or_left (is_data q || is_request q) (is_schedule q) (or_left (is_data q) (is_request q) is)
packet_of Kinds.Request q is = or_left (is_data q || is_request q) (is_schedule q) (or_right (is_data q) (is_request q) is)

pub fitting : (f : FloodState) (q : List ℕ) → fits f q ≡ true → (is_spelling f.kind q ≡ true) × (slot_of q ≡ f.slot) × (f.sent < f.limit)
fitting f q is =
    let body = and_parts _ _ is in
    let slot = and_parts _ _ body.0 in
    let kind = and_parts _ _ slot.0 in
    let room = and_parts _ _ kind.0 in
    (kind.1, eqb-true (slot_of q) f.slot slot.1, ltb-true f.sent f.limit room.0)

-- a relay
pub relay_spoken : (p : Numbers) (f : FloodState) (h q : List ℕ) → reply_to f h ≡ Relay q → length h ≤ p.packet_max → IsSpoken p q
relay_spoken p f h q is few =
    let parts = relayed_parts f h q is in
    let again = spelled_again f.kind h (counter_of h + 1) (fitting f h parts.0).0 (omega (arith, parts.1)) in
    subst (IsSpoken p) (sym parts.2)
    (spoken p (slice_set h 2 (counter_of h + 1)) (packet_of f.kind (slice_set h 2 (counter_of h + 1)) again)
    (omega (arith, length-set h 2 (counter_of h + 1), few)))

-- what a node says itself
abbrev pub kind_of : Message → Kind
kind_of (ScheduleOf x) = Kinds.Schedule
kind_of (DataOf d) = Kinds.Payload
kind_of (RequestOf a) = Kinds.Request

pub said_is : (m : Message) (j : ℕ) → MaySay j m → IsInitialPacket (kind_of m) (bytes_of m j)
said_is (ScheduleOf x) j may = schedule_spoken (schedule_spelling x j 0) x j (schedule_spelled x j 0 may) refl
said_is (DataOf d) j may = data_spoken (data_packet d j) may.0 refl may.1 may.2 may.3
said_is (RequestOf a) j may = request_spoken (request_packet a j) may.0 refl may.1 may.2

pub said_slot : (m : Message) (j : ℕ) → slot_of (bytes_of m j) ≡ j
said_slot (ScheduleOf x) j = refl
said_slot (DataOf d) j = refl
said_slot (RequestOf a) j = refl

pub own_spoken : (p : Numbers) (m : Message) (j : ℕ) → MaySay j m → message_length m ≤ p.packet_max → IsSpoken p (bytes_of m j)
own_spoken p m j may few = spoken p (bytes_of m j) (said_is m j may).packet (omega (arith, said_long m j, few))

-- how long they are
least_most : (n w : ℕ) (passes : ℕ → Bool) → least_passing n w passes ≤ w + n
unfolding least_passing
least_most zero w passes = omega arith
least_most (suc n) w passes = cond_both (passes w) w (least_passing n (w + 1) passes) (λ (k : ℕ). k ≤ w + suc n) (λ here. omega arith)
    (λ further. omega (arith, least_most n (w + 1) passes))

few_owners : (cs : List ℕ) → length cs ≤ 40 → owners_length cs ≤ 52
few_owners [] few = omega arith
few_owners (c ∷ cs) few =
    let ds = differences (c ∷ cs) in
    let width : width_of ds ≤ 10 = omega (arith, least_most 10 0 (λ w. fit w ds)) in
    let wide : length cs * width_of ds ≤ length cs * 10 = mul-le-mul_left (length cs) width in
    omega (arith, wide)

schedule_few : (x : Schedule) → IsWholePlan x.plan → length_of x ≤ (if x.plan.contend == 0 then 61 else 74)
schedule_few x whole =
    let owners = few_owners x.plan.owners (leb-true (length x.plan.owners) 40 (and_parts _ _ (and_parts _ _ whole.owners).0).0) in
    by_test (x.plan.contend == 0) owners whole.few
  where
    by_test : (b : Bool) → owners_length x.plan.owners ≤ 52 → length x.plan.acks ≤ (if b then 1 else 4)
        → (if b then 9 else 6 + 4 * length x.plan.acks) + owners_length x.plan.owners ≤ (if b then 61 else 74)
    by_test true owners few = omega arith
    by_test false owners few = omega arith

-- what a packet of a profile has room for
pub record HasRoom (p : Numbers) : Type 0 where
  pub packet : 8 + p.payload_max ≤ p.packet_max
  pub payload : p.payload_max ≤ 96
  pub request : 7 ≤ p.packet_max
  pub schedule : (if p.contend == 0 then 61 else 74) ≤ p.packet_max

pub room : (p : Numbers) → IsProfile p → HasRoom p
room p (inl is) = rw is (record { packet = omega arith; payload = omega arith; request = omega arith; schedule = omega arith })
room p (inr is) = rw is.0 (record {
  packet = omega arith;
  payload = omega arith;
  request = omega arith;
  schedule = cond_both (p.contend == 0) 61 74 (λ (n : ℕ). n ≤ 125) (λ none. omega arith) (λ some. omega arith);
})

pub schedule_short : (p : Numbers) (x : Schedule) → IsProfile p → IsWholePlan x.plan → x.plan.contend ≡ p.contend
    → message_length (ScheduleOf x) ≤ p.packet_max
schedule_short p x profile whole same =
    let most : length_of x ≤ (if p.contend == 0 then 61 else 74) = subst (λ (n : ℕ). length_of x ≤ (if n == 0 then 61 else 74)) same (schedule_few x whole) in
    omega (arith, most, (room p profile).schedule)
