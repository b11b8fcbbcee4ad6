-- Packets that say something: their kind, place, counter and length.
use Rattle.std.proofs.Common.{◌≡◌, ℕ, ◌+◌, ◌*◌, ◌≤◌, List, length, length-drop, Bool, true, false, ◌&&◌, ◌||◌, ◌==◌, if◌then◌else◌, Option, Some, None, is_some}
use Rattle.std.proofs.Common.{option_map, slice_index, refl, sym, ◌∙◌, ap, subst, arith}
use Rattle.std.specs.Prelude.{unwrap_or}
use Rattle.std.proofs.lemmas.Bool.{and_parts, leb-true, eqb-true, cond-true, cond-false, cond_both, false_from_ne_true, false≢true}
use Rattle.lwb_base.specs.Messages.{Ask, Schedule}
use Rattle.lwb_packets.specs.Ranges.{between}
use Rattle.lwb_packets.specs.Kinds.{kind_by}
use Rattle.lwb_packets.specs.DataPackets.{is_data}
use Rattle.lwb_packets.specs.Requests.{is_request}
use Rattle.lwb_packets.specs.declared.kind.Kind.{Kind}
use Rattle.lwb_packets.specs.declared.kind.Kind.TheVariants as kinds
use Rattle.schedule_codec.specs.Reading.{schedule_of}
use Rattle.schedule_codec.specs.Spelling.{schedule_spelling}
use Rattle.schedule_codec.proofs.Readings.{Parts, spelled_by, range_from, bytes_same, length-spelling}
use Rattle.schedule_codec.proofs.Heads.{heads_of}
use Rattle.glossy_relay.specs.FloodState.{kind_named}
use Rattle.glossy_relay.specs.Relaying.{is_packet, is_spelling, slot_of, counter_of}
use Rattle.bus_rules.specs.Slots.{Data, Message, ScheduleOf, DataOf, RequestOf}
use Rattle.lwb_member.specs.Said.{message_of, data_in, request_in}
use Rattle.law_trails.specs.PacketKinds.{IsPacketOf, SaysOfKind}

within : (low high n : ℕ) → between low high n ≡ true → (low ≤ n) × (n ≤ high)
within low high n is = let both = and_parts _ _ is in (leb-true low n both.0, leb-true n high both.1)

of_kind : (p : List ℕ) (n : ℕ) (kind : Kind) → slice_index p 0 ≡ n → unwrap_or (kind_by n) kinds.Payload ≡ kind → kind_named p ≡ kind
of_kind p n kind first named = ap (λ (i : ℕ). unwrap_or (kind_by i) kinds.Payload) first ∙ named

-- eight tests that all pass
record Eight (a b c d e f g h : Bool) : Type 0 where
  first : a ≡ true
  second : b ≡ true
  third : c ≡ true
  fourth : d ≡ true
  fifth : e ≡ true
  sixth : f ≡ true
  seventh : g ≡ true
  eighth : h ≡ true

eight : (a b c d e f g h : Bool) → (a && b && c && d && e && f && g && h) ≡ true → Eight a b c d e f g h
eight a b c d e f g h is =
    let last = and_parts _ h is in
    let seven = and_parts _ g last.0 in
    let six = and_parts _ f seven.0 in
    let five = and_parts _ e six.0 in
    let four = and_parts _ d five.0 in
    let three = and_parts _ c four.0 in
    let two = and_parts a b three.0 in
    record { first = two.0; second = two.1; third = three.1; fourth = four.1; fifth = five.1; sixth = six.1; seventh = seven.1; eighth = last.1 }

-- ---- data

pub data_first : (p : List ℕ) → is_data p ≡ true → slice_index p 0 ≡ 2
data_first p is = eqb-true (slice_index p 0) 2 (eight _ _ _ _ _ _ _ _ is).second

data_packet_of : (p : List ℕ) → is_data p ≡ true → IsPacketOf (DataOf (data_in p)) p
data_packet_of p is =
    let tests = eight _ _ _ _ _ _ _ _ is in
    let long = within 8 104 (length p) tests.first in
    let node = within 1 200 (slice_index p 3) tests.fifth in
    let payload = length-drop 8 p in
    record {
      counter = leb-true (slice_index p 2) 11 tests.fourth;
      place = (
        record {
          slot = within 1 40 (slice_index p 1) tests.third;
          counter = omega arith;
          boot = within 1 200 (slice_index p 4) tests.sixth;
          stream = leb-true (slice_index p 5) 3 tests.seventh;
          seq = leb-true (256 * slice_index p 6 + slice_index p 7) 65534 tests.eighth;
        },
        node.0,
        node.1,
        omega arith,
      );
      spelled = is;
      named = of_kind p 2 kinds.Payload (data_first p is) refl;
      counted = omega arith;
    }

-- ---- requests

pub request_first : (p : List ℕ) → is_request p ≡ true → slice_index p 0 ≡ 3
request_first p is = eqb-true (slice_index p 0) 3 (eight _ _ _ _ _ _ _ _ is).second

request_packet_of : (p : List ℕ) → is_request p ≡ true → IsPacketOf (RequestOf (request_in p)) p
request_packet_of p is =
    let tests = eight _ _ _ _ _ _ _ _ is in
    let node = within 1 200 (slice_index p 3) tests.fifth in
    record {
      counter = leb-true (slice_index p 2) 11 tests.fourth;
      place = (
        record {
          slot = within 1 44 (slice_index p 1) tests.third;
          counter = omega arith;
          boot = within 1 200 (slice_index p 4) tests.sixth;
          stream = leb-true (slice_index p 5) 3 tests.seventh;
          interval = leb-true (slice_index p 6) 120 tests.eighth;
        },
        node.0,
        node.1,
      );
      spelled = is;
      named = of_kind p 3 kinds.Request (request_first p is) refl;
      counted = eqb-true (length p) 7 tests.first;
    }

-- ---- schedules

-- the first byte of a schedule is 1 or 4
record IsFirst (n : ℕ) : Type 0 where
  named : unwrap_or (kind_by n) kinds.Payload ≡ kinds.Schedule
  no_data : n ≡ 2 → ⊥
  no_request : n ≡ 3 → ⊥

schedule_first : (p : List ℕ) (s : Schedule) → schedule_of p ≡ Some s → IsFirst (slice_index p 0)
schedule_first p s is =
    subst IsFirst (heads_of p s (spelled_by p s is)).body.acknowledged.kind_is
    (cond_both (s.plan.contend == 0) 1 4 IsFirst
    (λ one. record { named = refl; no_data = λ two. omega arith; no_request = λ three. omega arith })
    (λ four. record { named = refl; no_data = λ two. omega arith; no_request = λ three. omega arith }))

pub parts_in : (p : List ℕ) (s : Schedule) → schedule_of p ≡ Some s → Parts s (slot_of p) (counter_of p)
parts_in p s is = (heads_of p s (spelled_by p s is)).parts

schedule_packet_of : (p : List ℕ) (s : Schedule) → schedule_of p ≡ Some s → IsPacketOf (ScheduleOf s) p
schedule_packet_of p s is =
    let none : 0 ≤ 11 = omega arith in
    let parts = parts_in p s is in
    let both = and_parts _ _ (spelled_by p s is) in
    let same : schedule_spelling s (slot_of p) (counter_of p) ≡ p = bytes_same (schedule_spelling s (slot_of p) (counter_of p)) p both.1 in
    let first = schedule_first p s is in
    record {
      counter = parts.count;
      place = range_from s (slot_of p) 0 (record {
        count = none;
        place = parts.place;
        rank = parts.rank;
        boot = parts.boot;
        gap = parts.gap;
        contend = parts.contend;
        few = parts.few;
        acks = parts.acks;
        ordered = parts.ordered;
        owners = parts.owners;
      });
      spelled = ap is_some is;
      named = of_kind p (slice_index p 0) kinds.Schedule refl first.named;
      counted = sym (ap length same) ∙ length-spelling s (slot_of p) (counter_of p);
    }

-- ---- all three

abbrev said_by : List ℕ → Bool → Bool → Option Schedule → Option Message
said_by p x y o = if x then Some (DataOf (data_in p)) else if y then Some (RequestOf (request_in p)) else option_map ScheduleOf o

says_by : (p : List ℕ) (m : Message) (x y : Bool) (o : Option Schedule) → is_data p ≡ x → is_request p ≡ y → schedule_of p ≡ o
    → said_by p x y o ≡ Some m → IsPacketOf m p
says_by p m true y o is_one is_other reads is =
    let same : DataOf (data_in p) ≡ m = cc in
    subst (λ (w : Message). IsPacketOf w p) same (data_packet_of p is_one)
says_by p m false true o is_one is_other reads is =
    let same : RequestOf (request_in p) ≡ m = cc in
    subst (λ (w : Message). IsPacketOf w p) same (request_packet_of p is_other)
says_by p m false false (Some s) is_one is_other reads is =
    let same : ScheduleOf s ≡ m = cc in
    subst (λ (w : Message). IsPacketOf w p) same (schedule_packet_of p s reads)
says_by p m false false None is_one is_other reads is = absurd cc

pub says : (p : List ℕ) (m : Message) → message_of p ≡ Some m → IsPacketOf m p
says p m is = says_by p m (is_data p) (is_request p) (schedule_of p) refl refl refl is

some_by : (p : List ℕ) (x y : Bool) (o : Option Schedule) → is_some (said_by p x y o) ≡ (x || y || is_some o)
some_by p true y o = refl
some_by p false true o = refl
some_by p false false (Some s) = refl
some_by p false false None = refl

pub packets_say : (p : List ℕ) → is_some (message_of p) ≡ is_packet p
packets_say p = some_by p (is_data p) (is_request p) (schedule_of p)

-- ---- by their kind

no_data : (p : List ℕ) → (slice_index p 0 ≡ 2 → ⊥) → is_data p ≡ false
no_data p other = false_from_ne_true (is_data p) (λ is. other (data_first p is))

pub no_request : (p : List ℕ) → (slice_index p 0 ≡ 3 → ⊥) → is_request p ≡ false
no_request p other = false_from_ne_true (is_request p) (λ is. other (request_first p is))

some_is : (o : Option Schedule) → is_some o ≡ true → (s : Schedule) × (o ≡ Some s)
some_is None is = absurd (false≢true is)
some_is (Some s) is = (s, refl)

pub kind_says : (kind : Kind) (p : List ℕ) → is_spelling kind p ≡ true → SaysOfKind kind p
kind_says kinds.Payload p is = record { message = DataOf (data_in p); says = cond-true (is_data p) _ _ is; of_kind = refl }
kind_says kinds.Request p is =
    let first = request_first p is in
    let other : is_data p ≡ false = no_data p (λ two. omega arith) in
    record { message = RequestOf (request_in p); says = cond-false (is_data p) _ _ other ∙ cond-true (is_request p) _ _ is; of_kind = refl }
kind_says kinds.Schedule p is =
    let s = some_is (schedule_of p) is in
    let first = schedule_first p s.0 s.1 in
    record {
      message = ScheduleOf s.0;
      says = cond-false (is_data p) _ _ (no_data p first.no_data)
          ∙ cond-false (is_request p) _ _ (no_request p first.no_request) ∙ ap (option_map ScheduleOf) s.1;
      of_kind = refl;
    }

-- ---- what a schedule says

schedule_by : (p : List ℕ) (s : Schedule) (x y : Bool) (o : Option Schedule) → said_by p x y o ≡ Some (ScheduleOf s) → o ≡ Some s
schedule_by p s true y o is = absurd cc
schedule_by p s false true o is = absurd cc
schedule_by p s false false None is = absurd cc
schedule_by p s false false (Some t) is = cc

pub schedule_read : (p : List ℕ) (s : Schedule) → message_of p ≡ Some (ScheduleOf s) → schedule_of p ≡ Some s
schedule_read p s is = schedule_by p s (is_data p) (is_request p) (schedule_of p) is

-- ---- what data and requests say

data_by : (p : List ℕ) (d : Data) (x y : Bool) (o : Option Schedule) → is_data p ≡ x → said_by p x y o ≡ Some (DataOf d)
    → (is_data p ≡ true) × (DataOf (data_in p) ≡ DataOf d)
data_by p d true y o test is = (test, cc)
data_by p d false true o test is = absurd cc
data_by p d false false None test is = absurd cc
data_by p d false false (Some s) test is = absurd cc

pub data_read : (p : List ℕ) (d : Data) → message_of p ≡ Some (DataOf d) → (is_data p ≡ true) × (DataOf (data_in p) ≡ DataOf d)
data_read p d is = data_by p d (is_data p) (is_request p) (schedule_of p) refl is

request_by : (p : List ℕ) (a : Ask) (x y : Bool) (o : Option Schedule) → is_request p ≡ y → said_by p x y o ≡ Some (RequestOf a)
    → (is_request p ≡ true) × (RequestOf (request_in p) ≡ RequestOf a)
request_by p a true y o test is = absurd cc
request_by p a false true o test is = (test, cc)
request_by p a false false None test is = absurd cc
request_by p a false false (Some s) test is = absurd cc

pub request_read : (p : List ℕ) (a : Ask) → message_of p ≡ Some (RequestOf a) → (is_request p ≡ true) × (RequestOf (request_in p) ≡ RequestOf a)
request_read p a is = request_by p a (is_data p) (is_request p) (schedule_of p) refl is
