-- What a node says is a spelling.
use Rattle.std.proofs.Common.{◌≡◌, ◌≤◌, ◌||◌, ℕ, zero, suc, List, Some, true, length, slice_index, refl, ap, ◌∙◌, arith}
use Rattle.std.proofs.lemmas.Bool.{or_left, or_right, ne_eqb}
use Rattle.std.proofs.lemmas.Bool.Decides.{nat_tests}
use Rattle.lwb_base.specs.Messages.{Schedule}
use Rattle.lwb_packets.specs.DataPackets as data_packets
use Rattle.lwb_packets.specs.Requests as requests
use Rattle.lwb_packets.specs.declared.data_packet.DataPacket.{DataPacket}
use Rattle.lwb_packets.specs.declared.request.Request.{Request}
use Rattle.schedule_codec.specs.Reading.{schedule_of, is_schedule}
use Rattle.schedule_codec.specs.Spelling.{schedule_spelling, kind_byte}
use Rattle.std.specs.Option.{unwrap_or}
use Rattle.lwb_packets.specs.Kinds.{kind_by}
use Rattle.glossy_relay.specs.FloodState.{kind_named}
use Rattle.glossy_relay.specs.Relaying.{is_packet}
use Rattle.lwb_packets.specs.declared.kind.Kind.TheVariants as Kinds
use Rattle.lwb_member.specs.Said.{IsInitialPacket}

is_data_packet : (p : List ℕ) → data_packets.is_data p ≡ true → is_packet p ≡ true
is_data_packet p is = or_left (data_packets.is_data p || requests.is_request p) (is_schedule p) (or_left (data_packets.is_data p) (requests.is_request p) is)

is_request_packet : (p : List ℕ) → requests.is_request p ≡ true → is_packet p ≡ true
is_request_packet p is =
    or_left (data_packets.is_data p || requests.is_request p) (is_schedule p) (or_right (data_packets.is_data p) (requests.is_request p) is)

is_schedule_packet : (p : List ℕ) → is_schedule p ≡ true → is_packet p ≡ true
is_schedule_packet p is = or_right (data_packets.is_data p || requests.is_request p) (is_schedule p) is

pub data_spoken : (d : DataPacket) → data_packets.InRange d → d.counter ≡ 0 → 1 ≤ d.node → d.node ≤ 200 → length d.payload ≤ 96
    → IsInitialPacket Kinds.Payload (data_packets.data_spelling d)
data_spoken d in_range none low high short =
    let is : data_packets.is_data (data_packets.data_spelling d) ≡ true = grind (arith, nat_tests) in
    record { packet = is_data_packet (data_packets.data_spelling d) is; counter = none; named = refl; spelled = is }

pub request_spoken : (r : Request) → requests.InRange r → r.counter ≡ 0 → 1 ≤ r.node → r.node ≤ 200
    → IsInitialPacket Kinds.Request (requests.request_spelling r)
request_spoken r in_range none low high =
    let is : requests.is_request (requests.request_spelling r) ≡ true = grind (arith, nat_tests) in
    record { packet = is_request_packet (requests.request_spelling r) is; counter = none; named = refl; spelled = is }

kind_of_byte : (contend : ℕ) → unwrap_or (kind_by (kind_byte contend)) Kinds.Payload ≡ Kinds.Schedule
kind_of_byte zero = refl
kind_of_byte (suc n) = rw (ne_eqb (suc n) 0 (omega arith)) refl

pub schedule_spoken : (p : List ℕ) (s : Schedule) (slot : ℕ) → schedule_of p ≡ Some s → p ≡ schedule_spelling s slot 0 → IsInitialPacket Kinds.Schedule p
schedule_spoken p s slot is bytes =
    let spelled : is_schedule p ≡ true = rw is refl in
    record {
      packet = is_schedule_packet p spelled;
      counter = ap (λ (q : List ℕ). slice_index q 2) bytes;
      named = ap kind_named bytes ∙ kind_of_byte s.plan.contend;
      spelled = spelled;
    }
