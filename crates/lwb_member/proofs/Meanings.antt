-- What is read off the bytes of a packet is what was spelled.
use Rattle.std.proofs.Common.{◌≡◌, ℕ, ◌+◌, ◌*◌, ◌/◌, ◌%◌, List, refl, subst, ap, arith}
use Rattle.lwb_packets.specs.DataPackets.{SpellsData, data_spelling}
use Rattle.lwb_packets.specs.Requests.{SpellsRequest}
use Rattle.lwb_packets.specs.declared.data_packet.DataPacket.{DataPacket}
use Rattle.lwb_packets.specs.declared.request.Request.{Request}
use Rattle.bus_rules.specs.Slots.{DataOf, RequestOf}
use Rattle.lwb_member.specs.declared.message.Heard.TheVariants.{Data as HeardData, Request as HeardRequest}
use Rattle.lwb_member.specs.Said.{meaning, data_in, request_in}

pub joined : (n : ℕ) → 256 * (n / 256) + n % 256 ≡ n
joined n = omega arith

pub says_data : (p : List ℕ) (d : DataPacket) → SpellsData p d → DataOf (data_in p) ≡ meaning (HeardData d)
says_data p d s =
    subst (λ (q : List ℕ). DataOf (data_in q) ≡ meaning (HeardData d)) s.bytes
    (ap (λ (n : ℕ). DataOf (record (data_in (data_spelling d)) { seq = n })) (joined d.seq))

pub says_request : (p : List ℕ) (r : Request) → SpellsRequest p r → RequestOf (request_in p) ≡ meaning (HeardRequest r)
says_request p r s = subst (λ (q : List ℕ). RequestOf (request_in q) ≡ meaning (HeardRequest r)) s.bytes refl
