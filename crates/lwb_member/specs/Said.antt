-- What is said in a slot, and its bytes.
use Rattle.std.specs.Prelude.{◌≡◌, ℕ, true, ◌+◌, ◌*◌, ◌≤◌, List, length, if◌then◌else◌, slice_index, drop, Some, option_map, ⊤}
use Rattle.std.specs.declared.option.Option.{Option}
use Rattle.lwb_base.specs.declared.limits.TheConstants.{GREATEST_ID}
use Rattle.lwb_base.specs.Messages.{Ask, Plan}
use Rattle.lwb_packets.specs.DataPackets.{is_data, data_spelling, InRange as IsData, SpellsData}
use Rattle.lwb_packets.specs.Requests.{is_request, request_spelling, InRange as IsRequest, SpellsRequest}
use Rattle.lwb_packets.specs.declared.data_packet.DataPacket.{DataPacket}
use Rattle.lwb_packets.specs.declared.request.Request as Requested
use Rattle.lwb_packets.specs.declared.kind.Kind.{Kind}
use Rattle.glossy_relay.specs.FloodState.{kind_named}
use Rattle.glossy_relay.specs.Relaying.{is_packet, is_spelling}
use Rattle.schedule_codec.specs.Spelling.{schedule_spelling, schedule_in_range}
use Rattle.schedule_codec.specs.Reading.{schedule_of}
use Rattle.lwb_member.specs.declared.message.Heard.{Heard}
use Rattle.lwb_member.specs.declared.message.Heard.TheVariants.{Schedule, Data, Request}
use Rattle.bus_rules.specs.declared.part.Part.{Part}
use Rattle.bus_rules.specs.declared.part.Part.TheVariants.{Opening, Data as DataSlot, Contention, Closing}
use Rattle.bus_rules.specs.Plans.{last_slot}
use Rattle.bus_rules.specs.Slots.{Data as DataSaid, Message, ScheduleOf, DataOf, RequestOf}

-- what a packet says that was read
abbrev pub meaning : Heard → Message
meaning (Schedule s) = ScheduleOf s
meaning (Data d) = DataOf (record { node = d.node; boot = d.boot; stream = d.stream; seq = d.seq; payload = d.payload })
meaning (Request r) = RequestOf (record { node = r.node; boot = r.boot; stream = r.stream; interval = r.interval })

-- a data packet in this slot, as its initiator sends it
abbrev pub data_packet : DataSaid → ℕ → DataPacket
data_packet d j = record { slot = j; counter = 0; node = d.node; boot = d.boot; stream = d.stream; seq = d.seq; payload = d.payload }

abbrev pub request_packet : Ask → ℕ → Requested.Request
request_packet a j = record { slot = j; counter = 0; node = a.node; boot = a.boot; stream = a.stream; interval = a.interval }

-- the bytes of the packet with counter 0
abbrev pub bytes_of : Message → ℕ → List ℕ
bytes_of (ScheduleOf x) j = schedule_spelling x j 0
bytes_of (DataOf d) j = data_spelling (data_packet d j)
bytes_of (RequestOf a) j = request_spelling (request_packet a j)

-- what may be said in slot j: each part is in its range
abbrev pub MaySay : ℕ → Message → Type 0
MaySay j (ScheduleOf x) = schedule_in_range x j 0 ≡ true
MaySay j (DataOf d) = IsData (data_packet d j) × (1 ≤ d.node) × (d.node ≤ GREATEST_ID) × (length d.payload ≤ 96)
MaySay j (RequestOf a) = IsRequest (request_packet a j) × (1 ≤ a.node) × (a.node ≤ GREATEST_ID)

abbrev pub bytes_in_slot : ℕ → Message → List ℕ
bytes_in_slot j m = bytes_of m j

-- the slot that a packet names where its place is not given: the first that such a part may have, or the round's last
abbrev pub slot_said : Plan → Part → ℕ
slot_said p Opening = 0
slot_said p (DataSlot owner) = 1
slot_said p (Contention i) = 1
slot_said p Closing = last_slot p

abbrev pub data_in : List ℕ → DataSaid
data_in p = record {
  node = slice_index p 3;
  boot = slice_index p 4;
  stream = slice_index p 5;
  seq = 256 * slice_index p 6 + slice_index p 7;
  payload = drop 8 p;
}

abbrev pub request_in : List ℕ → Ask
request_in p = record { node = slice_index p 3; boot = slice_index p 4; stream = slice_index p 5; interval = slice_index p 6 }

-- what a packet says; none where its bytes are no spelling
abbrev pub message_of : List ℕ → Option Message
message_of p =
    if is_data p then Some (DataOf (data_in p))
    else if is_request p then Some (RequestOf (request_in p))
    else option_map ScheduleOf (schedule_of p)

-- a data packet or a request was read with all that its bytes say, the slot and the counter too, which a message leaves out
abbrev pub IsReadFrom : List ℕ → Heard → Type 0
IsReadFrom p (Schedule s) = ⊤
IsReadFrom p (Data d) = SpellsData p d
IsReadFrom p (Request r) = SpellsRequest p r

-- a packet of this kind, as its initiator sends it
pub record IsInitialPacket (kind : Kind) (p : List ℕ) : Type 0 where
  pub packet : is_packet p ≡ true
  pub counter : slice_index p 2 ≡ 0
  pub named : kind_named p ≡ kind
  pub spelled : is_spelling kind p ≡ true
