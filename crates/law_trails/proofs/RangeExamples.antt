-- Packets that say what may be said, and some that do not.
use Rattle.std.proofs.Common.{◌≡◌, ℕ, ◌<◌, List, [], ◌∷◌, false, length, replicate, refl, arith}
use Rattle.lwb_base.specs.Profile.{one, contended}
use Rattle.lwb_packets.specs.declared.kind.Kind.TheVariants.{Payload}
use Rattle.schedule_codec.specs.OwnerLists.{least_passing}
use Rattle.schedule_codec.specs.Packing.{packed_number, digits}
use Rattle.schedule_codec.specs.Reading.{schedule_of, asks_in}
use Rattle.glossy_relay.specs.FloodState.{listening}
use Rattle.glossy_relay.specs.Relaying.{is_packet, reply_to}
use Rattle.glossy_relay.specs.declared.flood.Reply.TheVariants.{Relay}
use Rattle.law_trails.specs.SpokenRanges.{IsSpoken}
use Rattle.law_trails.proofs.SpokenInRange.{spoken}

-- data of node 4, a request of node 2, the opening of a round of three owners, and a closing that names two contention slots
data_in_slot_1 : IsSpoken one (2 ∷ 1 ∷ 0 ∷ 4 ∷ 1 ∷ 0 ∷ 0 ∷ 0 ∷ 0xaa ∷ [])
data_in_slot_1 = spoken one (2 ∷ 1 ∷ 0 ∷ 4 ∷ 1 ∷ 0 ∷ 0 ∷ 0 ∷ 0xaa ∷ []) refl (omega arith)

request_relayed_once : IsSpoken one (3 ∷ 1 ∷ 1 ∷ 2 ∷ 1 ∷ 0 ∷ 5 ∷ [])
request_relayed_once = spoken one (3 ∷ 1 ∷ 1 ∷ 2 ∷ 1 ∷ 0 ∷ 5 ∷ []) refl (omega arith)

opening_of_three : IsSpoken one (1 ∷ 0 ∷ 0 ∷ 0 ∷ 1 ∷ 0 ∷ 0 ∷ 0 ∷ 0 ∷ 3 ∷ 0 ∷ 0x43 ∷ 0x14 ∷ [])
unfolding packed_number digits least_passing schedule_of asks_in
opening_of_three = spoken one (1 ∷ 0 ∷ 0 ∷ 0 ∷ 1 ∷ 0 ∷ 0 ∷ 0 ∷ 0 ∷ 3 ∷ 0 ∷ 0x43 ∷ 0x14 ∷ []) refl (omega arith)

closing_of_two : IsSpoken (contended 2) (4 ∷ 3 ∷ 0 ∷ 4 ∷ 1 ∷ 0x12 ∷ 2 ∷ 1 ∷ 0 ∷ 5 ∷ 3 ∷ 1 ∷ 0 ∷ 5 ∷ 8 ∷ 0 ∷ 0x83 ∷ 0 ∷ 0x40 ∷ 0 ∷ [])
unfolding packed_number digits least_passing schedule_of asks_in
closing_of_two = spoken (contended 2) (4 ∷ 3 ∷ 0 ∷ 4 ∷ 1 ∷ 0x12 ∷ 2 ∷ 1 ∷ 0 ∷ 5 ∷ 3 ∷ 1 ∷ 0 ∷ 5 ∷ 8 ∷ 0 ∷ 0x83 ∷ 0 ∷ 0x40 ∷ 0 ∷ []) refl (omega arith)

-- a slot, a counter and a boot out of range, and an opening in slot 1
slot_41 : is_packet (2 ∷ 41 ∷ 0 ∷ 4 ∷ 1 ∷ 0 ∷ 0 ∷ 0 ∷ []) ≡ false
unfolding packed_number digits least_passing schedule_of asks_in
slot_41 = refl

counter_12 : is_packet (3 ∷ 1 ∷ 12 ∷ 2 ∷ 1 ∷ 0 ∷ 5 ∷ []) ≡ false
unfolding packed_number digits least_passing schedule_of asks_in
counter_12 = refl

boot_201 : is_packet (3 ∷ 1 ∷ 0 ∷ 2 ∷ 201 ∷ 0 ∷ 5 ∷ []) ≡ false
unfolding packed_number digits least_passing schedule_of asks_in
boot_201 = refl

late_opening : is_packet (1 ∷ 1 ∷ 0 ∷ 0 ∷ 1 ∷ 0 ∷ 0 ∷ 0 ∷ 0 ∷ 3 ∷ 0 ∷ 0x43 ∷ 0x14 ∷ []) ≡ false
unfolding packed_number digits least_passing schedule_of asks_in
late_opening = refl

-- what is received has to fit the profile: a node of the first profile would relay a packet of 104 bytes, of which it has room
-- for 64
abbrev long : ℕ → List ℕ
long k = 2 ∷ 1 ∷ k ∷ 4 ∷ 1 ∷ 0 ∷ 0 ∷ 0 ∷ replicate 96 0

relayed_though_too_long : reply_to (listening Payload 1 2) (long 0) ≡ Relay (long 1)
relayed_though_too_long = refl

too_long : one.packet_max < length (long 1)
too_long = omega arith
