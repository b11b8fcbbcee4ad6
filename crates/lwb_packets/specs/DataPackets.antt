-- Data packets and their bytes.
use Rattle.std.specs.Prelude.{◌≡◌, ℕ, ◌+◌, ◌*◌, ◌/◌, ◌%◌, ◌≤◌, List, ◌∷◌, length, Bool, nat_le, ◌&&◌, ◌==◌, slice_index}
use Rattle.lwb_base.specs.declared.limits.TheConstants.{DATA_SLOTS, GREATEST_ID, LAST_STEP, MOST_BOOTS}
use Rattle.lwb_packets.specs.Ranges.{between}
use Rattle.lwb_packets.specs.declared.data_packet.DataPacket.{DataPacket}

-- each field is in its range
pub record InRange (d : DataPacket) : Type 0 where
  pub slot : (1 ≤ d.slot) × (d.slot ≤ DATA_SLOTS)
  pub counter : d.counter ≤ LAST_STEP
  pub boot : (1 ≤ d.boot) × (d.boot ≤ MOST_BOOTS)
  pub stream : d.stream ≤ 3
  pub seq : d.seq ≤ 65534

-- kind, slot, counter, node, boot, stream, number in two bytes with the high one first, payload
abbrev pub data_spelling : DataPacket → List ℕ
data_spelling d = 2 ∷ d.slot ∷ d.counter ∷ d.node ∷ d.boot ∷ d.stream ∷ d.seq / 256 ∷ d.seq % 256 ∷ d.payload

-- d is a data packet with each part in its range, and these are its bytes
pub record SpellsData (p : List ℕ) (d : DataPacket) : Type 0 where
  pub in_range : InRange d
  pub node : (1 ≤ d.node) × (d.node ≤ GREATEST_ID)
  pub payload : length d.payload ≤ 96
  pub bytes : data_spelling d ≡ p

-- whether these bytes are a spelling: the length, the kind, and the range of each byte and of the number
abbrev pub is_data : List ℕ → Bool
is_data p =
    between 8 104 (length p) && (slice_index p 0 == 2) && between 1 DATA_SLOTS (slice_index p 1) && nat_le (slice_index p 2) LAST_STEP
    && between 1 GREATEST_ID (slice_index p 3) && between 1 MOST_BOOTS (slice_index p 4) && nat_le (slice_index p 5) 3
    && nat_le (256 * slice_index p 6 + slice_index p 7) 65534
