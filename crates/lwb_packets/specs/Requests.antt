-- Requests and their bytes.
use Rattle.std.specs.Prelude.{◌≡◌, ℕ, ◌+◌, ◌≤◌, List, [], ◌∷◌, length, Bool, nat_le, ◌&&◌, ◌==◌, slice_index}
use Rattle.lwb_base.specs.declared.limits.TheConstants.{DATA_SLOTS, GREATEST_ID, LAST_STEP, MOST_BOOTS}
use Rattle.lwb_packets.specs.Ranges.{between}
use Rattle.lwb_packets.specs.declared.request.Request.{Request}

-- each field is in its range. The contention slots, of which there are at most 4, come after the data slots
pub record InRange (r : Request) : Type 0 where
  pub slot : (1 ≤ r.slot) × (r.slot ≤ DATA_SLOTS + 4)
  pub counter : r.counter ≤ LAST_STEP
  pub boot : (1 ≤ r.boot) × (r.boot ≤ MOST_BOOTS)
  pub stream : r.stream ≤ 3
  pub interval : r.interval ≤ 120

-- kind, slot, counter, node, boot, stream, interval
abbrev pub request_spelling : Request → List ℕ
request_spelling r = 3 ∷ r.slot ∷ r.counter ∷ r.node ∷ r.boot ∷ r.stream ∷ r.interval ∷ []

-- r is a request with each part in its range, and these are its bytes
pub record SpellsRequest (p : List ℕ) (r : Request) : Type 0 where
  pub in_range : InRange r
  pub node : (1 ≤ r.node) × (r.node ≤ GREATEST_ID)
  pub bytes : request_spelling r ≡ p

-- whether these bytes are a spelling: the length, the kind, and the range of each byte
abbrev pub is_request : List ℕ → Bool
is_request p =
    (length p == 7) && (slice_index p 0 == 3) && between 1 (DATA_SLOTS + 4) (slice_index p 1) && nat_le (slice_index p 2) LAST_STEP
    && between 1 GREATEST_ID (slice_index p 3) && between 1 MOST_BOOTS (slice_index p 4) && nat_le (slice_index p 5) 3 && nat_le (slice_index p 6) 120
