-- What a slot costs the nodes, by the masks of those who sent in its flood.
use Rattle.std.specs.Prelude.{◌≤◌, ◌==◌, ℕ, ◌+◌, ◌*◌, List, Bool, if◌then◌else◌, length, map, filter, slice_index}
use Rattle.std.specs.declared.option.Option.{Option}
use Rattle.std.specs.Int.{bit_at}
use Rattle.std.specs.List.{range_with_len}
use Rattle.std.specs.Option.{option_map_or}
use Rattle.lwb_base.specs.Profile.{Numbers, airtime}
use Rattle.bus_rules.specs.Charges.{charge, last_if_all_sent}
use Rattle.bus_rules.specs.Slots.{message_length}
use Rattle.bus_terms.specs.Bus.{Cost}
use Rattle.plain_bus.specs.BusNodes.{BusNode}
use Rattle.plain_bus.specs.Closings.{Behind}
use Rattle.plain_bus.specs.SlotFloods.{Seen}

-- the first n steps, without those in which the node at a place did not send
abbrev pub steps_at : List ℕ → ℕ → ℕ → List ℕ
steps_at masks place n = filter (λ k. bit_at (slice_index masks k) place == 1) (range_with_len 0 n)

-- the same by a test
abbrev pub steps_in : (ℕ → Bool) → List ℕ
steps_in sends = filter sends (range_with_len 0 12)

-- each transmission with its step and length
abbrev pub sent_as : ℕ → List ℕ → List (ℕ × ℕ)
sent_as bytes ks = map (λ k. (k, bytes)) ks

abbrev pub window_charge : Numbers → ℕ → Bool → ℕ → List ℕ → ℕ
window_charge p limit is_open bytes ks = if is_open then charge p (last_if_all_sent limit (sent_as bytes ks)) else 0

-- a cost with that of a slot, in which a node sent this many bytes in each of these steps, and had a window or none
abbrev pub with_slot : Numbers → ℕ → Bool → ℕ → List ℕ → Cost → Cost
with_slot p limit is_open bytes ks c = record c { sent = c.sent + length ks * airtime p bytes; windows = c.windows + window_charge p limit is_open bytes ks }

-- the length of what is said in a window
abbrev pub said_bytes : Seen → ℕ
said_bytes w = option_map_or message_length w.message 0

-- the length of what the node of a window sends in the flood: of what it says itself, or of what it received first
abbrev pub bytes_in : Behind → Seen → Option (ℕ × ℕ) → ℕ
bytes_in b w first = if w.initiates then said_bytes w else option_map_or (λ a. said_bytes (b.window a.0)) first 0

abbrev pub bytes_sent_by : Behind → ℕ → ℕ
bytes_sent_by b v = bytes_in b (b.window v) (b.first v)

-- a cost of node v after a slot in which it took part or might have done so
abbrev pub charged : Numbers → ℕ → Behind → (ℕ → ℕ → Bool) → ℕ → Cost → Cost
charged p limit b sends v c = with_slot p limit (b.window v).is_open (bytes_sent_by b v) (steps_in (sends v)) c

-- the costs of a node after a slot of the round of this rank
abbrev pub slot_charged : Numbers → ℕ → ℕ → Behind → (ℕ → ℕ → Bool) → (ℕ → BusNode) → (ℕ → Cost) → ℕ → Cost
slot_charged p rank limit b sends n cost v =
    if (n v).rank == rank then charged p limit b sends v (cost v) else cost v

-- no more than this many slots may cost
abbrev pub SLOT_COST : ℕ
SLOT_COST = 8388608

pub record IsBelow (slots : ℕ) (c : Cost) : Type 0 where
  pub sent : c.sent ≤ slots * SLOT_COST
  pub windows : c.windows ≤ slots * SLOT_COST
