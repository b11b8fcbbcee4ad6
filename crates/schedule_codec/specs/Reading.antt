-- The schedule whose bytes a packet is. What its bytes would say is read off them, and then spelled again: no other
-- bytes are a spelling.
use Rattle.std.specs.Prelude.{ℕ, zero, suc, ◌+◌, ◌-◌, ◌*◌, ◌/◌, ◌%◌, ◌^◌, List, [], ◌∷◌, Bool, ◌==◌, ◌&&◌, ◌||◌, nat_lt}
use Rattle.std.specs.Prelude.{if◌then◌else◌, length, drop, slice_index, is_some, Some, None}
use Rattle.std.specs.declared.option.Option.{Option}
use Rattle.lwb_base.specs.Messages.{Ask, Schedule}
use Rattle.lwb_packets.specs.TwoBytes.{number_of_two}
use Rattle.schedule_codec.specs.Packing.{packed_number, digits}
use Rattle.schedule_codec.specs.Spelling.{spells}

-- the rank that bytes name as schedules do, whose first is 1 or 4; none where it is another, or they are too few
abbrev pub host_named : List ℕ → Option ℕ
host_named bs = if nat_lt 3 (length bs) && ((slice_index bs 0 == 1) || (slice_index bs 0 == 4)) then Some (slice_index bs 3 / 16) else None

-- the codes that follow, each by its difference from the one before
abbrev pub following : ℕ → List ℕ → List ℕ
following c [] = []
following c (d ∷ ds) = (c + d) ∷ following (c + d) ds

-- a first code, and those that follow
abbrev pub summed : ℕ → List ℕ → List ℕ
summed c ds = c ∷ following c ds

-- what comes from the count of owners on
abbrev pub owners_in : List ℕ → List ℕ
owners_in bs =
    let count = slice_index bs 0 in
    let first = number_of_two (slice_index bs 1) (slice_index bs 2) in
    let width = first % 16 in
    let rest = drop 3 bs in
    if count == 0 then [] else summed (first / 16) (digits width (count - 1) (packed_number 8 rest / 2 ^ (8 * length rest - (count - 1) * width)))

abbrev pub ask_in : List ℕ → Ask
ask_in bs = record { node = slice_index bs 0; boot = slice_index bs 1; stream = slice_index bs 2; interval = slice_index bs 3 }

unfoldable pub asks_in : ℕ → List ℕ → List Ask
asks_in zero bs = []
asks_in (suc k) bs = ask_in bs ∷ asks_in k (drop 4 bs)

abbrev pub schedule_in : ℕ → List Ask → List ℕ → List ℕ → Schedule
schedule_in contend acks owners bs = record {
  gap = slice_index bs 3 % 16;
  plan = record { rank = slice_index bs 3 / 16; boot = slice_index bs 4; contend = contend; acks = acks; owners = owners_in owners };
}

-- what these bytes would say, if they are a spelling
abbrev pub said : List ℕ → Schedule
said bs =
    if slice_index bs 0 == 1
    then schedule_in 0 (if slice_index bs 5 == 0 then [] else ask_in (drop 5 bs) ∷ []) (drop 9 bs) bs
    else (let count = slice_index bs 5 % 16 in schedule_in (slice_index bs 5 / 16 + 1) (asks_in count (drop 6 bs)) (drop (6 + 4 * count) bs) bs)

unfoldable pub schedule_of : List ℕ → Option Schedule
schedule_of p = if spells p (said p) then Some (said p) else None

abbrev pub is_schedule : List ℕ → Bool
is_schedule p = is_some (schedule_of p)
