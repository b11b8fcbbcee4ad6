-- What a packet is, by its first byte.
use Rattle.std.specs.Prelude.{ℕ, List, ◌==◌, ◌||◌, if◌then◌else◌, slice_index, Some, None}
use Rattle.std.specs.declared.option.Option.{Option}
use Rattle.lwb_packets.specs.declared.kind.Kind.{Kind}
use Rattle.lwb_packets.specs.declared.kind.Kind.TheVariants.{Schedule, Payload, Request}

-- 1 and 4 are the two versions of a schedule, 2 is data and 3 a request
abbrev pub kind_by : ℕ → Option Kind
kind_by byte = if (byte == 1) || (byte == 4) then Some Schedule else if byte == 2 then Some Payload else if byte == 3 then Some Request else None

abbrev pub kind_in : List ℕ → Option Kind
kind_in p = kind_by (slice_index p 0)
