-- Ascending lists of owners, as codes, and their bytes.
use Rattle.std.specs.Prelude.{ℕ, ◌+◌, ◌-◌, ◌*◌, List, [], ◌∷◌, ◌++◌, Bool, true, ◌&&◌, nat_lt, nat_le, length, Some, None}
use Rattle.std.specs.declared.option.Option.{Option}
use Rattle.std.specs.List.{list_all, slice_get}
use Rattle.lwb_base.specs.declared.limits.TheConstants.{DATA_SLOTS}
use Rattle.lwb_packets.specs.Ranges.{between}
use Rattle.lwb_packets.specs.TwoBytes.{two_bytes}
use Rattle.schedule_codec.specs.Packing.{packed}
pub use Rattle.lwb_base.specs.Messages.{width_of, differences, owners_length}
unfoldable pub use Rattle.lwb_base.specs.Messages.{least_passing}

-- each is not below the one before
abbrev pub ascend : List ℕ → Bool
ascend [] = true
ascend (c ∷ []) = true
ascend (c ∷ d ∷ cs) = nat_le c d && ascend (d ∷ cs)

-- a code for each data slot at most, ascending
abbrev pub are_owners : List ℕ → Bool
are_owners cs = nat_le (length cs) DATA_SLOTS && list_all (between 4 803) cs && ascend cs

-- not below the last
abbrev pub may_follow : Option ℕ → ℕ → Bool
may_follow None c = true
may_follow (Some last) c = nat_le last c

-- the list has room for this code at its end
abbrev pub takes_owner : List ℕ → ℕ → Bool
takes_owner cs c = nat_lt (length cs) DATA_SLOTS && may_follow (slice_get cs (length cs - 1)) c

-- the first code with the width, and the packed differences
abbrev pub codes_bytes : ℕ → List ℕ → List ℕ
codes_bytes c ds = two_bytes (c * 16 + width_of ds) ++ packed (width_of ds) ds

-- the count, and what follows where it is not 0
abbrev pub owners_bytes : List ℕ → List ℕ
owners_bytes [] = 0 ∷ []
owners_bytes (c ∷ cs) = length (c ∷ cs) ∷ codes_bytes c (differences (c ∷ cs))
