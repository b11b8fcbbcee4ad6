-- Lists of acknowledgements in the order of their owner codes, and their bytes.
use Rattle.std.specs.Prelude.{ℕ, ◌-◌, List, [], ◌∷◌, Bool, true, ◌&&◌, nat_lt, nat_le, length, Some, None}
use Rattle.std.specs.declared.option.Option.{Option}
use Rattle.std.specs.List.{slice_get}
use Rattle.lwb_base.specs.declared.limits.TheConstants.{GREATEST_ID, MOST_BOOTS}
use Rattle.lwb_base.specs.Messages.{Ask, code_of}
use Rattle.lwb_packets.specs.Ranges.{between}

-- each code is above the one before
abbrev pub strictly_ascend : List Ask → Bool
strictly_ascend [] = true
strictly_ascend (a ∷ []) = true
strictly_ascend (a ∷ b ∷ more) = nat_lt (code_of a) (code_of b) && strictly_ascend (b ∷ more)

-- at most 4, in the order of their codes
abbrev pub are_acks : List Ask → Bool
are_acks acks = nat_le (length acks) 4 && strictly_ascend acks

-- above the last
abbrev pub may_follow : Option Ask → Ask → Bool
may_follow None a = true
may_follow (Some last) a = nat_lt (code_of last) (code_of a)

-- the list has room for this one at its end
abbrev pub takes_ack : List Ask → Ask → Bool
takes_ack acks a = nat_lt (length acks) 4 && may_follow (slice_get acks (length acks - 1)) a

-- the ranges of a request's fields
abbrev pub ask_in_range : Ask → Bool
ask_in_range a = between 1 GREATEST_ID a.node && between 1 MOST_BOOTS a.boot && nat_le a.stream 3 && nat_le a.interval 120

-- node, boot, stream, interval
abbrev pub ask_bytes : Ask → List ℕ
ask_bytes a = a.node ∷ a.boot ∷ a.stream ∷ a.interval ∷ []
