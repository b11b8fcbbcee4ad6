-- What is said on the bus next to data: requests with their acknowledgements, and schedules. An owner of a slot is a
-- stream of a node, seen as its code.
use Rattle.std.specs.Prelude.{ℕ, zero, suc, ◌+◌, ◌-◌, ◌*◌, ◌/◌, ◌%◌, ◌^◌, List, [], ◌∷◌, Bool, ◌==◌, nat_lt, if◌then◌else◌, length}
use Rattle.std.specs.List.{list_all}
use Rattle.lwb_base.specs.declared.limits.TheConstants.{DATA_SLOTS}

abbrev pub code : ℕ → ℕ → ℕ
code node stream = node * 4 + stream

abbrev pub node_of : ℕ → ℕ
node_of c = c / 4

abbrev pub stream_of : ℕ → ℕ
stream_of c = c % 4

-- a request of a node's stream, and its acknowledgement. The interval 0 ends the stream
pub record Ask : Type 0 where
  pub node : ℕ
  pub boot : ℕ
  pub stream : ℕ
  pub interval : ℕ

abbrev pub code_of : Ask → ℕ
code_of a = code a.node a.stream

-- the host's rank and boot, the number of contention slots that it names (0 for none), what it acknowledges, and the
-- owners of the data slots
pub record Plan : Type 0 where
  pub rank : ℕ
  pub boot : ℕ
  pub contend : ℕ
  pub acks : List Ask
  pub owners : List ℕ

-- the last slot of the longest round, by the number of contention slots that is named: after the opening come the data
-- slots, and one contention slot where none is named, else at most 4
abbrev pub greatest_slot : ℕ → ℕ
greatest_slot contend = if contend == 0 then DATA_SLOTS + 2 else DATA_SLOTS + 5

-- gap 0 opens the round of this plan, and gap g above 0 closes the round g frames before it
pub record Schedule : Type 0 where
  pub plan : Plan
  pub gap : ℕ

-- each is a number of w bits
abbrev pub fit : ℕ → List ℕ → Bool
fit w ds = list_all (λ d. nat_lt d (2 ^ w)) ds

-- the least number from w on that passes; w + n where the first n do not
unfoldable pub least_passing : ℕ → ℕ → (ℕ → Bool) → ℕ
least_passing zero w passes = w
least_passing (suc n) w passes = if passes w then w else least_passing n (w + 1) passes

-- the least width that all of them fit. A difference of two codes fits 10 bits
abbrev pub width_of : List ℕ → ℕ
width_of ds = least_passing 10 0 (λ w. fit w ds)

-- of successive codes
abbrev pub differences : List ℕ → List ℕ
differences [] = []
differences (c ∷ []) = []
differences (c ∷ d ∷ cs) = (d - c) ∷ differences (d ∷ cs)

-- the bytes of a list of owners: their count, and where it is not 0 the first code with the width of the differences, and
-- these without gaps
abbrev pub owners_length : List ℕ → ℕ
owners_length [] = 1
owners_length (c ∷ cs) = 3 + (length cs * width_of (differences (c ∷ cs)) + 7) / 8

-- the bytes of a schedule, with four for each acknowledgement. Where no contention slots are named there is room for one
abbrev pub length_of : Schedule → ℕ
length_of s = (if s.plan.contend == 0 then 9 else 6 + 4 * length s.plan.acks) + owners_length s.plan.owners
