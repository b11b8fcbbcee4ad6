-- Whole runs of a flood at one node: lists of what it receives and of its transmissions that end.
use Rattle.std.specs.Prelude.{◌≡◌, ℕ, ◌+◌, List, [], ◌∷◌, true, nat_lt, if◌then◌else◌, Some, None}
use Rattle.std.specs.declared.option.Option.{Option}
use Rattle.lwb_base.specs.declared.limits.TheConstants.{LAST_STEP}
use Rattle.glossy_relay.specs.FloodState.{FloodState}
use Rattle.glossy_relay.specs.Relaying.{fits, counter_of, after_heard, after_sent}

pub data Call : Type 0 where
  Heard : (p : List ℕ) → Call
  Sent : Call

abbrev pub flood_after_call : FloodState → Call → FloodState
flood_after_call s (Heard p) = after_heard s p
flood_after_call s Sent = after_sent s

abbrev pub flood_after_calls : FloodState → List Call → FloodState
flood_after_calls s [] = s
flood_after_calls s (call ∷ calls) = flood_after_calls (flood_after_call s call) calls

-- a transmission ends only where one is ordered
abbrev pub IsAllowed : FloodState → List Call → Type 0
IsAllowed s [] = Unit {0}
IsAllowed s (Heard p ∷ calls) = IsAllowed (after_heard s p) calls
IsAllowed s (Sent ∷ calls) = (s.waiting ≡ true) × IsAllowed (after_sent s) calls

-- a call, and the flood before it
pub record CallOccasion : Type 0 where
  pub before : FloodState
  pub call : Call

abbrev pub call_occasions : FloodState → List Call → List CallOccasion
call_occasions s [] = []
call_occasions s (call ∷ calls) = record { before = s; call = call } ∷ call_occasions (flood_after_call s call) calls

-- the transmissions ordered by a call
abbrev pub orders_one : FloodState → Call → ℕ
orders_one s (Heard p) = if fits s p then (if nat_lt (counter_of p) LAST_STEP then 1 else 0) else 0
orders_one s Sent = 0

-- the transmissions ordered by these calls
abbrev pub orders : FloodState → List Call → ℕ
orders s [] = 0
orders s (call ∷ calls) = orders_one s call + orders (flood_after_call s call) calls

-- the transmissions that ended among these calls
abbrev pub endings : List Call → ℕ
endings [] = 0
endings (Heard p ∷ calls) = endings calls
endings (Sent ∷ calls) = 1 + endings calls

-- the first of these packets that fitted
abbrev pub first_fitting : FloodState → List Call → Option (List ℕ)
first_fitting s [] = None
first_fitting s (Heard p ∷ calls) = if fits s p then Some p else first_fitting (after_heard s p) calls
first_fitting s (Sent ∷ calls) = first_fitting (after_sent s) calls
