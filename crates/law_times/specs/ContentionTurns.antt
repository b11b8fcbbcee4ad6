-- Nodes that have a request due in each contention slot of their own, round after round: who of them requests.
use Rattle.std.specs.Prelude.{◌≡◌, ◌≢◌, ◌<◌, ◌≤◌, ◌-◌, ◌^◌, ◌%◌, ◌==◌, ◌&&◌, ℕ, zero, suc, List, [], ◌∷◌, Bool, true, is_some, nat_le, count_by}
use Rattle.std.specs.Prelude.{if◌then◌else◌, Some, None}
use Rattle.std.specs.List.{list_all}
use Rattle.std.specs.declared.option.Option.{Option}
use Rattle.bus_rules.specs.Streams.{Streams, after_contention, cleared, due_stream, requested, declared, after_put}
use Rattle.law_service.specs.Contenders.{own_number}

-- the streams of a node after n such slots
unfoldable pub after_turns : ℕ → Streams → ℕ → Streams
after_turns node x zero = x
after_turns node x (suc n) = after_contention node (after_turns node x n)

-- whether it requests in the next one
abbrev pub requests_after : ℕ → Streams → ℕ → Bool
requests_after node x n = is_some (requested (after_turns node x n))

-- a request is due, and tries and skips are as the rule leaves them, after however many tries
pub record IsBackingOff (node : ℕ) (x : Streams) : Type 0 where
  pub due : is_some (due_stream x) ≡ true
  pub tries : x.tries ≤ 4
  pub skips : x.skips ≤ node % 2 ^ x.tries

-- in which of this many contention slots it does so, if it does
abbrev pub slot_after : ℕ → ℕ → Streams → ℕ → Option ℕ
slot_after slots node x n = if requests_after node x n then Some (own_number node (after_turns node x n).tries slots) else None

-- the ids of two nodes that part differ modulo this number
abbrev pub ids_apart : ℕ → ℕ
ids_apart slots = if slots == 3 then 48 else 16

-- within this many rounds, with this many contention slots in each, one of two such nodes alone requests, or both do so in different slots
abbrev pub PartWithin : ℕ → ℕ → Type 0
PartWithin slots rounds =
    (u v : ℕ) (x y : Streams) → u % ids_apart slots ≢ v % ids_apart slots → IsBackingOff u x → IsBackingOff v y
    → (n : ℕ) × (n < rounds) × (slot_after slots u x n ≢ slot_after slots v y n)

-- the rounds that it takes at most, by the number of contention slots
abbrev pub parting_bound : ℕ → ℕ
parting_bound slots = if slots == 2 then 28 else if slots == 4 then 24 else 30

-- a stream that waits to be requested, first tried now
abbrev pub asks_anew : Streams
asks_anew = after_put 0 (0xaa ∷ []) (declared 0 4 cleared)

-- a node that begins to ask in a round, and whether it requests in another
pub record Asker : Type 0 where
  pub node : ℕ
  pub first : ℕ

abbrev pub asks_in : ℕ → Asker → Bool
asks_in n a = nat_le a.first n && requests_after a.node asks_anew (n - a.first)

-- of six nodes that begin in these rounds
abbrev pub six_askers : List Asker
six_askers =
    record { node = 16; first = 0 } ∷ record { node = 17; first = 0 } ∷ record { node = 18; first = 0 } ∷ record { node = 19; first = 1 }
    ∷ record { node = 21; first = 5 } ∷ record { node = 27; first = 7 } ∷ []

-- there is no round in which one alone requests
abbrev pub SixNeverPart : Type 0
SixNeverPart = (n : ℕ) → count_by (asks_in n) six_askers ≢ 1

-- a node that has tried four times, with this many slots of its own to skip, and whether it requests in a round
pub record Waiter : Type 0 where
  pub node : ℕ
  pub skips : ℕ

abbrev pub asks_again : ℕ → Waiter → Bool
asks_again n a = requests_after a.node (record asks_anew { tries = 4; skips = a.skips }) n

-- six such nodes, whose ids differ modulo 48
abbrev pub six_waiters : List Waiter
six_waiters =
    record { node = 48; skips = 0 } ∷ record { node = 33; skips = 0 } ∷ record { node = 18; skips = 0 } ∷ record { node = 3; skips = 1 }
    ∷ record { node = 21; skips = 5 } ∷ record { node = 27; skips = 7 } ∷ []

-- after four tries all have the second of three contention slots, and in no round one of them alone requests
pub record SixOfThreeNeverPart : Type 0 where
  pub shared : list_all (λ a. own_number a.node 4 3 == 2) six_waiters ≡ true
  pub tied : (n : ℕ) → count_by (asks_again n) six_waiters ≢ 1
