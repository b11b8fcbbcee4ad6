-- What a flood of one kind accepts says no message of another kind.
use Rattle.std.proofs.Common.{◌≡◌, List, Bool, true, false, Option, Some, None, IfSome, if◌then◌else◌, option_map, option_and_then, ℕ}
use Rattle.std.proofs.lemmas.Bool.{false≢true}
use Rattle.lwb_packets.specs.DataPackets.{is_data}
use Rattle.lwb_packets.specs.Requests.{is_request}
use Rattle.schedule_codec.specs.Reading.{schedule_of}
use Rattle.glossy_relay.specs.Relaying.{counter_of}
use Rattle.bus_rules.specs.Slots.{Message, ScheduleOf, DataOf, RequestOf}
use Rattle.lwb_member.specs.Said.{message_of, data_in, request_in}

-- what a flood accepts, by its first packet
abbrev pub accepted_by : Bool → Option (List ℕ) → Option Message
accepted_by b first = option_and_then (λ a. message_of a.0) (if b then None else option_map {U = List ℕ × ℕ} (λ p. (p, counter_of p)) first)

abbrev said_by : Bool → Bool → List ℕ → Option Message
said_by b c q = if b then Some (DataOf (data_in q)) else if c then Some (RequestOf (request_in q)) else option_map ScheduleOf (schedule_of q)

abbrev pub IsData : Message → Type 0
IsData (DataOf d) = Unit {0}
IsData (RequestOf a) = ⊥
IsData (ScheduleOf x) = ⊥

abbrev pub IsUnscheduled : Message → Type 0
IsUnscheduled (DataOf d) = Unit {0}
IsUnscheduled (RequestOf a) = Unit {0}
IsUnscheduled (ScheduleOf x) = ⊥

pub says_data : (q : List ℕ) → is_data q ≡ true → IfSome (message_of q) IsData
says_data q sent = by_test (is_data q) sent
  where
    by_test : (b : Bool) → b ≡ true → IfSome (said_by b (is_request q) q) IsData
    by_test true sent = tt
    by_test false sent = absurd (false≢true sent)

pub says_request : (q : List ℕ) → is_request q ≡ true → IfSome (message_of q) IsUnscheduled
says_request q sent = by_tests (is_data q) (is_request q) sent
  where
    by_tests : (b c : Bool) → c ≡ true → IfSome (said_by b c q) IsUnscheduled
    by_tests true c sent = tt
    by_tests false true sent = tt
    by_tests false false sent = absurd (false≢true sent)

pub of_first : (P : List ℕ → Type 0) (Q : Message → Type 0) → ((q : List ℕ) → P q → IfSome (message_of q) Q) → (b : Bool) (first : Option (List ℕ))
    → IfSome first P → IfSome (accepted_by b first) Q
of_first P Q says true first had = tt
of_first P Q says false None had = tt
of_first P Q says false (Some q) had = says q had
