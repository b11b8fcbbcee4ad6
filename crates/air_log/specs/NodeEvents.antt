-- What happens at one node in a flood, and what its flood is meanwhile.
use Rattle.std.specs.Prelude.{◌≢◌, ◌≤◌, ℕ, List, [], ◌∷◌, Option, Some, None, filter_map, AllPairs}
use Rattle.glossy_relay.specs.FloodState.{FloodState}
use Rattle.glossy_relay.specs.Relaying.{after_heard, after_sent}
use Rattle.radio_model.specs.declared.sending.Sending.{Sending}

-- a transmission was received, or an own one ended
pub data Event : Type 0 where
  Heard : (x : Sending) → Event
  Ended : (x : Sending) → Event

abbrev pub sending_of_event : Event → Sending
sending_of_event (Heard x) = x
sending_of_event (Ended x) = x

-- by their ends, and none twice
abbrev pub EventsInOrder : List Event → Type 0
EventsInOrder events = AllPairs (λ d e. ((sending_of_event d).end ≤ (sending_of_event e).end) × (d ≢ e)) events

abbrev pub flood_after_event : FloodState → Event → FloodState
flood_after_event s (Heard x) = after_heard s x.packet
flood_after_event s (Ended x) = after_sent s

abbrev pub flood_after_events : FloodState → List Event → FloodState
flood_after_events s [] = s
flood_after_events s (e ∷ es) = flood_after_events (flood_after_event s e) es

-- an event, and the flood before it
pub record EventOccasion : Type 0 where
  pub before : FloodState
  pub event : Event

abbrev pub event_occasions : FloodState → List Event → List EventOccasion
event_occasions s [] = []
event_occasions s (e ∷ es) = record { before = s; event = e } ∷ event_occasions (flood_after_event s e) es

abbrev pub own_end : Event → Option ℕ
own_end (Heard x) = None
own_end (Ended x) = Some x.end

-- the ends of the node's own transmissions
abbrev pub own_ends : List Event → List ℕ
own_ends events = filter_map own_end events
