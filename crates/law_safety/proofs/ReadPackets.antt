-- What was accepted in a window, as a packet and as a message.
use Rattle.std.proofs.Common.{◌≡◌, ℕ, List, Bool, true, false, if◌then◌else◌, Some, None, Option, option_and_then, option_map, refl, ap}
use Rattle.glossy_relay.specs.Relaying.{counter_of}
use Rattle.bus_rules.specs.Slots.{Message}
use Rattle.lwb_member.specs.Said.{message_of}

-- what is read of an accepted packet
pub packet_of : (o : Option (List ℕ × ℕ)) (m : Message) → option_and_then (λ (a : List ℕ × ℕ). message_of a.0) o ≡ Some m
    → (a : List ℕ × ℕ) × (o ≡ Some a) × (message_of a.0 ≡ Some m)
packet_of None m is = absurd cc
packet_of (Some a) m is = (a, refl, is)

-- a listener's first packet
pub listener : (begun : Bool) (first : Option (List ℕ)) (a : List ℕ × ℕ)
    → (if begun then None else option_map {U = List ℕ × ℕ} (λ (q : List ℕ). (q, counter_of q)) first) ≡ Some a → (begun ≡ false) × (first ≡ Some a.0)
listener true first a is = absurd cc
listener false None a is = absurd cc
listener false (Some q) a is = (refl, ap (option_map {U = List ℕ} (λ (b : List ℕ × ℕ). b.0)) is)
