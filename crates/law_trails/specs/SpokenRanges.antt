-- What is said on the air: packets that are spellings, of messages in their ranges, and what a profile has room for.
use Rattle.std.specs.Prelude.{◌≡◌, ℕ, ◌≤◌, List, true, Some, length}
use Rattle.lwb_base.specs.Profile.{Numbers}
use Rattle.lwb_base.specs.declared.limits.TheConstants.{LAST_STEP}
use Rattle.glossy_relay.specs.Relaying.{is_packet, slot_of, counter_of}
use Rattle.bus_rules.specs.Slots.{Message}
use Rattle.lwb_member.specs.Said.{message_of, MaySay}
use Rattle.law_trails.specs.PacketKinds.{IsOfProfile}

-- the packet says a message that may be said in its slot
pub record SaysInItsSlot (q : List ℕ) : Type 0 where
  pub message : Message
  pub read : message_of q ≡ Some message
  pub may : MaySay (slot_of q) message

pub record IsSpoken (p : Numbers) (q : List ℕ) : Type 0 where
  pub packet : is_packet q ≡ true
  pub least : 7 ≤ length q
  pub most : length q ≤ p.packet_max
  pub counter : counter_of q ≤ LAST_STEP
  pub says : SaysInItsSlot q

-- the profile has room for the packet, and what it says, if it says something, is of the profile
pub record IsFitting (p : Numbers) (q : List ℕ) : Type 0 where
  pub most : length q ≤ p.packet_max
  pub of_profile : (m : Message) → message_of q ≡ Some m → IsOfProfile p m

pub record IsProper (p : Numbers) (q : List ℕ) : Type 0 where
  pub spoken : IsSpoken p q
  pub of_profile : (m : Message) → message_of q ≡ Some m → IsOfProfile p m
