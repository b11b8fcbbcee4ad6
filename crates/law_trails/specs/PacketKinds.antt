-- What packets say: of what kind they are for it, where they may be, and what a node with a profile may say.
use Rattle.std.specs.Prelude.{◌≡◌, ⊤, ℕ, ◌≤◌, true, List, length, Some}
use Rattle.lwb_base.specs.Profile.{Numbers}
use Rattle.lwb_base.specs.Messages.{Schedule}
use Rattle.lwb_base.specs.declared.limits.TheConstants.{DATA_SLOTS, GREATEST_GAP, LAST_RANK, LAST_STEP}
use Rattle.lwb_packets.specs.declared.kind.Kind as Kind
use Rattle.glossy_relay.specs.FloodState.{kind_named}
use Rattle.glossy_relay.specs.Relaying.{is_spelling, slot_of, counter_of}
use Rattle.bus_rules.specs.Slots.{Message, ScheduleOf, DataOf, RequestOf, message_length}
use Rattle.lwb_member.specs.Said.{MaySay, message_of}

-- the kind of the packets that say it
abbrev pub kind_of_message : Message → Kind.Kind
kind_of_message (ScheduleOf x) = Kind.TheVariants.Schedule
kind_of_message (DataOf d) = Kind.TheVariants.Payload
kind_of_message (RequestOf a) = Kind.TheVariants.Request

-- what the bytes of a packet are that says this message
pub record IsPacketOf (m : Message) (p : List ℕ) : Type 0 where
  pub counter : counter_of p ≤ LAST_STEP
  pub place : MaySay (slot_of p) m
  pub spelled : is_spelling (kind_of_message m) p ≡ true
  pub named : kind_named p ≡ kind_of_message m
  pub counted : length p ≡ message_length m

-- the bytes say something, of this kind
pub record SaysOfKind (kind : Kind.Kind) (p : List ℕ) : Type 0 where
  pub message : Message
  pub says : message_of p ≡ Some message
  pub of_kind : kind_of_message message ≡ kind

-- the ranges of a schedule that is in this slot: an opening opens its round, and a closing has a data slot or a
-- contention slot before it
pub record IsInSlot (slot : ℕ) (x : Schedule) : Type 0 where
  pub rank : x.plan.rank ≤ LAST_RANK
  pub gap : x.gap ≤ GREATEST_GAP
  pub owners : length x.plan.owners ≤ DATA_SLOTS
  pub opening : x.gap ≡ 0 → slot ≡ 0
  pub closing : 1 ≤ x.gap → 2 ≤ slot

-- a schedule names the profile's contention slots, and a payload is no longer than the profile's greatest
abbrev pub IsOfProfile : Numbers → Message → Type 0
IsOfProfile p (ScheduleOf x) = x.plan.contend ≡ p.contend
IsOfProfile p (DataOf d) = length d.payload ≤ p.payload_max
IsOfProfile p (RequestOf a) = ⊤
