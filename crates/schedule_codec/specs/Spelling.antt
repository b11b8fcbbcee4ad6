-- The bytes of a schedule, by slot and counter.
use Rattle.std.specs.Prelude.{◌≡◌, ◌≤◌, true, ℕ, ◌+◌, ◌-◌, ◌*◌, List, [], ◌∷◌, ◌++◌, Bool, ◌&&◌, ◌==◌}
use Rattle.std.specs.Prelude.{nat_le, if◌then◌else◌, length, flat_map, slice_index, bytes_eq}
use Rattle.std.specs.List.{list_all}
use Rattle.lwb_base.specs.Messages.{Ask, Schedule, greatest_slot}
use Rattle.lwb_base.specs.declared.limits.TheConstants.{GREATEST_GAP, LAST_STEP, MOST_BOOTS}
use Rattle.lwb_packets.specs.Ranges.{between}
use Rattle.schedule_codec.specs.AckLists.{are_acks, ask_in_range, ask_bytes}
use Rattle.schedule_codec.specs.OwnerLists.{are_owners, owners_bytes}
pub use Rattle.lwb_base.specs.Messages.{length_of}

-- one acknowledgement, or zeros for none
abbrev pub single_ack : List Ask → List ℕ
single_ack [] = 0 ∷ 0 ∷ 0 ∷ 0 ∷ []
single_ack (a ∷ more) = ask_bytes a

-- version 1, where no contention slots are named, has one at most; version 2 has their number, the count, and this many
abbrev pub acks_bytes : ℕ → List Ask → List ℕ
acks_bytes contend acks = if contend == 0 then single_ack acks else ((contend - 1) * 16 + length acks) ∷ flat_map ask_bytes acks

abbrev pub kind_byte : ℕ → ℕ
kind_byte contend = if contend == 0 then 1 else 4

abbrev pub schedule_spelling : Schedule → ℕ → ℕ → List ℕ
schedule_spelling s slot counter = kind_byte s.plan.contend ∷ slot ∷ counter ∷ (s.plan.rank * 16 + s.gap) ∷ s.plan.boot
    ∷ acks_bytes s.plan.contend s.plan.acks ++ owners_bytes s.plan.owners

abbrev pub most_acks : ℕ → ℕ
most_acks contend = if contend == 0 then 1 else 4

-- the acknowledgements of a schedule of this kind, and their bytes
pub record SpellsAcks (kind : ℕ) (bs : List ℕ) (contend : ℕ) (acks : List Ask) : Type 0 where
  pub kind_is : kind_byte contend ≡ kind
  pub named : contend ≤ 4
  pub few : length acks ≤ most_acks contend
  pub in_range : list_all ask_in_range acks ≡ true
  pub ordered : are_acks acks ≡ true
  pub bytes : acks_bytes contend acks ≡ bs

-- what is after the host's boot in a schedule of this kind
pub record SpellsBody (kind : ℕ) (bs : List ℕ) (contend : ℕ) (acks : List Ask) (owners : List ℕ) : Type 0 where
  pub acknowledged : SpellsAcks kind (acks_bytes contend acks) contend acks
  pub owned : are_owners owners ≡ true
  pub whole : acks_bytes contend acks ++ owners_bytes owners ≡ bs

-- an opening is in slot 0, and a closing in the last slot of some round of its version
abbrev pub slot_fits : ℕ → ℕ → ℕ → Bool
slot_fits gap contend slot = if gap == 0 then slot == 0 else between 2 (greatest_slot contend) slot

-- the ranges of the fields, the slot and the counter
abbrev pub schedule_in_range : Schedule → ℕ → ℕ → Bool
schedule_in_range s slot counter =
    nat_le counter LAST_STEP && slot_fits s.gap s.plan.contend slot && nat_le s.gap GREATEST_GAP
    && nat_le s.plan.rank 3 && between 1 MOST_BOOTS s.plan.boot && nat_le s.plan.contend 4
    && nat_le (length s.plan.acks) (most_acks s.plan.contend) && list_all ask_in_range s.plan.acks && are_acks s.plan.acks
    && are_owners s.plan.owners

-- what a schedule needs next to what its types say, to be written in this slot
pub record IsWritable (s : Schedule) (slot : ℕ) : Type 0 where
  pub boot : (1 ≤ s.plan.boot) × (s.plan.boot ≤ MOST_BOOTS)
  pub gap : s.gap ≤ GREATEST_GAP
  pub contend : s.plan.contend ≤ 4
  pub few : length s.plan.acks ≤ most_acks s.plan.contend
  pub acks : list_all ask_in_range s.plan.acks ≡ true
  pub place : slot_fits s.gap s.plan.contend slot ≡ true

-- these bytes are the schedule's, in some slot and with some counter
abbrev pub spells : List ℕ → Schedule → Bool
spells p s = schedule_in_range s (slice_index p 1) (slice_index p 2) && bytes_eq (schedule_spelling s (slice_index p 1) (slice_index p 2)) p
