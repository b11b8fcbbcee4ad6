-- The slots of a round: where each part is, and what packets it is for.
use Rattle.std.specs.Prelude.{◌≡◌, ℕ, ◌+◌, ◌≤◌}
use Rattle.lwb_base.specs.declared.limits.TheConstants.{DATA_SLOTS}
use Rattle.lwb_base.specs.Messages.{Plan}
use Rattle.lwb_packets.specs.declared.kind.Kind as Kind
use Rattle.bus_rules.specs.declared.part.Part.{Part}
use Rattle.bus_rules.specs.declared.part.Part.TheVariants.{Opening, Data, Contention, Closing}
use Rattle.bus_rules.specs.Plans.{last_slot}

abbrev pub IsPartOfSlot : Plan → ℕ → Part → Type 0
IsPartOfSlot p j Opening = j ≡ 0
IsPartOfSlot p j (Data owner) = (1 ≤ j) × (j ≤ DATA_SLOTS)
IsPartOfSlot p j (Contention i) = (1 ≤ j) × (j ≤ DATA_SLOTS + 4)
IsPartOfSlot p j Closing = j ≡ last_slot p

abbrev pub kind_for : Part → Kind.Kind
kind_for Opening = Kind.TheVariants.Schedule
kind_for (Data owner) = Kind.TheVariants.Payload
kind_for (Contention i) = Kind.TheVariants.Request
kind_for Closing = Kind.TheVariants.Schedule
