use Rattle.std.proofs.Common.{◌≡◌, length, map}
use Rattle.std.specs.List.{range_with_len}
use Rattle.bus_rules.specs.Slots.{part_of}
use Rattle.plain_bus.proofs.leading.parts_of_member.Given as goal

abbrev pub invariant-loop-slot : goal.invariant-loop-slot
invariant-loop-slot l = record {
  count : length l.parts.items ≡ l.slot;
  parts : l.parts.items ≡ map (part_of l.member.core.plan) (range_with_len 0 l.slot);
}
