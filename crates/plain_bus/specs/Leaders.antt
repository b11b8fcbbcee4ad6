-- Who leads the round of a rank among the nodes as the code has them, and what its slots are for.
use Rattle.std.specs.Prelude.{ℕ, ◌+◌, List, [], Bool, map}
use Rattle.std.specs.List.{range_with_len}
use Rattle.lwb_base.specs.Messages.{Plan}
use Rattle.bus_rules.specs.declared.part.Part.{Part}
use Rattle.bus_rules.specs.Plans.{last_slot}
use Rattle.bus_rules.specs.Slots.{part_of}
use Rattle.bus_rules.specs.States.{State, StateOff, StateOn}
use Rattle.bus_rules.specs.Tuning.{hosts_in, holds_in}
use Rattle.bus_terms.specs.ScriptedStates.{is_on_and}
use Rattle.plain_bus.specs.BusNodes.{BusNode, shown}

-- what the slots of a plan's round are for, by slot
abbrev pub slot_parts : Plan → List Part
slot_parts p = map (part_of p) (range_with_len 0 (last_slot p + 1))

abbrev pub parts_in : State → List Part
parts_in (StateOff boots) = []
parts_in (StateOn c) = slot_parts c.plan

abbrev pub parts_at : BusNode → List Part
parts_at n = parts_in n.state

-- a host whose round of this rank is that of this frame, and a synchronized member that is due
abbrev pub leads : ℕ → ℕ → BusNode → Bool
leads rank f n = is_on_and (λ c. hosts_in rank f c.tune) (shown rank n)

abbrev pub holds : ℕ → ℕ → BusNode → Bool
holds rank f n = is_on_and (λ c. holds_in rank f c.tune) (shown rank n)
