-- The floods of a round and of a frame.
use Rattle.std.specs.Prelude.{ℕ, List, [], flat_map, map}
use Rattle.std.specs.Option.{option_map_or}
use Rattle.scenario_text.specs.ScenarioParts.{ScenarioParts}
use Rattle.bus_rules.specs.States.{State}
use Rattle.bus_terms.specs.Bus.{ranks_of}
use Rattle.bus_terms.specs.Rounds.{round_plan, slots_of}
use Rattle.plain_bus.specs.RunFloods.{SlotFlood, slot_flood}

-- by slot
abbrev pub round_floods : ScenarioParts → ℕ → ℕ → (ℕ → State) → List SlotFlood
round_floods s rank f states = option_map_or (λ p. map (slot_flood s rank f p states) (slots_of p)) (round_plan s rank f states) []

-- by rank and slot
abbrev pub frame_floods : ScenarioParts → ℕ → (ℕ → State) → List SlotFlood
frame_floods s f states = flat_map (λ rank. round_floods s rank f states) (ranks_of s)
