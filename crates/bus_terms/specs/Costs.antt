-- What the slots of a round cost a node, in ticks of 1/64 µs.
use Rattle.std.specs.Prelude.{ℕ, List, if◌then◌else◌, is_some, filter_map, sum_by, option_map}
use Rattle.std.specs.Option.{option_map_or}
use Rattle.lwb_base.specs.Profile.{Numbers, airtime}
use Rattle.scenario_text.specs.ScenarioParts.{ScenarioParts}
use Rattle.bus_rules.specs.Charges.{charge, last_if_all_sent}
use Rattle.bus_rules.specs.Slots.{message_length}
use Rattle.bus_rules.specs.States.{State}
use Rattle.bus_terms.specs.Flooding.{moment, steps}
use Rattle.bus_terms.specs.Rounds.{Slot, message_said, slot_at, slots_of, round_plan}

-- the length of what this origin said, in bytes
abbrev pub length_at : Slot → ℕ → ℕ
length_at x origin = option_map_or message_length (message_said (x.window origin)) 0

-- the step and the length of each transmission of v in the flood
abbrev pub steps_sent_by : Slot → ℕ → List (ℕ × ℕ)
steps_sent_by x v = filter_map (λ k. option_map (λ origin. (k, length_at x origin)) ((moment x.flood k).sends v)) steps

-- how long v sends in the slot
abbrev pub slot_sent : Numbers → Slot → ℕ → ℕ
slot_sent p x v = sum_by (λ a. airtime p a.1) (steps_sent_by x v)

-- what its window in the slot counts, if it has one
abbrev pub slot_window : Numbers → Slot → ℕ → ℕ
slot_window p x v = if is_some (x.window v) then charge p (last_if_all_sent x.flood.limit (steps_sent_by x v)) else 0

-- the sum of a cost over the slots of the round of this rank and frame
abbrev pub over_round : (Slot → ℕ) → ScenarioParts → ℕ → ℕ → (ℕ → State) → ℕ
over_round cost s rank f states =
    option_map_or (λ p. sum_by (λ j. cost (slot_at s rank f p states j)) (slots_of p)) (round_plan s rank f states) 0
