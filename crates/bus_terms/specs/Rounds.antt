-- The round of a rank in a frame, slot by slot: windows open, the flood runs, windows close.
use Rattle.std.specs.Prelude.{ℕ, zero, suc, ◌+◌, List, [], Bool, true, false, ◌&&◌, if◌then◌else◌, is_some, Some}
use Rattle.std.specs.Prelude.{None, filter, filter_map, find, flat_map, option_map, option_and_then}
use Rattle.std.specs.declared.option.Option.{Option}
use Rattle.std.specs.Option.{option_or, option_map_or}
use Rattle.std.specs.List.{range_with_len}
use Rattle.lwb_base.specs.Messages.{Plan}
use Rattle.link_trace.specs.Passes.{passes, captured}
use Rattle.scenario_text.specs.ScenarioParts.{ScenarioParts}
use Rattle.bus_rules.specs.declared.delivery.Delivery.{Delivery}
use Rattle.bus_rules.specs.declared.part.Part.{Part}
use Rattle.bus_rules.specs.Plans.{last_slot}
use Rattle.bus_rules.specs.Tuning.{rank_of, hosts_in, holds_in, scans}
use Rattle.bus_rules.specs.Cores.{is_member}
use Rattle.bus_rules.specs.Slots.{Message, Opened, Closed, part_of, opened_slot, closed_slot, delivery_of, is_schedule_part}
use Rattle.bus_rules.specs.States.{State, StateOff, StateOn}
use Rattle.bus_terms.specs.FloodOfText.{ids}
use Rattle.bus_terms.specs.Flooding.{Setting, accepted}
use Rattle.scenario_text.specs.Setups.{setup_of}
use Rattle.bus_terms.specs.ScriptedStates.{is_on_and}

abbrev pub plan_in : State → Option Plan
plan_in (StateOff boots) = None
plan_in (StateOn c) = Some c.plan

-- the first node, by its id, whose state is such
abbrev pub first_node : ScenarioParts → (State → Bool) → (ℕ → State) → Option ℕ
first_node s is states = find (λ v. is (states v)) (ids s.nodes)

-- who leads the round: the host if it is due, else the synchronized member with the least id; none where there is no round
abbrev pub leader : ScenarioParts → ℕ → ℕ → (ℕ → State) → Option ℕ
leader s rank f states =
    option_or (first_node s (is_on_and (λ c. hosts_in rank f c.tune)) states) (first_node s (is_on_and (λ c. holds_in rank f c.tune)) states)

abbrev pub round_plan : ScenarioParts → ℕ → ℕ → (ℕ → State) → Option Plan
round_plan s rank f states = option_and_then (λ v. plan_in (states v)) (leader s rank f states)

-- open: each member of the round has a window in each slot
abbrev pub opened_at : ScenarioParts → ℕ → ℕ → Part → ℕ → State → Option Opened
opened_at s rank f part v (StateOff boots) = None
opened_at s rank f part v (StateOn c) = if is_member rank f c then Some (opened_slot (setup_of s v) f part c) else None

-- what is said in a window, if its node initiates
abbrev pub message_said : Option Opened → Option Message
message_said window = option_and_then (λ o. o.message) window

-- members take part, and in the first slot and the last one the scanning nodes of the rank too
abbrev pub takes_part : ℕ → Part → State → Option Opened → Bool
takes_part rank part x None = is_schedule_part part && is_on_and (λ c. scans rank c.tune) x
takes_part rank part x (Some o) = true

-- one slot: what it is for, the windows in it, and its flood
pub record Slot : Type 0 where
  pub part : Part
  pub window : ℕ → Option Opened
  pub flood : Setting

-- the flood of those who take part: who says something initiates
abbrev pub flood_in_slot : ScenarioParts → ℕ → ℕ → ℕ → Part → (ℕ → State) → (ℕ → Option Opened) → Setting
flood_in_slot s rank f j part states window = record {
  limit = s.sends;
  passes = λ k u v. passes s.trace f j k u v;
  captured = λ k v. captured s.trace f j k v;
  initiators = filter (λ v. is_some (message_said (window v))) (ids s.nodes);
  everyone = filter (λ v. takes_part rank part (states v) (window v)) (ids s.nodes);
}

abbrev pub slot_of_round : ScenarioParts → ℕ → ℕ → Plan → ℕ → (ℕ → State) → Slot
slot_of_round s rank f p j states =
    let window = λ (v : ℕ). opened_at s rank f (part_of p j) v (states v) in
    record { part = part_of p j; window = window; flood = flood_in_slot s rank f j (part_of p j) states window }

-- flood: the message that v accepts, of the initiator that it receives first
abbrev pub accepted_at : Slot → ℕ → Option Message
accepted_at x v = option_and_then (λ a. message_said (x.window a.0)) (accepted x.flood v)

-- close: a member's window always closes, a scanning node has one only if it accepted
abbrev pub closed_slot_of : ScenarioParts → ℕ → Part → ℕ → Option Opened → Option Message → State → Option Closed
closed_slot_of s f part v (Some o) heard x = Some (closed_slot (setup_of s v) f part (is_some o.message) o.core heard)
closed_slot_of s f part v None None x = None
closed_slot_of s f part v None (Some m) (StateOff boots) = None
closed_slot_of s f part v None (Some m) (StateOn c) = Some (closed_slot (setup_of s v) f part false c (Some m))

abbrev pub closed_at : ScenarioParts → ℕ → Slot → (ℕ → State) → ℕ → Option Closed
closed_at s f x states v = closed_slot_of s f x.part v (x.window v) (accepted_at x v) (states v)

abbrev pub left_by : State → Option Closed → State
left_by x None = x
left_by x (Some c) = StateOn c.core

-- the state of each node after the slot
abbrev pub after_slot : ScenarioParts → ℕ → ℕ → Plan → ℕ → (ℕ → State) → ℕ → State
after_slot s rank f p j states v = left_by (states v) (closed_at s f (slot_of_round s rank f p j states) states v)

-- and before slot j of the round
unfoldable pub before_slot : ScenarioParts → ℕ → ℕ → Plan → (ℕ → State) → ℕ → ℕ → State
before_slot s rank f p states zero = states
before_slot s rank f p states (suc j) = after_slot s rank f p j (before_slot s rank f p states j)

abbrev pub slot_at : ScenarioParts → ℕ → ℕ → Plan → (ℕ → State) → ℕ → Slot
slot_at s rank f p states j = slot_of_round s rank f p j (before_slot s rank f p states j)

-- after the whole round, if there is one
abbrev pub after_round : ScenarioParts → ℕ → ℕ → (ℕ → State) → Option Plan → ℕ → State
after_round s rank f states None = states
after_round s rank f states (Some p) = before_slot s rank f p states (last_slot p + 1)

abbrev pub round_of_rank : ScenarioParts → ℕ → ℕ → (ℕ → State) → ℕ → State
round_of_rank s rank f states = after_round s rank f states (round_plan s rank f states)

abbrev pub rank_in : State → ℕ
rank_in (StateOff boots) = 0
rank_in (StateOn c) = rank_of c.tune

-- the rounds of all ranks. A node takes part in that of its own rank alone
abbrev pub rounds : ScenarioParts → ℕ → (ℕ → State) → ℕ → State
rounds s f states v = round_of_rank s (rank_in (states v)) f states v

abbrev pub slots_of : Plan → List ℕ
slots_of p = range_with_len 0 (last_slot p + 1)

-- what v delivers in slot j
abbrev pub delivery_in_slot : ScenarioParts → ℕ → ℕ → Plan → (ℕ → State) → ℕ → ℕ → Option Delivery
delivery_in_slot s rank f p states j v =
    let close = closed_at s f (slot_at s rank f p states j) (before_slot s rank f p states j) v in
    option_map (delivery_of v f rank j) (option_and_then (λ c. c.delivered) close)

abbrev pub slot_deliveries : ScenarioParts → ℕ → ℕ → Plan → (ℕ → State) → ℕ → List Delivery
slot_deliveries s rank f p states j = filter_map (delivery_in_slot s rank f p states j) (ids s.nodes)

-- in a round, by slot and node
abbrev pub round_deliveries : ScenarioParts → ℕ → ℕ → (ℕ → State) → List Delivery
round_deliveries s rank f states =
    option_map_or (λ p. flat_map (slot_deliveries s rank f p states) (slots_of p)) (round_plan s rank f states) []
