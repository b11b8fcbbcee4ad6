-- The nodes of the bus as the code has them.
use Rattle.std.specs.Prelude.{◌≡◌, ◌<◌, ◌==◌, ℕ, List, length, map, Bool, true, false, Some, None, if◌then◌else◌, option_map, option_and_then, ⊤}
use Rattle.std.specs.declared.option.Option.{Option}
use Rattle.lwb_base.specs.declared.limits.TheConstants.{MOST_BOOTS}
use Rattle.bus_rules.specs.Cores.{Core, Setup, is_member}
use Rattle.bus_rules.specs.Plans.{slots_named}
use Rattle.bus_rules.specs.Slots.{Message, Opened, Closed, opened_slot, closed_slot, delivery_of, part_of, is_schedule_part}
use Rattle.bus_rules.specs.declared.delivery.Delivery.{Delivery}
use Rattle.bus_rules.specs.declared.part.Part.{Part}
use Rattle.bus_rules.specs.States.{State, StateOff, StateOn}
use Rattle.scenario_text.specs.ScenarioParts.{ScenarioParts}
use Rattle.bus_rules.specs.declared.act.Act.{Act}
use Rattle.bus_rules.specs.declared.act.Act.TheVariants.{On}
use Rattle.lwb_member.specs.Members.{MayAccept}
use Rattle.lwb_member.specs.Planning.{IsEarly}
use Rattle.bus_rules.specs.Tuning.{hosts_in}
use Rattle.bus_terms.specs.FloodOfText.{ids}
use Rattle.bus_terms.specs.Flooding.{has}
use Rattle.bus_terms.specs.Rounds.{rank_in, before_slot, round_plan}
use Rattle.scenario_text.specs.Setups.{setup_of}
use Rattle.lwb_base.specs.Messages.{Plan}

-- what is fixed for a node, the rank in whose round of the frame it takes part, and its state
pub record BusNode : Type 0 where
  pub setup : Setup
  pub rank : ℕ
  pub state : State

abbrev pub bus_node : ScenarioParts → (ℕ → ℕ) → (ℕ → State) → ℕ → BusNode
bus_node s ranks states v = record { setup = setup_of s v; rank = ranks v; state = states v }

-- the nodes of this rank are in these states, the others are not
abbrev pub mixed : ℕ → (ℕ → ℕ) → (ℕ → State) → (ℕ → State) → ℕ → State
mixed rank ranks states others v = if ranks v == rank then states v else others v

-- on with this core, or off after this many boots
abbrev pub state_by : Bool → Core → ℕ → State
state_by on c boots = if on then StateOn c else StateOff boots

-- it may boot once more
abbrev pub MayBoot : State → Type 0
MayBoot (StateOff boots) = boots < MOST_BOOTS
MayBoot (StateOn c) = ⊤

abbrev pub MayDo : Act → State → Type 0
MayDo On x = MayBoot x
MayDo other x = ⊤

-- no stream of its table was accepted after this frame
abbrev pub IsEarlyState : ℕ → State → Type 0
IsEarlyState f (StateOff boots) = ⊤
IsEarlyState f (StateOn c) = IsEarly f c.table

-- its window in a slot of the round of this rank and frame, if it is a member
abbrev pub window_of_state : Setup → ℕ → ℕ → Part → State → Option Opened
window_of_state s rank f part (StateOff boots) = None
window_of_state s rank f part (StateOn c) = if is_member rank f c then Some (opened_slot s f part c) else None

-- and its state where the window is open
abbrev pub state_opened : Setup → ℕ → ℕ → Part → State → State
state_opened s rank f part (StateOff boots) = StateOff boots
state_opened s rank f part (StateOn c) = StateOn (if is_member rank f c then (opened_slot s f part c).core else c)

-- what the closing of the slot leaves at a node in that state: a member's window always closes, another node has one only
-- if it accepted something
abbrev pub closed_of : Setup → ℕ → Part → Bool → Bool → Option Message → State → Option Closed
closed_of s f part is_open initiated heard (StateOff boots) = None
closed_of s f part true initiated heard (StateOn c) = Some (closed_slot s f part initiated c heard)
closed_of s f part false initiated None (StateOn c) = None
closed_of s f part false initiated (Some m) (StateOn c) = Some (closed_slot s f part false c (Some m))

-- a host accepts no schedule, and in its own round no more requests than the round has contention slots
abbrev pub MayAcceptIn : Setup → ℕ → State → Option Message → Type 0
MayAcceptIn s f (StateOff boots) heard = ⊤
MayAcceptIn s f (StateOn c) heard = MayAccept s f c heard

-- what it delivers in the slot of this number
abbrev pub delivered_of : ℕ → ℕ → ℕ → ℕ → Option Closed → Option Delivery
delivered_of v f rank j close = option_map (delivery_of v f rank j) (option_and_then (λ c. c.delivered) close)

-- the state of a node as the round of this rank sees it: those of other ranks are as if they were off
abbrev pub shown : ℕ → BusNode → State
shown rank n = if n.rank == rank then n.state else StateOff 0

-- a node where a slot of this part opened
abbrev pub node_opened : ℕ → ℕ → Part → BusNode → BusNode
node_opened rank f part n = record n { state = if n.rank == rank then state_opened n.setup rank f part n.state else n.state }

-- the nodes before slot j of the round of this rank, which began in these states; those of other ranks are in others
abbrev pub ranks_in : (ℕ → State) → ℕ → ℕ
ranks_in states v = rank_in (states v)

abbrev pub nodes_in : ScenarioParts → ℕ → (start inner others : ℕ → State) → List BusNode
nodes_in s rank start inner others = map (bus_node s (ranks_in start) (mixed rank (ranks_in start) inner others)) (ids s.nodes)

abbrev pub nodes_before : ScenarioParts → ℕ → ℕ → Plan → (start others : ℕ → State) → ℕ → List BusNode
nodes_before s rank f p start others j = nodes_in s rank start (before_slot s rank f p start j) others

-- no node is on that is not in the scenario
abbrev pub AreOffOutside : ScenarioParts → (ℕ → State) → Type 0
AreOffOutside s states = (v : ℕ) → has (ids s.nodes) v ≡ false → states v ≡ StateOff 0

-- before a data slot and a contention slot, a host of the round keeps fewer requests than the round has contention slots
abbrev pub HasRoom : Setup → ℕ → ℕ → Part → State → Type 0
HasRoom s rank f part (StateOff boots) = ⊤
HasRoom s rank f part (StateOn c) = is_schedule_part part ≡ false → hosts_in rank f c.tune ≡ true → length c.kept < slots_named s.profile.contend

-- so it is at all nodes, before slot j of the round that began in these states
abbrev pub HaveRoom : ScenarioParts → ℕ → ℕ → Plan → (ℕ → State) → ℕ → Type 0
HaveRoom s rank f p start j = (v : ℕ) → has (ids s.nodes) v ≡ true → HasRoom (setup_of s v) rank f (part_of p j) (before_slot s rank f p start j v)

-- and before each slot of the round of this rank, if there is one
abbrev pub HaveRoomInRound : ScenarioParts → ℕ → ℕ → (ℕ → State) → Type 0
HaveRoomInRound s rank f start = (p : Plan) → round_plan s rank f start ≡ Some p → (j : ℕ) → HaveRoom s rank f p start j
