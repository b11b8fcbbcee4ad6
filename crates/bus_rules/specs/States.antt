-- A node as the script meets it: off or on, and what the script does to it.
use Rattle.std.specs.Prelude.{ℕ, ◌+◌, ◌==◌, ◌≤◌, List, [], Bool, true, if◌then◌else◌, Some, None, length}
use Rattle.std.specs.declared.option.Option.{Option}
use Rattle.lwb_base.specs.Profile.{Numbers}
use Rattle.bus_rules.specs.declared.act.Act.{Act}
use Rattle.bus_rules.specs.declared.act.Act.TheVariants.{On, Off, Declare, Leave, Put}
use Rattle.bus_rules.specs.declared.act.Switch.{Switch}
use Rattle.bus_rules.specs.declared.act.Switch.TheVariants as switch
use Rattle.bus_rules.specs.Streams.{streams_after_act, drops}
use Rattle.bus_rules.specs.Cores.{Core, booted}

-- the numbers of what a node is given are in range, but for the length of a payload
abbrev pub IsStreamAct : Act → Type 0
IsStreamAct (Declare stream interval) = (stream ≤ 3) × (1 ≤ interval) × (interval ≤ 120)
IsStreamAct (Leave stream) = stream ≤ 3
IsStreamAct (Put stream payload) = stream ≤ 3
IsStreamAct other = Unit {0}

-- and with that
abbrev pub IsAct : Numbers → Act → Type 0
IsAct p (Put stream payload) = (stream ≤ 3) × (length payload ≤ p.payload_max)
IsAct p other = IsStreamAct other

-- what an act does to power; None where it is for a stream
abbrev pub switch_of : Act → Option Switch
switch_of On = Some switch.On
switch_of Off = Some switch.Off
switch_of other = None

-- the stream that gets a packet, and the packet's payload
abbrev pub put_stream : Act → Option ℕ
put_stream (Put stream payload) = Some stream
put_stream other = None

abbrev pub payload_of : Act → List ℕ
payload_of (Put stream payload) = payload
payload_of other = []

-- the interval that stream i requests after an act, where it requested this one before
abbrev pub wish_after : ℕ → Act → ℕ → ℕ
wish_after i (Declare j interval) before = if j == i then interval else before
wish_after i (Leave j) before = if j == i then 0 else before
wish_after i other before = before

-- off after this many boots, or on
pub data State : Type 0 where
  StateOff : (boots : ℕ) → State
  StateOn : (core : Core) → State

-- power comes on: the next boot
abbrev pub state_after_on : State → State
state_after_on (StateOff boots) = StateOn (booted (boots + 1))
state_after_on (StateOn c) = StateOn c

-- power goes off
abbrev pub state_after_off : State → State
state_after_off (StateOff boots) = StateOff boots
state_after_off (StateOn c) = StateOff c.boot

-- an act for a stream changes the streams of a node that is on, and nothing else
abbrev pub core_after_act : Act → Core → Core
core_after_act act c = record c { streams = streams_after_act act c.streams }

-- what is done to the core of a node that is on
abbrev pub at_core : (Core → Core) → State → State
at_core change (StateOff boots) = StateOff boots
at_core change (StateOn c) = StateOn (change c)

abbrev pub state_after_act : Act → State → State
state_after_act On x = state_after_on x
state_after_act Off x = state_after_off x
state_after_act other x = at_core (core_after_act other) x

-- a put is lost where the node is off or its stream rejects it
abbrev pub loses : ℕ → State → Bool
loses i (StateOff boots) = true
loses i (StateOn c) = drops c.streams i
