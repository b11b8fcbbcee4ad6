-- What the script and the ends of frames do to the nodes of the bus, and which packets are lost before they are queued.
use Rattle.std.specs.Prelude.{ℕ, List, Bool, true, false, ◌&&◌, ◌==◌, if◌then◌else◌, Some, None, fold, filter}
use Rattle.std.specs.declared.option.Option.{Option}
use Rattle.scenario_text.specs.ScenarioParts.{ScenarioParts}
use Rattle.scenario_text.specs.Setups.{setup_of}
use Rattle.bus_rules.specs.declared.act.Act.{Act}
use Rattle.bus_rules.specs.declared.act.Act.TheVariants.{Put}
use Rattle.scenario_text.specs.declared.script.ScriptLine.{ScriptLine}
use Rattle.bus_rules.specs.declared.delivery.DropLine.{DropLine}
use Rattle.bus_rules.specs.Cores.{Core, frame_ended}
use Rattle.bus_rules.specs.States.{State, StateOff, StateOn, state_after_act, at_core, loses}

-- a test of a node's core, which fails where the node is off
abbrev pub is_on_and : (Core → Bool) → State → Bool
is_on_and test (StateOff boots) = false
is_on_and test (StateOn c) = test c

abbrev pub state_after_line : State → ScriptLine → State
state_after_line x l = state_after_act l.act x

-- what the node is given in this frame, in the order of the text
abbrev pub lines_of : ScenarioParts → ℕ → ℕ → List ScriptLine
lines_of s f v = filter (λ l. (l.node == v) && (l.frame == f)) s.script

abbrev pub states_after_script : ScenarioParts → ℕ → (ℕ → State) → ℕ → State
states_after_script s f states v = fold state_after_line (states v) (lines_of s f v)

-- what is lost by a line at a node in this state
abbrev pub lost_by : ScriptLine → Act → State → Option DropLine
lost_by l (Put i payload) x = if loses i x then Some (record { frame = l.frame; node = l.node; stream = i }) else None
lost_by l other x = None

-- of the lines above one, those that its node is given in its frame
abbrev pub told_above : List ScriptLine → ScriptLine → List ScriptLine
told_above above l = filter (λ m. (m.node == l.node) && (m.frame == l.frame)) above

-- the end of frame f at each node
abbrev pub states_after_end : ScenarioParts → ℕ → (ℕ → State) → ℕ → State
states_after_end s f states v = at_core (frame_ended (setup_of s v) f) (states v)

-- whether a node is on, and how often it booted
abbrev pub power : State → Bool × ℕ
power (StateOff boots) = (false, boots)
power (StateOn c) = (true, c.boot)
