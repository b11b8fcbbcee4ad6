-- The packets of a run that were lost before they were queued, by its log.
use Rattle.std.specs.Prelude.{ℕ, List, ◌&&◌, ◌==◌, if◌then◌else◌, Some, None, take, filter, filter_map, fold}
use Rattle.std.specs.List.{enumerate_from}
use Rattle.std.specs.declared.option.Option.{Option}
use Rattle.scenario_text.specs.ScenarioParts.{ScenarioParts}
use Rattle.bus_rules.specs.declared.act.Act.{Act}
use Rattle.bus_rules.specs.declared.act.Act.TheVariants.{Put}
use Rattle.scenario_text.specs.declared.script.ScriptLine.{ScriptLine}
use Rattle.bus_rules.specs.declared.delivery.DropLine.{DropLine}
use Rattle.bus_rules.specs.States.{loses}
use Rattle.air_log.specs.declared.entry.Entry.{Entry}
use Rattle.air_log.specs.Devices.{Device, Power, state_of_power}
use Rattle.air_log.specs.ScriptedDevices.{device_after_line}
use Rattle.scenario_text.specs.Setups.{setup_of}
use Rattle.air_log.specs.Trails.{frame_start, before_tick}
use Rattle.air_log.specs.Lawful.{heard_by}

-- the lines above that the node of this line is given at the same tick
abbrev pub told_at_tick : ScenarioParts → List ScriptLine → ScriptLine → List ScriptLine
told_at_tick s above l = filter (λ m. (m.node == l.node) && (frame_start s m.frame == frame_start s l.frame)) above

-- the node of a line by its trail, just before the line: as it comes to the start of the frame, and then given the lines above
abbrev pub device_before_line : ScenarioParts → (ℕ → ℕ → ℕ) → List Entry → List ScriptLine → ScriptLine → Device
device_before_line s clocks air above l =
    let t = frame_start s l.frame in
    fold (device_after_line (clocks l.node) (setup_of s l.node) t) (before_tick s l.node (clocks l.node) (heard_by air l.node) t) (told_at_tick s above l)

-- a put is lost where the node is off or its stream rejects it
abbrev pub drop_by : ScriptLine → Act → Power → Option DropLine
drop_by l (Put i payload) power = if loses i (state_of_power power) then Some (record { frame = l.frame; node = l.node; stream = i }) else None
drop_by l other power = None

-- what a line loses at a node of this power
abbrev pub drop_of_line : ScriptLine → Power → Option DropLine
drop_of_line l power = drop_by l l.act power

-- what line l at place i of the script loses: its packet, if its node rejects that as the lines above leave it
abbrev pub trail_drop_at : ScenarioParts → (ℕ → ℕ → ℕ) → List Entry → ℕ × ScriptLine → Option DropLine
trail_drop_at s clocks air (i, l) = drop_of_line l (device_before_line s clocks air (take i s.script) l).power

-- what all lines lose, in the order of the text
abbrev pub drops_of : ScenarioParts → (ℕ → ℕ → ℕ) → List Entry → List DropLine
drops_of s clocks air = filter_map (trail_drop_at s clocks air) (enumerate_from 0 s.script)
