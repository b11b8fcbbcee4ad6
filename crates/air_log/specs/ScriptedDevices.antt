-- What script lines do to a node with its radio.
use Rattle.std.specs.Prelude.{ℕ, ◌+◌, None}
use Rattle.lwb_base.specs.declared.event.Event.TheVariants.{Boot}
use Rattle.bus_rules.specs.declared.act.Act.{Act}
use Rattle.bus_rules.specs.declared.act.Act.TheVariants.{On, Off}
use Rattle.scenario_text.specs.declared.script.ScriptLine.{ScriptLine}
use Rattle.bus_rules.specs.Cores.{Core, Setup}
use Rattle.bus_rules.specs.States.{core_after_act}
use Rattle.node_core.specs.Nodes.{Node, rebooted}
use Rattle.air_log.specs.Devices.{Device, Power, PowerOff, PowerOn, event, silenced}

-- power comes on: the next boot
abbrev pub device_after_on : (ℕ → ℕ) → Setup → ℕ → ℕ → Device → Device
device_after_on clock s t boots d = event clock s t Boot None (record d { power = PowerOn (rebooted (boots + 1)) })

-- power goes off, and with it the tuning, the alarm and what is ordered. A transmission that runs goes on
abbrev pub device_after_off : ℕ → ℕ → Node → Device → Device
device_after_off node t n d = record (silenced node t d) { power = PowerOff n.core.boot; alarm = None; ordered = None }

abbrev pub with_new_core : Device → Node → Core → Device
with_new_core d n core = record d { power = PowerOn (record n { core = core }) }

-- what is done at tick t. An act for a stream changes the core of a node that is on, and nothing else
abbrev pub device_after_act : (ℕ → ℕ) → Setup → ℕ → Device → Act → Power → Device
device_after_act clock s t d On (PowerOff boots) = device_after_on clock s t boots d
device_after_act clock s t d On (PowerOn n) = d
device_after_act clock s t d Off (PowerOff boots) = d
device_after_act clock s t d Off (PowerOn n) = device_after_off s.id t n d
device_after_act clock s t d other (PowerOff boots) = d
device_after_act clock s t d other (PowerOn n) = with_new_core d n (core_after_act other n.core)

-- what a line of the node says, at tick t
abbrev pub device_after_line : (ℕ → ℕ) → Setup → ℕ → Device → ScriptLine → Device
device_after_line clock s t d l = device_after_act clock s t d l.act d.power
