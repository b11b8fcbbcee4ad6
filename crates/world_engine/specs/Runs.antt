-- What a run leaves.
use Rattle.std.specs.Prelude.{◌≡◌, ℕ, List, map, true, Some, None}
use Rattle.std.specs.declared.option.Option.{Option}
use Rattle.std.specs.Option.{option_map}
use Rattle.tick_clock.specs.Clocks.{IsClock}
use Rattle.scenario_text.specs.ScenarioParts.{ScenarioParts}
use Rattle.scenario_text.specs.ScenarioFacts.{IsSoundScenario}
use Rattle.scenario_text.specs.FloodParts.{knows}
use Rattle.scenario_text.specs.declared.lines.NodeLine.{NodeLine}
use Rattle.event_calendar.specs.Orders.{Due}
use Rattle.bus_rules.specs.declared.delivery.Delivery.{Delivery}
use Rattle.bus_rules.specs.declared.delivery.DropLine.{DropLine}
use Rattle.node_core.specs.Nodes.{NodeState}
use Rattle.air_log.specs.declared.entry.Entry.{Entry}
use Rattle.air_log.specs.Devices.{Device, Power, PowerOff, PowerOn}
use Rattle.air_log.specs.Lawful.{Lawful, trail_in}
use Rattle.air_log.specs.Deliveries.{deliveries_of}
use Rattle.air_log.specs.Drops.{drops_of}
use Rattle.air_log.specs.DeviceStates.{tick_of_ordered, sending_end}

-- the core of each node of the scenario that is on at the end is in the state in which its trail leaves it
abbrev pub IsCoreOf : Option NodeState → Power → Type 0
IsCoreOf core (PowerOff boots) = Unit {0}
IsCoreOf None (PowerOn n) = ⊥
IsCoreOf (Some core) (PowerOn n) = core.node ≡ n

-- what is at a node at the end: the end of its transmission that runs, its alarm, and its ordered transmission that has not begun
abbrev pub standing : Device → Due
standing d = record { sending_end = option_map sending_end d.sending; alarm = d.alarm; sending_start = option_map tick_of_ordered d.ordered }

abbrev pub standing_at : ScenarioParts → (ℕ → ℕ → ℕ) → List Entry → NodeLine → Due
standing_at s clocks air n = standing (trail_in s clocks air n.node)

-- at the places of the nodes
abbrev pub orders_left : ScenarioParts → (ℕ → ℕ → ℕ) → List Entry → List Due
orders_left s clocks air = map (standing_at s clocks air) s.nodes

-- a sound scenario over clocks of the drift law, a valid log, the deliveries and drops of its trails, and the cores where the
-- trails leave them
pub record IsEngineRun (s : ScenarioParts) (clocks : ℕ → ℕ → ℕ) (air : List Entry) (made : List Delivery) (lost : List DropLine)
    (core : ℕ → Option NodeState) : Type 0 where
  pub sound : IsSoundScenario s
  pub drift : (v : ℕ) → knows s.nodes v ≡ true → IsClock (clocks v)
  pub lawful : Lawful s clocks air
  pub deliveries : made ≡ deliveries_of s clocks air
  pub drops : lost ≡ drops_of s clocks air
  pub cores : (v : ℕ) → knows s.nodes v ≡ true → IsCoreOf (core v) (trail_in s clocks air v).power
