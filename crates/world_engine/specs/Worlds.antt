-- A world as its callers see it.
use Rattle.std.specs.Prelude.{◌≡◌, ℕ, List, [], ◌∷◌, Bool, ◌==◌, if◌then◌else◌, Some, None, map, false, true}
use Rattle.std.specs.declared.option.Option.{Option}
use Rattle.scenario_text.specs.ScenarioParts.{ScenarioParts}
use Rattle.scenario_text.specs.declared.lines.NodeLine.{NodeLine}
use Rattle.bus_rules.specs.declared.delivery.Delivery.{Delivery}
use Rattle.bus_rules.specs.declared.delivery.DropLine.{DropLine}
use Rattle.bus_rules.specs.Cores.{Setup}
use Rattle.node_core.specs.Nodes.{NodeState, rebooted}
use Rattle.air_log.specs.declared.entry.Entry.{Entry}
use Rattle.air_log.specs.declared.charge.NodeCharge.{NodeCharge}
use Rattle.air_log.specs.NodeCharges.{charges_in}
use Rattle.scenario_text.specs.Setups.{setup_of}
use Rattle.air_log.specs.Idling.{all_idle}
use Rattle.world_engine.specs.Running.{setup_by}
use Rattle.world_engine.specs.Runs.{IsEngineRun}
use Rattle.air_log.specs.declared.idle.Idle.{Idle}

-- ran: the run was begun; charges and cores: those of the nodes by ascending ids; idle: by frame and then node
pub record WorldState : Type 0 where
  pub scenario : ScenarioParts
  pub ran : Bool
  pub air : List Entry
  pub deliveries : List Delivery
  pub drops : List DropLine
  pub charges : List NodeCharge
  pub idle : List Idle
  pub cores : List NodeState

-- the core of a node, if it is one of the scenario
abbrev pub core_of : List NodeState → ℕ → Option NodeState
core_of [] v = None
core_of (c ∷ cs) v = if c.setup.id == v then Some c else core_of cs v

abbrev pub core_setup : NodeState → Setup
core_setup c = c.setup

-- a core as it is made
abbrev pub new_core : ScenarioParts → NodeLine → NodeState
new_core s n = record { setup = setup_of s n.node; node = rebooted 1; delivery = None }

-- nothing has happened yet
abbrev pub new_world : ScenarioParts → WorldState
new_world s = record { scenario = s; ran = false; air = []; deliveries = []; drops = []; charges = []; idle = []; cores = map (new_core s) s.nodes }

-- what a run has left, over these clocks
pub record HasEngineRun (clocks : ℕ → ℕ → ℕ) (old new : WorldState) : Type 0 where
  pub scenario : new.scenario ≡ old.scenario
  pub ran : new.ran ≡ true
  pub run : IsEngineRun old.scenario clocks new.air new.deliveries new.drops (core_of new.cores)
  pub charges : new.charges ≡ charges_in old.scenario clocks new.air
  pub idle : new.idle ≡ all_idle old.scenario clocks new.air
  -- each node of the scenario has a core that is set up for it, and there is no other
  pub setups : map core_setup new.cores ≡ map (setup_by old.scenario) old.scenario.nodes
