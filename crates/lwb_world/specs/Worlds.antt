-- A run of a world as its callers see it.
use Rattle.std.specs.Prelude.{◌≡◌, ℕ, map, true}
use Rattle.air_log.specs.NodeCharges.{charges_in}
use Rattle.air_log.specs.Idling.{all_idle}
use Rattle.world_engine.specs.Running.{setup_by}
use Rattle.world_engine.specs.Worlds.{WorldState, core_of, core_setup}
use Rattle.lwb_world.specs.Runs.{IsRun}

-- what a run has left, over these clocks
pub record HasRun (clocks : ℕ → ℕ → ℕ) (old new : WorldState) : Type 0 where
  pub scenario : new.scenario ≡ old.scenario
  pub ran : new.ran ≡ true
  pub run : IsRun old.scenario clocks new.air new.deliveries new.drops (core_of new.cores)
  pub charges : new.charges ≡ charges_in old.scenario clocks new.air
  pub idle : new.idle ≡ all_idle old.scenario clocks new.air
  -- each node of the scenario has a core that is set up for it, and there is no other
  pub setups : map core_setup new.cores ≡ map (setup_by old.scenario) old.scenario.nodes

-- a run that ended has left it so
abbrev pub IsLeftByRun : WorldState → Type 0
IsLeftByRun w = (clocks : ℕ → ℕ → ℕ) × (old : WorldState) × HasRun clocks old w
