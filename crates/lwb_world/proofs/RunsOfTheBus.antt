-- What the engine leaves is a run: its log is valid, so it is safe and the bus's.
use Rattle.std.proofs.Common.{ℕ, Result, Ok, Err, OnOk, ◌∙◌}
use Rattle.law_bus.proofs.BusRuns.{bus_run}
use Rattle.world_engine.specs.Worlds.{WorldState, HasEngineRun}
use Rattle.lwb_world.specs.Worlds.{HasRun}

pub has_run : (clocks : ℕ → ℕ → ℕ) (old new : WorldState) → HasEngineRun clocks old new → HasRun clocks old new
has_run clocks old new has =
    let made = has.run in
    let bus = bus_run old.scenario clocks new.air (record { sound = made.sound; drift = made.drift; lawful = made.lawful }) in
    record {
      scenario = has.scenario;
      ran = has.ran;
      run = record {
        lawful = made.lawful;
        deliveries = made.deliveries;
        drops = made.drops ∙ bus.lost;
        bus = bus;
        cores = made.cores;
      };
      charges = has.charges;
      idle = has.idle;
      setups = has.setups;
    }

-- where it ended with Ok
pub ok_run : {X E : Type 0} (r : Result X E) (clocks : ℕ → ℕ → ℕ) (old new : WorldState) → OnOk r (HasEngineRun clocks old new) → OnOk r (HasRun clocks old new)
ok_run (Ok x) clocks old new has = has_run clocks old new has
ok_run (Err e) clocks old new has = tt
