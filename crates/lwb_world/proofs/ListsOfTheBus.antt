-- What a run has delivered and lost is the bus's.
use Rattle.std.proofs.Common.{◌≡◌, ap, ◌∙◌, sym}
use Rattle.scenario_text.specs.ScenarioParts.{ScenarioParts}
use Rattle.bus_terms.specs.Bus.{bus_deliveries, bus_drops}
use Rattle.world_engine.specs.Worlds.{WorldState}
use Rattle.lwb_world.specs.Worlds.{IsLeftByRun}

pub delivered : (w : WorldState) → IsLeftByRun w → w.deliveries ≡ bus_deliveries w.scenario
delivered w (clocks, old, has) = has.run.deliveries ∙ has.run.bus.delivered ∙ ap (λ (s : ScenarioParts). bus_deliveries s) (sym has.scenario)

pub dropped : (w : WorldState) → IsLeftByRun w → w.drops ≡ bus_drops w.scenario
dropped w (clocks, old, has) = has.run.drops ∙ ap (λ (s : ScenarioParts). bus_drops s) (sym has.scenario)
