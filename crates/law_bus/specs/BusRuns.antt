-- A run that is the ideal single-hop bus's.
use Rattle.std.specs.Prelude.{◌≡◌, ℕ, List, true}
use Rattle.lwb_base.specs.Messages.{Plan}
use Rattle.scenario_text.specs.ScenarioParts.{ScenarioParts}
use Rattle.scenario_text.specs.FloodParts.{knows}
use Rattle.bus_rules.specs.declared.part.Part.TheVariants.{Data}
use Rattle.bus_rules.specs.Slots.{part_of}
use Rattle.bus_terms.specs.Bus.{Ordered, bus_cost, bus_deliveries, bus_drops}
use Rattle.air_log.specs.declared.entry.Entry.{Entry}
use Rattle.air_log.specs.Safe.{Safe}
use Rattle.air_log.specs.Deliveries.{deliveries_of}
use Rattle.air_log.specs.Drops.{drops_of}
use Rattle.air_log.specs.Energies.{energy_of}
use Rattle.law_terms.specs.LawfulRuns.{IsLawfulRun}
use Rattle.law_terms.specs.SlotLaws.{IsRound}
use Rattle.law_bus.specs.ReceivedInRuns.{IsReceivedInSlot}
use Rattle.law_bus.specs.RunEnergies.{cost_in}

-- no two steps meet, what is delivered and lost is the bus's, each stream comes in order, data is received by relay paths, and
-- each node's radio costs what it does on the bus
pub record AgreesWithBus (s : ScenarioParts) (clocks : ℕ → ℕ → ℕ) (air : List Entry) : Type 0 where
  pub safe : Safe s clocks air
  pub delivered : deliveries_of s clocks air ≡ bus_deliveries s
  pub lost : drops_of s clocks air ≡ bus_drops s
  pub in_order : Ordered (deliveries_of s clocks air)
  pub received : (rank f j : ℕ) (p : Plan) → IsRound s rank f p → (owner : ℕ) → part_of p j ≡ Data owner
      → IsReceivedInSlot s clocks air rank f p j owner
  pub costs : (v : ℕ) → knows s.nodes v ≡ true → cost_in (energy_of s clocks air v) ≡ bus_cost s v

-- each valid run is
abbrev pub LawfulRunsAreTheBus : Type 0
LawfulRunsAreTheBus = (s : ScenarioParts) (clocks : ℕ → ℕ → ℕ) (air : List Entry) → IsLawfulRun s clocks air → AgreesWithBus s clocks air
