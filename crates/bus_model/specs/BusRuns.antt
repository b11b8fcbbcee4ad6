-- The run of a scenario on the bus.
use Rattle.std.specs.Prelude.{◌≡◌, ◌<◌, ℕ, List, Some, length, map, slice_get, slice_index}
use Rattle.scenario_text.specs.ScenarioParts.{ScenarioParts}
use Rattle.bus_rules.specs.declared.delivery.Delivery.{Delivery}
use Rattle.bus_rules.specs.declared.delivery.DropLine.{DropLine}
use Rattle.bus_terms.specs.Bus.{Cost, bus_cost, bus_deliveries, bus_drops}
use Rattle.bus_terms.specs.FloodOfText.{ids as ids_of}
use Rattle.bus_terms.specs.Packets.{bus_puts, bus_sent}
use Rattle.bus_terms.specs.declared.packets.PutLine.{PutLine}
use Rattle.bus_terms.specs.declared.packets.SentPacket.{SentPacket}

-- the nodes, what each cost, what was delivered, what was lost, what was put, and what was sent
pub record BusRun : Type 0 where
  pub ids : List ℕ
  pub costs : List Cost
  pub deliveries : List Delivery
  pub drops : List DropLine
  pub puts : List PutLine
  pub sent : List SentPacket

-- all of it is the bus's
pub record IsBusRun (s : ScenarioParts) (b : BusRun) : Type 0 where
  pub nodes : b.ids ≡ ids_of s.nodes
  pub each_cost : b.costs ≡ map (bus_cost s) (ids_of s.nodes)
  pub delivered : b.deliveries ≡ bus_deliveries s
  pub lost : b.drops ≡ bus_drops s
  pub put : b.puts ≡ bus_puts s
  pub sent : b.sent ≡ bus_sent s

-- what the run has counted for a node: its cost is at the place of its id
pub record IsCounted (b : BusRun) (v : ℕ) (cost : Cost) : Type 0 where
  pub place : ℕ
  pub below : place < length b.ids
  pub here : slice_index b.ids place ≡ v
  pub is : slice_get b.costs place ≡ Some cost
