-- All nodes of a bus as the code has them, and what a slot costs each.
use Rattle.std.specs.Prelude.{◌≡◌, ℕ, ◌+◌, List, All, length}
use Rattle.lwb_base.specs.Messages.{Plan}
use Rattle.scenario_text.specs.ScenarioParts.{ScenarioParts}
use Rattle.bus_rules.specs.declared.delivery.Delivery.{Delivery}
use Rattle.bus_rules.specs.States.{State, StateOff}
use Rattle.bus_terms.specs.Bus.{Cost}
use Rattle.bus_terms.specs.Costs.{slot_sent, slot_window}
use Rattle.bus_terms.specs.FloodOfText.{ids as ids_of}
use Rattle.bus_terms.specs.Rounds.{slot_at}
use Rattle.bus_terms.specs.declared.packets.SentPacket.{SentPacket}
use Rattle.plain_bus.specs.BusNodes.{BusNode, bus_node, IsEarlyState}
use Rattle.plain_bus.specs.SlotCosts.{IsBelow}
use Rattle.plain_bus.specs.declared.station.Flood.{Flood}

-- the nodes, what each cost, what was sent and delivered so far, and the floods of the frame
pub record Network : Type 0 where
  pub ids : List ℕ
  pub nodes : List BusNode
  pub costs : List Cost
  pub deliveries : List Delivery
  pub sent : List SentPacket
  pub floods : List Flood

-- what a node cost before it did anything
abbrev pub no_cost : Cost
no_cost = record { sent = 0; windows = 0; scanned = 0 }

-- a node before it did anything
abbrev pub node_at_first : ScenarioParts → ℕ → BusNode
node_at_first s = bus_node s (λ (v : ℕ). 0) (λ (v : ℕ). StateOff 0)

-- it has the nodes of the scenario, none of which accepted a stream after this frame, and no more than this many slots cost
pub record IsReady (s : ScenarioParts) (frame slots : ℕ) (n : Network) : Type 0 where
  pub ids_are : n.ids ≡ ids_of s.nodes
  pub nodes_each : length n.nodes ≡ length s.nodes
  pub costs_each : length n.costs ≡ length s.nodes
  pub early : All (λ x. IsEarlyState frame x.state) n.nodes
  pub room : All (IsBelow slots) n.costs

-- the cost of node v after slot j of a round in which it may take part
abbrev pub with_slot_at : ScenarioParts → ℕ → ℕ → Plan → (ℕ → State) → ℕ → ℕ → Cost → Cost
with_slot_at s rank f p states j v c =
    let x = slot_at s rank f p states j in
    record c { sent = c.sent + slot_sent s.profile x v; windows = c.windows + slot_window s.profile x v }
