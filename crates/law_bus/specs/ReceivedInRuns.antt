-- Who delivers in a data slot of a run, and when: whom relay paths of its flood reach, in the step of the shortest.
use Rattle.std.specs.Prelude.{◌≡◌, ◌≢◌, ◌↔◌, ℕ, suc, List, true, is_some, Contains}
use Rattle.lwb_base.specs.Messages.{Plan, node_of}
use Rattle.scenario_text.specs.ScenarioParts.{ScenarioParts}
use Rattle.scenario_text.specs.FloodParts.{knows}
use Rattle.bus_rules.specs.declared.delivery.Delivery.{Delivery}
use Rattle.bus_rules.specs.Slots.{Data, DataOf, delivery_of}
use Rattle.bus_terms.specs.RelayPaths.{IsLeast}
use Rattle.air_log.specs.declared.entry.Entry.{Entry}
use Rattle.air_log.specs.Deliveries.{deliveries_of}
use Rattle.bus_terms.specs.HostedRounds.{slot_in}
use Rattle.law_terms.specs.SlotLaws.{IsAcceptance}

-- v delivers a packet in this slot, and its window there had accepted that first with this counter
pub record DeliversIn (s : ScenarioParts) (clocks : ℕ → ℕ → ℕ) (air : List Entry) (rank f j v step : ℕ) : Type 0 where
  pub packet : Data
  pub delivered : Contains (deliveries_of s clocks air) (delivery_of v f rank j packet)
  pub accepted : IsAcceptance s clocks air rank f j v step (DataOf packet)

-- v is a member of the round in slot j: a node with a window there
pub record IsMemberIn (s : ScenarioParts) (rank f : ℕ) (p : Plan) (j v : ℕ) : Type 0 where
  pub known : knows s.nodes v ≡ true
  pub opens : is_some ((slot_in s rank f p j).window v) ≡ true

-- in slot j of a round, which this owner's stream has: a member other than the owner's node delivers, in the step before the least
-- length of a relay path that leads to it from there, if and only if there is one; and nobody else delivers
pub record IsReceivedInSlot (s : ScenarioParts) (clocks : ℕ → ℕ → ℕ) (air : List Entry) (rank f : ℕ) (p : Plan) (j owner : ℕ) : Type 0 where
  pub by_paths : (v step : ℕ) → IsMemberIn s rank f p j v → v ≢ node_of owner
      → (DeliversIn s clocks air rank f j v step ↔ IsLeast (slot_in s rank f p j).flood (node_of owner) (suc step) v)
  pub nobody_else : (d : Delivery) → Contains (deliveries_of s clocks air) d → d.frame ≡ f → d.rank ≡ rank → d.slot ≡ j
      → IsMemberIn s rank f p j d.node × (d.node ≢ node_of owner) × ((step : ℕ) × DeliversIn s clocks air rank f j d.node step)
