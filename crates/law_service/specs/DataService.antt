-- What a data slot without losses delivers.
use Rattle.std.specs.Prelude.{◌≡◌, ℕ, suc, Some}
use Rattle.lwb_base.specs.Messages.{Plan, node_of, stream_of}
use Rattle.scenario_text.specs.ScenarioParts.{ScenarioParts}
use Rattle.scenario_text.specs.OverLines.{IsOverScenario}
use Rattle.bus_rules.specs.declared.delivery.Delivery.{Delivery}
use Rattle.bus_rules.specs.declared.part.Part.TheVariants.{Data as DataSlot}
use Rattle.bus_rules.specs.Cores.{Core}
use Rattle.bus_rules.specs.Slots.{part_of}
use Rattle.bus_rules.specs.States.{State, StateOn}
use Rattle.bus_rules.specs.Streams.{WaitingPacket, first_waiting}
use Rattle.bus_terms.specs.Flooding.{Accepts}
use Rattle.bus_terms.specs.Rounds.{slot_at, before_slot, delivery_in_slot}
use Rattle.law_service.specs.Reach.{TakesPart, LosesNothing, IsWithin}

-- slot j is one of data; the node of its owner is a member of the round, and w is the packet that waits longest in this stream
pub record HasData (s : ScenarioParts) (rank f : ℕ) (p : Plan) (states : ℕ → State) (j owner : ℕ) (c : Core) (w : WaitingPacket) : Type 0 where
  pub slot : part_of p j ≡ DataSlot owner
  pub on : before_slot s rank f p states j (node_of owner) ≡ StateOn c
  pub member : TakesPart (slot_at s rank f p states j) (node_of owner)
  pub waits : first_waiting c.streams (stream_of owner) ≡ Some w

-- v delivers that packet
abbrev pub delivery : ℕ → ℕ → ℕ → ℕ → Core → WaitingPacket → ℕ → Delivery
delivery rank f j owner c w v = record {
  frame = f;
  rank = rank;
  slot = j;
  node = v;
  from = node_of owner;
  boot = c.boot;
  stream = stream_of owner;
  seq = w.seq;
  payload = w.payload;
}

-- each other member within reach delivers it, in the step before the number of its hops
abbrev pub DataIsDelivered : Type 0
DataIsDelivered =
    (s : ScenarioParts) → IsOverScenario s → (rank f : ℕ) (p : Plan) (states : ℕ → State) (j owner : ℕ) (c : Core) (w : WaitingPacket)
    → HasData s rank f p states j owner c w → LosesNothing s (slot_at s rank f p states j)
    → (k v : ℕ) → IsWithin s (slot_at s rank f p states j) (node_of owner) (suc k) v
    → (delivery_in_slot s rank f p states j v ≡ Some (delivery rank f j owner c w v)) × Accepts (slot_at s rank f p states j).flood v (node_of owner) k
