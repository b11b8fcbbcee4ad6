-- A flood on the air at a step of the flood by steps.
use Rattle.std.proofs.Common.{◌≡◌, ℕ, ◌<◌, ◌≤◌, List, ◌++◌, Some}
use Rattle.std.specs.Prelude.{Contains}
use Rattle.bus_terms.specs.Flooding.{Moment}
use Rattle.radio_model.specs.declared.sending.Sending.{Sending}
use Rattle.air_log.specs.NodeEvents.{Event, sending_of_event, flood_after_events}
use Rattle.lwb_flood.specs.FloodRun.{counter, Run, initiates, IsParticipant, packet, flood_at_beginning}
use Rattle.lwb_flood.proofs.Stations.{station}

-- a transmission of this node, step and origin
pub record SentIn (r : Run) (k v o : ℕ) : Type 0 where
  pub sending : Sending
  pub sent : Contains r.sendings sending
  pub node : sending.node ≡ v
  pub packet : sending.packet ≡ packet r o k
  pub initiator : initiates r o

-- a node's events before step k and from it on
pub record Turn (r : Run) (k v : ℕ) (m : Moment) : Type 0 where
  pub before : List Event
  pub rest : List Event
  pub whole : r.events v ≡ before ++ rest
  pub earlier : (e : Event) → Contains before e → counter (sending_of_event e) < k
  pub later : (e : Event) → Contains rest e → k ≤ counter (sending_of_event e)
  pub state : flood_after_events (flood_at_beginning r v) before ≡ station r m v

-- the flood on the air is at step k as the flood by steps at this moment
pub record IsAt (r : Run) (k : ℕ) (m : Moment) : Type 0 where
  pub sends : (x : Sending) (o : ℕ) → Contains r.sendings x → initiates r o → x.packet ≡ packet r o k → m.sends x.node ≡ Some o
  pub sent : (v o : ℕ) → m.sends v ≡ Some o → SentIn r k v o
  pub once : (x y : Sending) → Contains r.sendings x → Contains r.sendings y → counter x ≡ k → counter y ≡ k → x.node ≡ y.node → x ≡ y
  pub heard : (v : ℕ) (h : ℕ × ℕ) → m.heard v ≡ Some h → initiates r h.0 × (initiates r v → h.0 ≡ v)
  pub turns : (v : ℕ) → IsParticipant r v → Turn r k v m
