-- What a node goes by in a valid run, at the start of a frame, and what the run delivers.
use Rattle.std.specs.Prelude.{◌≡◌, ◌≢◌, ◌<◌, ◌↔◌, ℕ, List, true, Contains}
use Rattle.lwb_base.specs.Messages.{Plan}
use Rattle.scenario_text.specs.FloodParts.{knows}
use Rattle.scenario_text.specs.ScenarioParts.{ScenarioParts}
use Rattle.bus_rules.specs.declared.tune.Tune.{Tune}
use Rattle.bus_rules.specs.Cores.{Core}
use Rattle.bus_rules.specs.States.{State, StateOn}
use Rattle.air_log.specs.declared.entry.Entry.{Entry}
use Rattle.air_log.specs.Deliveries.{deliveries_of}
use Rattle.air_log.specs.Devices.{state_of_power}
use Rattle.air_log.specs.Lawful.{heard_by}
use Rattle.air_log.specs.Trails.{at_frame}
use Rattle.bus_terms.specs.Bus.{state_at}
use Rattle.bus_terms.specs.Flooding.{has}
use Rattle.law_terms.specs.LawfulRuns.{IsLawfulRun}
use Rattle.law_times.specs.Queues.{IsDelivered, StreamPacket, delivery_to}
use Rattle.law_times.specs.Reaches.{IsReached}
use Rattle.law_times.specs.Tunes.{IsTuned}

-- the node v after the script lines of frame f, in a run over these clocks with this log
abbrev pub state_in_run : ScenarioParts → (ℕ → ℕ → ℕ) → List Entry → ℕ → ℕ → State
state_in_run s clocks air f v = state_of_power (at_frame s v (clocks v) (heard_by air v) f).power

-- it is on, with this tune and this plan
pub record IsTunedInRun (s : ScenarioParts) (clocks : ℕ → ℕ → ℕ) (air : List Entry) (f v : ℕ) (t : Tune) (p : Plan) : Type 0 where
  pub core : Core
  pub on : state_in_run s clocks air f v ≡ StateOn core
  pub tune : core.tune ≡ t
  pub plan : core.plan ≡ p

-- in each valid run a node goes by a tune and a plan exactly where it does so on the bus
abbrev pub RunsGoAsTheBus : Type 0
RunsGoAsTheBus =
    (s : ScenarioParts) (clocks : ℕ → ℕ → ℕ) (air : List Entry) → IsLawfulRun s clocks air
    → (f v : ℕ) → knows s.nodes v ≡ true → f < s.frames → (t : Tune) (p : Plan) → IsTuned s f v t p ↔ IsTunedInRun s clocks air f v t p

-- its queues and its table are the bus's, too: all of its state is
abbrev pub StatesAreTheBus : Type 0
StatesAreTheBus =
    (s : ScenarioParts) (clocks : ℕ → ℕ → ℕ) (air : List Entry) → IsLawfulRun s clocks air
    → (f v : ℕ) → knows s.nodes v ≡ true → f < s.frames → state_in_run s clocks air f v ≡ state_at s f v

-- in one slot of the round of this rank and frame each of the other nodes that a walk along them reaches delivers the packet, in the run
pub record IsDeliveredInRun (s : ScenarioParts) (clocks : ℕ → ℕ → ℕ) (air : List Entry) (rank f : ℕ) (among : List ℕ) (w : StreamPacket) : Type 0 where
  pub slot : ℕ
  pub all : (v : ℕ) → has among v ≡ true → v ≢ w.node → IsReached s among w.node v
      → Contains (deliveries_of s clocks air) (delivery_to w rank f slot v)

-- and a packet is delivered in each valid run exactly where it is on the bus
abbrev pub PacketsGoAsTheBus : Type 0
PacketsGoAsTheBus =
    (s : ScenarioParts) (clocks : ℕ → ℕ → ℕ) (air : List Entry) → IsLawfulRun s clocks air
    → (rank f : ℕ) (among : List ℕ) (w : StreamPacket) → IsDelivered s rank f among w ↔ IsDeliveredInRun s clocks air rank f among w
