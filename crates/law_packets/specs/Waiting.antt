-- What waits in the queues of nodes when a run is over.
use Rattle.std.specs.Prelude.{◌≡◌, ◌↔◌, Some, Contains}
use Rattle.scenario_text.specs.ScenarioParts.{ScenarioParts}
use Rattle.bus_rules.specs.Cores.{Core}
use Rattle.bus_rules.specs.States.{State, StateOn}
use Rattle.bus_rules.specs.Streams.{WaitingPacket, stream_at}
use Rattle.bus_terms.specs.Bus.{before_frame}
use Rattle.bus_terms.specs.Fates.{bus_fates}
use Rattle.bus_terms.specs.declared.packets.Fate.TheVariants.{Waiting}
use Rattle.bus_terms.specs.declared.packets.PacketId.{PacketId}
use Rattle.bus_terms.specs.declared.packets.PutFate.{PutFate}
use Rattle.bus_terms.specs.declared.packets.PutLine.{PutLine}

-- a node in this state is on, in the packet's boot, and has the packet in the queue of its stream
pub record HasQueued (x : State) (y : PacketId) : Type 0 where
  pub core : Core
  pub on : x ≡ StateOn core
  pub boot : core.boot ≡ y.boot
  pub waiting : WaitingPacket
  pub number : waiting.seq ≡ y.seq
  pub there : Contains (stream_at core.streams y.stream).queue waiting

-- the line put a packet that its node has queued after the last frame
pub record IsQueuedAtEnd (s : ScenarioParts) (p : PutLine) : Type 0 where
  pub packet : PacketId
  pub put : p.packet ≡ Some packet
  pub queued : HasQueued (before_frame s s.frames p.node) packet

-- what a put line put is said to wait if and only if it is so
abbrev pub WaitInQueues : ScenarioParts → Type 0
WaitInQueues s = (x : PutFate) → Contains (bus_fates s) x → (x.fate ≡ Waiting) ↔ IsQueuedAtEnd s x.put
