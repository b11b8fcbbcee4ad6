-- What is put, sent and delivered, each against the others.
use Rattle.std.specs.Prelude.{◌≡◌, ◌<◌, ◌≤◌, List, true, false, Some, AllPairs, Contains}
use Rattle.scenario_text.specs.ScenarioParts.{ScenarioParts}
use Rattle.bus_rules.specs.declared.delivery.Delivery.{Delivery}
use Rattle.bus_terms.specs.Bus.{bus_deliveries}
use Rattle.bus_terms.specs.Fates.{is_packet, packet_delivered, put_of, queues}
use Rattle.bus_terms.specs.Packets.{bus_sent}
use Rattle.bus_terms.specs.declared.packets.PacketId.{PacketId}
use Rattle.bus_terms.specs.declared.packets.PutLine.{PutLine}
use Rattle.bus_terms.specs.declared.packets.SentPacket.{SentPacket}

-- of two packets of one stream of one boot the one that is sent later has the greater number
abbrev pub InSentOrder : SentPacket → SentPacket → Type 0
InSentOrder a b = a.packet.node ≡ b.packet.node → a.packet.boot ≡ b.packet.boot → a.packet.stream ≡ b.packet.stream → a.packet.seq < b.packet.seq

abbrev pub AreSentInOrder : List SentPacket → Type 0
AreSentInOrder ts = AllPairs InSentOrder ts

abbrev pub AreSentOnce : List SentPacket → Type 0
AreSentOnce ts = AllPairs (λ a b. is_packet a.packet b.packet ≡ false) ts

-- the sending that a delivery is of
abbrev pub sending_of : Delivery → SentPacket
sending_of d = record { frame = d.frame; rank = d.rank; slot = d.slot; packet = packet_delivered d }

abbrev pub AreOfSentPackets : ScenarioParts → Type 0
AreOfSentPackets s = (d : Delivery) → Contains (bus_deliveries s) d → Contains (bus_sent s) (sending_of d)

-- no packet that one line queues the other queues too
abbrev pub QueueOther : PutLine → PutLine → Type 0
QueueOther a b = (x : PacketId) → queues x a.packet ≡ true → queues x b.packet ≡ false

abbrev pub AreQueuedOnce : List PutLine → Type 0
AreQueuedOnce ps = AllPairs QueueOther ps

-- the line that queued it is of the frame of its sending or one before
pub record WasPut (s : ScenarioParts) (t : SentPacket) : Type 0 where
  pub line : PutLine
  pub found : put_of s t.packet ≡ Some line
  pub early : line.frame ≤ t.frame

abbrev pub WerePut : ScenarioParts → Type 0
WerePut s = (t : SentPacket) → Contains (bus_sent s) t → WasPut s t
