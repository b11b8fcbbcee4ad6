-- What is known of packets, by packet.
use Rattle.std.specs.Prelude.{◌≡◌, ◌&&◌, ℕ, List, Bool, Some, None, count_by, filter, find, length}
use Rattle.std.specs.declared.option.Option.{Option}
use Rattle.std.specs.BTreeMap.{get}
use Rattle.std.specs.List.{list_any}
use Rattle.std.specs.Map.{count_at}
use Rattle.bus_rules.specs.declared.delivery.Delivery.{Delivery}
use Rattle.bus_terms.specs.Fates.{fate_by, is_at_host, is_packet, packet_delivered}
use Rattle.bus_terms.specs.declared.packets.Fate.{Fate}
use Rattle.bus_terms.specs.declared.packets.Fate.TheVariants.{Dropped}
use Rattle.bus_terms.specs.declared.packets.PacketId.{PacketId}
use Rattle.bus_terms.specs.declared.packets.PutFate.{PutFate}
use Rattle.bus_terms.specs.declared.packets.PutLine.{PutLine}
use Rattle.bus_terms.specs.declared.packets.SentPacket.{SentPacket}
use Rattle.packet_fates.specs.PacketOrder.{packet_cmp}
use Rattle.packet_fates.specs.declared.put_fates.Packets.{Packets}

-- a delivery of the packet at the host of its round
abbrev pub is_received : List ℕ → PacketId → Delivery → Bool
is_received hosts x d = is_at_host hosts d && is_packet x (packet_delivered d)

pub record AreTablesOf (hosts : List ℕ) (sent : List SentPacket) (deliveries : List Delivery) (p : Packets) : Type 0 where
  pub sent_first : (x : PacketId) → get packet_cmp p.sendings x ≡ find (λ t. is_packet x t.packet) sent
  pub counted : (x : PacketId) → count_at (get packet_cmp p.receivers) x ≡ count_by (λ d. is_packet x (packet_delivered d)) deliveries
  pub counted_at_hosts : (x : PacketId) → count_at (get packet_cmp p.at_hosts) x ≡ count_by (is_received hosts x) deliveries

-- what became of a packet by these lists, where its queue is emptied next in that frame
abbrev pub fate_in : List ℕ → List SentPacket → List Delivery → Option PacketId → Option ℕ → Fate
fate_in hosts sent deliveries None cleared = Dropped
fate_in hosts sent deliveries (Some x) cleared =
    fate_by (find (λ t. is_packet x t.packet) sent) cleared (length (filter (λ d. is_packet x (packet_delivered d)) deliveries))
    (list_any (is_at_host hosts) (filter (λ d. is_packet x (packet_delivered d)) deliveries))

abbrev pub put_fate_in : List ℕ → List SentPacket → List Delivery → PutLine × Option ℕ → PutFate
put_fate_in hosts sent deliveries (put, cleared) = record { put = put; fate = fate_in hosts sent deliveries put.packet cleared }
