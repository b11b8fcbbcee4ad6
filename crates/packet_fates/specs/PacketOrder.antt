-- The order of packets: by node, boot, stream and number.
use Rattle.std.specs.declared.cmp.Ordering.{Ordering}
use Rattle.std.specs.Ordering.{nat_cmp, ordering_then}
use Rattle.bus_terms.specs.declared.packets.PacketId.{PacketId}

abbrev pub packet_cmp : PacketId → PacketId → Ordering
packet_cmp x y = ordering_then (nat_cmp x.node y.node) (ordering_then (nat_cmp x.boot y.boot) (ordering_then (nat_cmp x.stream y.stream) (nat_cmp x.seq y.seq)))
