use Rattle.std.proofs.Common.{◌≡◌, ℕ, List, map, take, zip}
use Rattle.bus_rules.specs.declared.delivery.Delivery.{Delivery}
use Rattle.bus_terms.specs.declared.packets.SentPacket.{SentPacket}
use Rattle.packet_fates.specs.Tables.{AreTablesOf, put_fate_in}
use Rattle.packet_fates.proofs.put_fates.Packets.fates.Given as goal

abbrev pub invariant-loop-i : goal.invariant-loop-i
invariant-loop-i l = (hosts : List ℕ) (sent : List SentPacket) (deliveries : List Delivery) → AreTablesOf hosts sent deliveries l.self → l.fates.items
    ≡ map (put_fate_in hosts sent deliveries) (take l.i (zip l.puts l.cleared))
