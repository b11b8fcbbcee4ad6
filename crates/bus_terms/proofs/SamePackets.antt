-- Two packets are the same if their four numbers are.
use Rattle.std.proofs.Common.{◌≡◌, ◌==◌, ◌&&◌, true, refl}
use Rattle.std.proofs.lemmas.Bool.{and_from, and_parts, eqb-true, eq-eqb}
use Rattle.bus_terms.specs.Fates.{is_packet}
use Rattle.bus_terms.specs.declared.packets.PacketId.{PacketId}

pub same_packet : (x y : PacketId) → is_packet x y ≡ true → x ≡ y
same_packet x y is =
    let c = and_parts ((x.node == y.node) && (x.boot == y.boot) && (x.stream == y.stream)) (x.seq == y.seq) is in
    let b = and_parts ((x.node == y.node) && (x.boot == y.boot)) (x.stream == y.stream) c.0 in
    let a = and_parts (x.node == y.node) (x.boot == y.boot) b.0 in
    let node = eqb-true x.node y.node a.0 in
    let boot = eqb-true x.boot y.boot a.1 in
    let stream = eqb-true x.stream y.stream b.1 in
    let seq = eqb-true x.seq y.seq c.1 in
    λ i. record { node = node i; boot = boot i; stream = stream i; seq = seq i }

pub packet_itself : (x : PacketId) → is_packet x x ≡ true
packet_itself x =
    and_from _ _ (and_from _ _ (and_from _ _ (eq-eqb x.node x.node refl) (eq-eqb x.boot x.boot refl)) (eq-eqb x.stream x.stream refl))
    (eq-eqb x.seq x.seq refl)
