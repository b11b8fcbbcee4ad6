-- The order of packets is total, and tells all packets apart.
use Rattle.std.proofs.Common.{◌≡◌, ◌==◌, refl, ◌∙◌, ap}
use Rattle.std.specs.Cmp.{both_tied, unsigned_ties}
use Rattle.std.specs.Ordering.{is_eq, nat_cmp, ordering_then}
use Rattle.std.specs.declared.cmp.Ordering.{Ordering}
use Rattle.std.specs.declared.cmp.Ordering.TheVariants.{Less, Equal, Greater}
use Rattle.bus_terms.specs.Fates.{is_packet}
use Rattle.bus_terms.specs.declared.packets.PacketId.{PacketId}
use Rattle.packet_fates.specs.PacketOrder.{packet_cmp}

-- `&&` nests to the left and the order to the right
pub then_nested : (a b c : Ordering) → ordering_then (ordering_then a b) c ≡ ordering_then a (ordering_then b c)
then_nested Less b c = refl
then_nested Equal b c = refl
then_nested Greater b c = refl

pub packet_tied : (x y : PacketId) → is_packet x y ≡ is_eq (packet_cmp x y)
packet_tied x y =
    let node = nat_cmp x.node y.node in
    let boot = nat_cmp x.boot y.boot in
    let stream = nat_cmp x.stream y.stream in
    let seq = nat_cmp x.seq y.seq in
    both_tied _ (x.seq == y.seq) (ordering_then (ordering_then node boot) stream) seq
    (both_tied _ (x.stream == y.stream) (ordering_then node boot) stream
    (both_tied (x.node == y.node) (x.boot == y.boot) node boot (unsigned_ties x.node y.node) (unsigned_ties x.boot y.boot))
    (unsigned_ties x.stream y.stream))
    (unsigned_ties x.seq y.seq)
    ∙ ap is_eq (then_nested (ordering_then node boot) stream seq ∙ then_nested node boot (ordering_then stream seq))
