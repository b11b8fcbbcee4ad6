use Rattle.std.proofs.Common.{◌≡◌, true, IsSome, subst, sym, arith, rules}
use Rattle.glossy_relay.specs.FloodState.{kind_named}
use Rattle.glossy_relay.specs.Relaying.{is_spelling}
use Rattle.glossy_relay.proofs.Packets.{names_a_kind}
use Rattle.glossy_relay.proofs.flood.Flood.initiate.Goals as goal

pub unwrap-requires : goal.unwrap-requires
unwrap-requires c = subst (λ o. IsSome o) (sym c.kind_of.ensures) (names_a_kind c.args.packet.now c.requires.spelled).0

pub invariant_of-result : goal.invariant_of-result
invariant_of-result c =
    let named = (names_a_kind c.args.packet.now c.requires.spelled).1 in
    let kind : c.unwrap.result ≡ kind_named c.args.packet.now = search rules in
    let spelled : is_spelling c.unwrap.result c.copy.result ≡ true = rw (kind, c.copy.ensures) named in
    (omega arith, omega arith, λ waits. omega arith, spelled)
