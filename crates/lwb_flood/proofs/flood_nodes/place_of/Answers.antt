use Rattle.std.proofs.Common.{arith}
use Rattle.lwb_flood.proofs.MemberPlaces.{somewhere}
use Rattle.lwb_flood.proofs.flood_nodes.place_of.Goals as goal

pub unreachable-requires : goal.unreachable-requires
unreachable-requires c = somewhere c.args.members.now c.args.node c.requires (λ k d below. c.loop-i.invariant k d (omega arith))
