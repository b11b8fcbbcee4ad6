use Rattle.std.proofs.Common.{rules}
use Rattle.lwb_flood.proofs.FloodShapes.{gone_stays}
use Rattle.lwb_flood.proofs.flood_world.FloodWorld.leave.Goals as goal

pub invariant_of-self-2 : goal.invariant_of-self-2
invariant_of-self-2 c = gone_stays _ c.args.self.now _ c.self.invariant c.self.view_is c.args.node c.args.t (search rules)
