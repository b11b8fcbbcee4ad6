use Rattle.std.proofs.Common.{rules}
use Rattle.air_log.specs.FloodLaw.{sending_at}
use Rattle.lwb_flood.proofs.FloodShapes.{begun_stays}
use Rattle.lwb_flood.proofs.flood_world.FloodWorld.begin.Goals as goal

pub invariant_of-self-2 : goal.invariant_of-self-2
invariant_of-self-2 c = begun_stays _ c.args.self.now _ c.self.invariant c.self.view_is (sending_at c.args.node c.args.start c.args.packet) (search rules)
