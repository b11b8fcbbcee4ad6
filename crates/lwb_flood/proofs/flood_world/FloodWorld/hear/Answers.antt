use Rattle.lwb_flood.proofs.FloodShapes.{hearing_shape}
use Rattle.lwb_flood.proofs.flood_world.FloodWorld.hear.Goals as goal

pub invariant_of-self-2 : goal.invariant_of-self-2
invariant_of-self-2 g c = hearing_shape _ c.self.invariant
    (g.C.DriftClock.readings c.args.clock.now) c.args.x.now _ c.hear_at.new.members.items c.push.new.self (c.hear_at.ensures c.index.result.now)
