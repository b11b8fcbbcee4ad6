use Rattle.std.proofs.Common.{◌≡◌, take, map}
use Rattle.lwb_flood.specs.FloodWorlds.{heard_by_all, readings_of_node, node_of_member}
use Rattle.lwb_flood.proofs.flood_world.FloodWorld.hear_all.Given as goal

abbrev pub invariant-loop-i : goal.invariant-loop-i
invariant-loop-i g l = l.self ≡ heard_by_all (readings_of_node g.C.DriftClock.readings l.clocks (map node_of_member l.fn.self.members)) l.x
    (map (λ p. p.0) (take l.i l.hearers)) l.fn.self
