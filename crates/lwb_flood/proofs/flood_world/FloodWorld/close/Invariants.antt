use Rattle.std.proofs.Common.{◌≡◌, take, map}
use Rattle.lwb_flood.specs.FloodWorlds.{closed_all, node_of_member}
use Rattle.lwb_flood.proofs.flood_world.FloodWorld.close.Given as goal

abbrev pub invariant-loop-place : goal.invariant-loop-place
invariant-loop-place l = l.self ≡ closed_all (take l.place (map node_of_member l.fn.self.members)) l.fn.self
