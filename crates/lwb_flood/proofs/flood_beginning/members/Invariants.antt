use Rattle.std.proofs.Common.{◌≡◌, take, map}
use Rattle.lwb_flood.specs.FloodWorlds.{first_member}
use Rattle.lwb_flood.proofs.flood_beginning.members.Given as goal

abbrev pub invariant-loop-line : goal.invariant-loop-line
invariant-loop-line l = l.members.items ≡ map (first_member l.f) (take l.line-index l.line-items)
