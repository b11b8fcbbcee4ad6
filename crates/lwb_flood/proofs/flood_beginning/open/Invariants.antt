use Rattle.std.proofs.Common.{◌≡◌, take}
use Rattle.lwb_flood.specs.FloodWorlds.{medium_at_opening}
use Rattle.lwb_flood.proofs.flood_beginning.open.Given as goal

abbrev pub invariant-loop-node : goal.invariant-loop-node
invariant-loop-node l = l.medium ≡ medium_at_opening (take l.node-index l.nodes) l.fn.medium
