use Rattle.std.proofs.Common.{◌≡◌, ℕ}
use Rattle.std.specs.Int.{bit_at}
use Rattle.plain_bus.specs.FloodMasks.{traced}
use Rattle.plain_bus.proofs.PlacesSeen.{AreSeen}
use Rattle.plain_bus.proofs.ReachedNodes.{ComesFrom, IsWithin}
use Rattle.plain_bus.proofs.reaching.reached_by.Given as goal

abbrev pub invariant-loop-among : goal.invariant-loop-among
invariant-loop-among g l = record {
  within : AreSeen (IsWithin (traced (g.M.Links.lines l.links) (g.M.Links.nodes l.links)) l.flood l.step l.among l.reached) l.fn.senders l.rest;
  from : (i : ℕ) → bit_at l.reached i ≡ 1 → ComesFrom (traced (g.M.Links.lines l.links) (g.M.Links.nodes l.links)) l.flood l.step l.fn.senders i;
}

abbrev pub decreases-loop-among : goal.decreases-loop-among
decreases-loop-among g l = l.rest
