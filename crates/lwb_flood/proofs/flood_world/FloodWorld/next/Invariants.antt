use Rattle.lwb_flood.proofs.NextMember.{IsFirst}
use Rattle.lwb_flood.proofs.flood_world.FloodWorld.next.Given as goal

abbrev pub invariant-loop-i : goal.invariant-loop-i
invariant-loop-i l = IsFirst l.member-items l.i l.next
