use Rattle.std.proofs.Common.{◌≡◌, ◌<◌, ℕ, get_or}
use Rattle.lwb_flood.specs.declared.member.Member.{Member}
use Rattle.lwb_flood.proofs.flood_nodes.place_of.Given as goal

abbrev pub invariant-loop-i : goal.invariant-loop-i
invariant-loop-i l = (k : ℕ) (d : Member) → k < l.i → (get_or l.members k d).node ≡ l.node → ⊥
