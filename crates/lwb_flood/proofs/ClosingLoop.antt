-- The nodes go off one after another, by their places.
use Rattle.std.proofs.Common.{◌≡◌, ℕ, ◌+◌, ◌<◌, List, map, take, length, get_or, sym, ◌∙◌, ap, arith}
use Rattle.std.proofs.lemmas.List.{length-map, get_or-map}
use Rattle.lwb_flood.specs.declared.member.Member.{Member}
use Rattle.lwb_flood.specs.FloodWorlds.{World, node_of_member, world_closed_at, closed_all}
use Rattle.lwb_flood.proofs.FloodClosing.{closed_more, closed_nodes}

module _ (first now : World) (place : ℕ) (so : now ≡ closed_all (take place (map node_of_member first.members)) first) where
  nodes : map node_of_member now.members ≡ map node_of_member first.members
  nodes = ap (λ (w : World). map node_of_member w.members) so ∙ closed_nodes (take place (map node_of_member first.members)) first

  long : length now.members ≡ length first.members
  long = sym (length-map now.members node_of_member) ∙ ap length nodes ∙ length-map first.members node_of_member

  pub closing_below : place < length first.members → place < length now.members
  closing_below below = omega (arith, long)

  pub closing_on : place < length first.members → (new : World) (d : Member) → new ≡ world_closed_at (get_or now.members place d).node now
      → new ≡ closed_all (take (place + 1) (map node_of_member first.members)) first
  closing_on below new d same =
      let v : ℕ = (get_or now.members place d).node in
      let at : v ≡ get_or (map node_of_member first.members) place v = sym (get_or-map node_of_member now.members place d v (closing_below below))
      ∙ ap (λ (l : List ℕ). get_or l place v) nodes in
      same ∙ ap (world_closed_at v) so
      ∙ sym (closed_more (map node_of_member first.members) place v first (omega (arith, length-map first.members node_of_member)) at)
