-- The next step of a flood's world, as the code takes it.
use Rattle.std.proofs.Common.{◌≡◌, ℕ, ◌<◌, List, length, get_or, sym, ◌∙◌, ap, subst, arith}
use Rattle.std.specs.Prelude.{Contains}
use Rattle.link_trace.specs.Passes.{Lines}
use Rattle.radio_model.specs.declared.sending.Sending.{Sending}
use Rattle.radio_model.specs.Stations.{nodes_of}
use Rattle.lwb_base.proofs.Elements.{map_contains}
use Rattle.lwb_flood.specs.declared.flood_world.FloodWorld.TheInside.{Inside}
use Rattle.lwb_flood.specs.declared.member.Act.TheVariants.{Sends}
use Rattle.lwb_flood.specs.declared.member.Member.{Member}
use Rattle.lwb_flood.specs.FloodWorlds.{World, IsShape, node_of_member, CanStep, CanEnd}

pub can_sends : (lines : Lines) (w : World) (m : Member) (x : Sending) → m.act ≡ Sends x → CanStep lines w m m.act → CanEnd lines w m x
can_sends lines w m x is can = subst (CanStep lines w m) is can

-- what the code keeps of a world
abbrev pub seen : Inside → World
seen w = record { medium = w.medium; members = w.members.items; air = w.air }

module _ (inside old : World) (shape : IsShape inside) (view : inside ≡ old) (place : ℕ) (m : Member) (below : place < length old.members)
    (at : m ≡ get_or inside.members place m) where
  below_inside : place < length inside.members
  below_inside = omega (arith, ap (λ (w : World). length w.members) view)

  there : Contains inside.members m
  there = (place, below_inside, sym at)

  pub at_old : m ≡ get_or old.members place m
  at_old = at ∙ ap (λ (w : World). get_or w.members place m) view

  pub node_at : Contains (nodes_of old.medium) m.node
  node_at =
      subst (λ (l : List ℕ). Contains l m.node) (shape.nodes ∙ ap (λ (w : World). nodes_of w.medium) view) (map_contains node_of_member inside.members m there)
