use Rattle.std.proofs.Common.{◌≡◌, ◌∙◌, sym, subst, ap, rules}
use Rattle.bus_terms.specs.FloodOfText.{ids}
use Rattle.link_trace.specs.Masks.{AreNodes}
use Rattle.lwb_flood.specs.FloodWorlds.{IsShape, first_world}
use Rattle.lwb_flood.proofs.FloodOpening.{sound_nodes, first_shape}
use Rattle.lwb_flood.proofs.flood_world.FloodWorld.new.Goals as goal

pub new-requires : goal.new-requires
new-requires c = subst AreNodes (sym (c.as_slice.ensures.value ∙ c.in_ok-nodes.ensures ∙ ap ids c.nodes.ensures.value))
    (sound_nodes c.args.f.now c.nodes.ensures.sound)

pub invariant_of-result : goal.invariant_of-result
invariant_of-result c =
    let is : record { medium = c.open.new.medium; members = c.in_ok-members.field-0.items; air = c.new-2.result } ≡ first_world c.args.f.now = search rules in
    subst IsShape (sym is) (first_shape c.args.f.now (sound_nodes c.args.f.now c.nodes.ensures.sound))
