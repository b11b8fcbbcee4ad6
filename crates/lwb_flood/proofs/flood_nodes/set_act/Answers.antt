use Rattle.std.proofs.Common.{◌≡◌, List, length, get_or, refl, subst, ap, arith}
use Rattle.lwb_flood.specs.declared.member.Member.{Member}
use Rattle.lwb_flood.specs.FloodWorlds.{member_with_act}
use Rattle.lwb_flood.proofs.MemberPlaces.{set_is_change}
use Rattle.lwb_flood.proofs.flood_nodes.set_act.Goals as goal

pub returns : goal.returns
returns c =
    let i = c.place_of-place.result in
    let old = c.index_mut.result.now in
    let ms = c.args.members.now.items in
    let same : c.deref.result.now ≡ ms = c.deref.ensures.value in
    let there : (d : Member) → (get_or ms i d).node ≡ c.args.node =
    subst (λ (l : List Member). (d : Member) → (get_or l i d).node ≡ c.args.node) same c.place_of-place.ensures.there in
    set_is_change (member_with_act c.args.act) ms c.requires.ascend c.args.node i old _
    (let below = c.place_of-place.ensures.below in omega (arith, ap length same)) c.index_mut.ensures.value there refl
