use Rattle.std.proofs.Common.{◌≡◌, ◌<◌, List, Bool, length, get_or, sym, ◌∙◌, subst, ap, arith, if◌then◌else◌}
use Rattle.glossy_relay.specs.FloodState.{FloodState}
use Rattle.glossy_relay.specs.declared.flood.After.TheVariants.{Off, More}
use Rattle.lwb_flood.specs.declared.member.Act.TheVariants.{Listens}
use Rattle.lwb_flood.specs.declared.member.Member.{Member}
use Rattle.lwb_flood.specs.FloodWorlds.{after_own}
use Rattle.lwb_flood.proofs.MemberPlaces.{set_is_change}
use Rattle.lwb_flood.proofs.FloodHearers.{last_at}
use Rattle.lwb_flood.proofs.flood_nodes.end_own.Goals as goal

pub returns-clause-last : goal.returns-clause-last
returns-clause-last c =
    let i = c.place_of-place.result in
    let m = c.index_mut-member.result.now in
    let ms = c.args.members.now.items in
    let same : c.deref.result.now ≡ ms = c.deref.ensures.value in
    let there : (d : Member) → (get_or ms i d).node ≡ c.args.node =
    subst (λ (l : List Member). (d : Member) → (get_or l i d).node ≡ c.args.node) same c.place_of-place.ensures.there in
    let below : i < length ms = (let b = c.place_of-place.ensures.below in omega (arith, ap length same)) in
    c.sent.ensures.off ∙ ap (λ (b : Bool). if b then Off else More)
    (sym (last_at c.args.node ms i m c.requires.ascend below c.index_mut-member.ensures.value there))

pub returns-clause-members : goal.returns-clause-members
returns-clause-members c =
    let i = c.place_of-place.result in
    let m = c.index_mut-member.result.now in
    let ms = c.args.members.now.items in
    let same : c.deref.result.now ≡ ms = c.deref.ensures.value in
    let there : (d : Member) → (get_or ms i d).node ≡ c.args.node =
    subst (λ (l : List Member). (d : Member) → (get_or l i d).node ≡ c.args.node) same c.place_of-place.ensures.there in
    let below : i < length ms = (let b = c.place_of-place.ensures.below in omega (arith, ap length same)) in
    set_is_change after_own ms c.requires.ascend c.args.node i m _ below c.index_mut-member.ensures.value there (ap (λ (f : FloodState). record {
      node = m.node;
      flood = f;
      act = Listens;
    }) c.sent.ensures.state)
