use Rattle.std.proofs.Common.{◌≡◌, ℕ, Bool, get_or, subst, sym, ◌∙◌, ap, if◌then◌else◌}
use Rattle.std.proofs.lemmas.List.{get_or_default}
use Rattle.lwb_flood.specs.declared.member.Member.{Member}
use Rattle.lwb_flood.specs.FloodWorlds.{IsShape, gone, world_closed_at}
use Rattle.lwb_flood.proofs.EndOfSending.{on_ok}
use Rattle.lwb_flood.proofs.FloodSteps.{node_at, at_old, seen}
use Rattle.lwb_flood.proofs.FloodClosing.{closed_at}
use Rattle.lwb_flood.proofs.flood_world.FloodWorld.close_one.Goals as goal

pub leave-requires-clause-node : goal.leave-requires-clause-node
leave-requires-clause-node c =
    node_at (seen c.self.inside) c.args.self.now c.self.invariant c.self.view_is c.args.place c.index.result.now c.requires.place c.index.ensures

pub returns : goal.returns
returns c =
    λ d.
    let w = c.args.self.now in
    let m = c.index.result.now in
    let n = c.index-2.result.now in
    let at_m : m ≡ get_or w.members c.args.place m =
    at_old (seen c.self.inside) w c.self.invariant c.self.view_is c.args.place m c.requires.place c.index.ensures in
    let at_n : n ≡ get_or w.members c.args.place n =
    at_old (seen c.self.inside) w c.self.invariant c.self.view_is c.args.place n c.requires.place c.index-2.ensures in
    let shape : IsShape w = subst IsShape c.self.view_is c.self.invariant in
    let of_n : m.node ≡ n.node = ap (λ (k : Member). k.node) (at_m ∙ get_or_default w.members c.args.place m n c.requires.place ∙ sym at_n) in
    let of_d : n.node ≡ (get_or w.members c.args.place d).node =
    ap (λ (k : Member). k.node) (at_n ∙ get_or_default w.members c.args.place n d c.requires.place) in
    let closed : world_closed_at n.node w ≡ gone n.node 1346096000 w = closed_at w shape c.args.place n c.requires.place at_n
    ∙ ap (λ (b : Bool). if b then w else gone n.node 1346096000 w) (sym c.is_off.ensures ∙ c.if-is_off.false) in
    on_ok c.leave.result _ _ (λ same. same ∙ ap (λ (v : ℕ). gone v 1346096000 w) of_n ∙ sym closed ∙ ap (λ (v : ℕ). world_closed_at v w) of_d) c.leave.ensures
