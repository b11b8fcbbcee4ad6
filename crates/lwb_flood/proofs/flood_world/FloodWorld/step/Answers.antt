use Rattle.std.proofs.Common.{◌≡◌, ℕ, get_or, sym, ◌∙◌, ap, subst}
use Rattle.std.specs.Prelude.{Contains}
use Rattle.radio_model.specs.Stations.{nodes_of}
use Rattle.lwb_flood.specs.declared.member.Member.{Member}
use Rattle.lwb_flood.proofs.FloodSteps.{node_at, at_old, seen, can_sends}
use Rattle.lwb_flood.proofs.flood_world.FloodWorld.step.Goals as goal

pub begin-requires-clause-node : goal.begin-requires-clause-node
begin-requires-clause-node g c =
    node_at (seen c.self.inside) c.args.self.now c.self.invariant c.self.view_is c.args.place c.index.result.now c.requires.place c.index.ensures

pub end-requires-clause-node : goal.end-requires-clause-node
end-requires-clause-node g c =
    let m = c.index-2.result.now in
    let at : m ≡ get_or c.args.self.now.members c.args.place m =
    at_old (seen c.self.inside) c.args.self.now c.self.invariant c.self.view_is c.args.place m c.requires.place c.index-2.ensures in
    let node : c.in-Sends.x.node ≡ m.node =
    (can_sends c.args.trace.now.lines c.args.self.now (get_or c.args.self.now.members c.args.place m) c.in-Sends.x
    (ap (λ (n : Member). n.act) (sym at) ∙ sym c.copy_of_act.ensures ∙ c.in-Sends.is) (c.requires.can m)).node ∙ ap (λ (n : Member). n.node) (sym at) in
    subst (λ (v : ℕ). Contains (nodes_of c.args.self.now.medium) v) (sym node)
    (node_at (seen c.self.inside) c.args.self.now c.self.invariant c.self.view_is c.args.place m c.requires.place c.index-2.ensures)
