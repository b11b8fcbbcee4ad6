use Rattle.std.proofs.Common.{◌≡◌, Option, IfSome, subst, sym, ap, ◌∙◌, List}
use Rattle.std.specs.Prelude.{option_copied}
use Rattle.scenario_text.specs.Setups.{setup_of}
use Rattle.node_core.specs.Nodes.{NodeState}
use Rattle.world_engine.specs.Worlds.{WorldState, core_of}
use Rattle.lwb_world.proofs.CoresOfNodes.{has_setup}
use Rattle.lwb_world.proofs.world.World.node.Goals as goal

pub returns-clause-setup : goal.returns-clause-setup
returns-clause-setup g c =
    λ left.
    let w = c.args.self.now.0 in
    let v = c.args.node in
    let is : option_copied c.node.result ≡ core_of w.cores v =
    c.node.ensures ∙ ap (λ (x : WorldState × List g.row.C.Denot). core_of x.0.cores v) c.self.view_is in
    subst (λ (o : Option NodeState). IfSome o (λ d. d.setup ≡ setup_of w.scenario v)) (sym is) (has_setup w left v)
