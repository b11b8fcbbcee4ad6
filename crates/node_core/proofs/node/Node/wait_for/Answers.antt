use Rattle.std.proofs.Common.{◌∙◌, ap, rules}
use Rattle.node_core.specs.Nodes.{NodeState}
use Rattle.node_core.specs.Standing.{KeepsFew}
use Rattle.node_core.specs.declared.stage.Stage.TheVariants.{AwaitSlot}
use Rattle.node_core.proofs.KeptRequests.{keeps_none, waiter_keeps_none}
use Rattle.node_core.proofs.node.Node.wait_for.Goals as goal

pub invariant_of-self : goal.invariant_of-self
invariant_of-self g c =
    let i = c.self.inside in
    let none = waiter_keeps_none i.member.setup.profile i.member.core i.stage (ap (λ (n : NodeState). n.node.stage) c.self.view_is ∙ c.requires.stage)
    c.self.invariant.kept in
    let kept : KeepsFew i.member.setup.profile i.member.core (AwaitSlot 0) =
    keeps_none i.member.setup.profile i.member.core (AwaitSlot 0) none c.self.invariant.kept.named in
    search rules
