use Rattle.std.proofs.Common.{◌∙◌, ap}
use Rattle.lwb_base.specs.Profile.{Numbers}
use Rattle.time_reference.specs.Reference.{RoundTimes}
use Rattle.round_runner.specs.Rounds.{round_of}
use Rattle.node_core.specs.Nodes.{NodeState, starts_at, closes_at}
use Rattle.node_core.proofs.OpenedWindows.{start_is, until_is}
use Rattle.node_core.proofs.node.Node.times_of.Goals as goal

pub returns-clause-start : goal.returns-clause-start
returns-clause-start c =
    let i = c.self.inside in
    let p = i.member.setup.profile in
    let rounded = c.new-round.ensures ∙ ap (λ (q : Numbers). round_of q i.reference c.owners.result c.contend.result) c.profile.ensures
    ∙ ap (λ (r : RoundTimes). round_of p r c.owners.result c.contend.result) c.self.invariant.timed in
    start_is p i.reference.zero c.args.slot c.owners.result c.contend.result c.new-round.result c.window.result rounded c.window.ensures
    ∙ ap (λ (n : NodeState). starts_at n.setup.profile n.node.zero c.args.slot) c.self.view_is

pub returns-clause-until : goal.returns-clause-until
returns-clause-until c =
    let i = c.self.inside in
    let p = i.member.setup.profile in
    let rounded = c.new-round.ensures ∙ ap (λ (q : Numbers). round_of q i.reference c.owners.result c.contend.result) c.profile.ensures
    ∙ ap (λ (r : RoundTimes). round_of p r c.owners.result c.contend.result) c.self.invariant.timed in
    until_is p i.reference.zero c.args.slot c.owners.result c.contend.result c.new-round.result c.window.result rounded c.window.ensures
    ∙ ap (λ (n : NodeState). closes_at n.setup.profile n.node.zero c.args.slot) c.self.view_is
