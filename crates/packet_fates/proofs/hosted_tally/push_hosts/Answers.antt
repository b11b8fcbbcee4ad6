use Rattle.std.proofs.Common.{◌∙◌, ap}
use Rattle.scenario_text.specs.declared.lines.NodeLine.{NodeLine}
use Rattle.packet_fates.specs.Hosted.{hosted_in}
use Rattle.packet_fates.proofs.HostedStreams.{some_sent}
use Rattle.packet_fates.proofs.KeptOnes.{kept_more}
use Rattle.packet_fates.proofs.hosted_tally.push_hosts.Goals as goal

pub loop-line-preserved : goal.loop-line-preserved
loop-line-preserved c =
    let v = c.args.stream.now in
    let line = c.line-item.result in
    kept_more some_sent (λ (n : NodeLine). hosted_in c.args.tally.now v.node v.stream n.node) c.args.nodes.now c.loop-line.line-index line c.hosted_at.result
    c.args.counts.now.items c.loop-line.counts.items c.push_some.new.all.items c.loop-line-test.true
    (c.hosted_at.ensures ∙ ap (λ (n : NodeLine). hosted_in c.args.tally.now v.node v.stream n.node) c.line-item.is) c.loop-line.invariant
    c.in_ok-push_some.ensures
