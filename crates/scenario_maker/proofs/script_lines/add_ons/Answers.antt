use Rattle.std.proofs.Common.{◌+◌, ap, arith}
use Rattle.scenario_maker.specs.Made.{on_line}
use Rattle.scenario_maker.proofs.LoopSteps.{pushed}
use Rattle.scenario_maker.proofs.script_lines.add_ons.Goals as goal

pub loop-k-preserved : goal.loop-k-preserved
loop-k-preserved c =
    let k = c.loop-k.k in
    pushed on_line c.args.lines.now.items c.loop-k.lines.items c.push.new.self.items (on_line c.node_of.result) 1 k (k + 1) c.loop-k.invariant
    (c.in_ok-push.ensures).items
    (ap on_line c.node_of.ensures) (omega arith)
