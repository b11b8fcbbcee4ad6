use Rattle.scenario_maker.proofs.LoopSteps.{numbered}
use Rattle.scenario_maker.proofs.maker.ids.Goals as goal

pub loop-k-preserved : goal.loop-k-preserved
loop-k-preserved c = numbered c.loop-k.ids.items c.push.new.self.items c.node_of.result c.loop-k.k c.loop-k.invariant
    (c.in_ok-push.ensures).items c.node_of.ensures
