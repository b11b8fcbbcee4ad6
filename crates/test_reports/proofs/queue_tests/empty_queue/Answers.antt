use Rattle.std.proofs.Common.{length, ap, arith}
use Rattle.scenario_text.proofs.SoundScenarios.{sound}
use Rattle.test_reports.proofs.queue_tests.empty_queue.Goals as goal

pub overflow_cast-nodes : goal.overflow_cast-nodes
overflow_cast-nodes c =
    let is = sound c.args.s.now c.nodes.ensures.said in
    omega (arith, is.few_nodes, ap length c.nodes.ensures.value)

pub new-requires : goal.new-requires
new-requires c =
    let is = sound c.args.s.now c.nodes.ensures.said in
    omega (arith, is.two_nodes, is.few_nodes, ap length c.nodes.ensures.value)
