use Rattle.std.proofs.Common.{rules, ◌≡◌}
use Rattle.scenario_text.proofs.ScenarioExamples.{first_round_parts}
use Rattle.scenario_text.proofs.CanonicalExamples.{of_first_round}
use Rattle.test_scenarios.proofs.tests.first_round.Goals as goal

-- src/tests.rt:471:8
pub of_parts-requires-clause-said : goal.of_parts-requires-clause-said
of_parts-requires-clause-said c =
    let one : c.in_ok-one.one ≡ 1 = search rules in
    let two : c.in_ok-two.two ≡ 2 = search rules in
    let nodes : c.in_ok-nodes.nodes.items ≡ first_round_parts.nodes = search rules in
    let hosts : c.in_ok-hosts.hosts.items ≡ first_round_parts.hosts = search rules in
    let trace : c.in_ok-trace.trace.lines ≡ first_round_parts.trace = search rules in
    let script : c.in_ok-script.script.items ≡ first_round_parts.script = search rules in
    of_first_round _ _ _ _ _ _ c.one.ensures nodes c.new.ensures.items hosts trace script
