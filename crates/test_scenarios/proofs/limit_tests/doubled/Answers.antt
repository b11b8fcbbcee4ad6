use Rattle.scenario_text.proofs.SoundScenarios.{sound}
use Rattle.test_scenarios.proofs.limit_tests.doubled.Goals as goal

pub with_script-requires-clause-in_range : goal.with_script-requires-clause-in_range
with_script-requires-clause-in_range c = rw c.script.ensures.value (sound c.args.s.now c.script.ensures.said).script

pub with_script-requires-clause-ascending : goal.with_script-requires-clause-ascending
with_script-requires-clause-ascending c = rw c.script.ensures.value (sound c.args.s.now c.script.ensures.said).script_ascends
