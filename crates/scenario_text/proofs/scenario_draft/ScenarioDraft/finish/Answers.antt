use Rattle.std.proofs.Common.{rules}
use Rattle.scenario_text.proofs.scenario_draft.ScenarioDraft.finish.Goals as goal

pub of_network-requires : goal.of_network-requires
of_network-requires c = search (rules, c.requires.said)
