use Rattle.std.proofs.Common.{◌∙◌}
use Rattle.scenario_text.proofs.NodeIds.{nodes_seal}
use Rattle.scenario_text.proofs.sealing.seal.Goals as goal

pub seal-requires : goal.seal-requires
seal-requires c =
    nodes_seal c.args.nodes.now c.deref.result.now c.requires.rises c.requires.two c.requires.few (c.deref.ensures.value ∙ c.in_ok-ids.ensures)
