use Rattle.std.proofs.Common.{◌≡◌, take}
use Rattle.scenario_text.specs.Network.{rates_by_node}
use Rattle.scenario_text.proofs.rates.by_node.Given as goal

abbrev pub invariant-loop-line : goal.invariant-loop-line
invariant-loop-line l = l.sorted.items ≡ rates_by_node (take l.line-index l.nodes) l.rates
