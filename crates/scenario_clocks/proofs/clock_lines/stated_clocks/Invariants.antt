use Rattle.std.proofs.Common.{take}
use Rattle.scenario_clocks.specs.NodeRates.{AreClocks}
use Rattle.scenario_clocks.proofs.clock_lines.stated_clocks.Given as goal

abbrev pub invariant-loop-line : goal.invariant-loop-line
invariant-loop-line l = AreClocks l.fn.rates (take l.line-index l.nodes) l.clocks.items
