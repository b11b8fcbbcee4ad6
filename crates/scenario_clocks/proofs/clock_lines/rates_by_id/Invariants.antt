use Rattle.std.proofs.Common.{take}
use Rattle.scenario_clocks.specs.NodeRates.{AreRatesOf}
use Rattle.scenario_clocks.proofs.clock_lines.rates_by_id.Given as goal

abbrev pub invariant-loop-rate : goal.invariant-loop-rate
invariant-loop-rate l = AreRatesOf (take l.rate-index l.rates) l.lists.items
