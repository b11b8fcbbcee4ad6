use Rattle.std.proofs.Common.{◌≡◌, [], replicate}
use Rattle.scenario_clocks.proofs.clock_lines.no_rates.Given as goal

abbrev pub invariant-loop : goal.invariant-loop
invariant-loop l = l.lists.items ≡ replicate l.counter []
