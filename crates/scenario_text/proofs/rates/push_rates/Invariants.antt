use Rattle.std.proofs.Common.{◌≡◌, ◌==◌, ◌++◌, filter, take}
use Rattle.scenario_text.proofs.rates.push_rates.Given as goal

abbrev pub invariant-loop-rate : goal.invariant-loop-rate
invariant-loop-rate l = l.sorted.items ≡ l.fn.sorted.items ++ filter (λ r. r.node == l.node) (take l.rate-index l.rates)
