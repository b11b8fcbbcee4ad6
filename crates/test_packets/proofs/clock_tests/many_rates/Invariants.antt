use Rattle.std.proofs.Common.{◌^◌, ◌<◌, All}
use Rattle.test_packets.proofs.clock_tests.many_rates.Given as goal

abbrev pub invariant-loop-i : goal.invariant-loop-i
invariant-loop-i l = All (λ r. r.0 < 2 ^ 47) l.rates.items
