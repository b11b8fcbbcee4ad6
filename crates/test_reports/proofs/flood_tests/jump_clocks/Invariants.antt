use Rattle.std.proofs.Common.{◌≡◌, length}
use Rattle.test_reports.proofs.flood_tests.jump_clocks.Given as goal

abbrev pub invariant-loop : goal.invariant-loop
invariant-loop l = length l.clocks.items ≡ l.counter
