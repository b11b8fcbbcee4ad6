use Rattle.std.proofs.Common.{◌≡◌}
use Rattle.test_reports.proofs.core_tests.Driven.tell.Given as goal

abbrev pub invariant-loop : goal.invariant-loop
invariant-loop l = l.self.core.setup ≡ l.fn.self.core.setup
