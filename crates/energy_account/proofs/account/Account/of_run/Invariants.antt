use Rattle.std.proofs.Common.{◌≡◌, map, take}
use Rattle.scenario_clocks.specs.StatedClocks.{scenario_clock}
use Rattle.energy_account.specs.Accounts.{line_for}
use Rattle.energy_account.proofs.account.Account.of_run.Given as goal

abbrev pub invariant-loop-place : goal.invariant-loop-place
invariant-loop-place g l = l.lines.items ≡ map (line_for l.fn.s (scenario_clock l.fn.s) l.fn.a) (take l.place l.nodes)
