use Rattle.std.proofs.Common.{◌≡◌, ◌≤◌, ◌*◌, ◌^◌, take, sum_by}
use Rattle.run_commands.specs.Summary.{sent_ticks, on_ticks}
use Rattle.run_commands.proofs.summary.ticks.Given as goal

abbrev pub invariant-loop-i : goal.invariant-loop-i
invariant-loop-i l = record {
  sent : l.sent ≡ sum_by sent_ticks (take l.i l.air);
  on : l.on ≡ sum_by on_ticks (take l.i l.air);
  sent_fits : l.sent ≤ l.i * 2 ^ 64;
  on_fits : l.on ≤ l.i * 2 ^ 64;
}
