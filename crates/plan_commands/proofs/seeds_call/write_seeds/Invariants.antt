use Rattle.std.proofs.Common.{◌≤◌}
use Rattle.std.specs.Io.KnownBytes.{Appends}
use Rattle.plan_commands.specs.SeedTexts.{seeds_text}
use Rattle.plan_commands.proofs.seeds_call.write_seeds.Given as goal

abbrev pub invariant-loop-i : goal.invariant-loop-i
invariant-loop-i g l = record {
  wrote : Appends (g.K.Sink.held l.fn.sink) (g.K.Sink.held l.sink) (seeds_text l.network.scenario l.network.ratios.lines l.network.from l.i);
  later : g.K.Sink.faults l.fn.sink ≤ g.K.Sink.faults l.sink;
}
