use Rattle.std.proofs.Common.{◌≡◌, ◌<◌, ◌++◌, All, take}
use Rattle.bus_rules.specs.States.{payload_of}
use Rattle.scenario_text.proofs.added_lines.copy_lines.Given as goal

abbrev pub invariant-loop-line : goal.invariant-loop-line
invariant-loop-line l = record {
  lines : l.all.items ≡ l.fn.all.items ++ take l.line-index l.fn.lines;
  bytes : All (λ x. All (λ b. b < 256) (payload_of x.act)) (take l.line-index l.fn.lines);
}
