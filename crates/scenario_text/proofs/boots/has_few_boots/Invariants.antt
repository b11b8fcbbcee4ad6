use Rattle.std.proofs.Common.{◌≡◌, ◌≤◌, ℕ, false, take}
use Rattle.scenario_text.specs.AddedLines.{boots_so_far}
use Rattle.scenario_text.specs.ScenarioFacts.{turned}
use Rattle.scenario_text.proofs.boots.has_few_boots.Given as goal

abbrev pub invariant-loop-line : goal.invariant-loop-line
invariant-loop-line l = record {
  counted : (v : ℕ) → boots_so_far l.boots.on l.boots.counts v ≡ turned v (false, 0) (take l.line-index l.fn.script);
  few : (v : ℕ) → (boots_so_far l.boots.on l.boots.counts v).1 ≤ 200;
}
