use Rattle.std.proofs.Common.{◌≡◌, ◌++◌, List, length, reverse}
use Rattle.scenario_text.specs.declared.script.ScriptLine.{ScriptLine}
use Rattle.packet_fates.specs.Clearings.{AreNext, put_clearings}
use Rattle.packet_fates.proofs.emptyings.clearings.Given as goal

-- with the lines below
abbrev pub invariant-loop-line : goal.invariant-loop-line
invariant-loop-line l = (below : List ScriptLine) × (l.above ++ below ≡ l.script) × AreNext below l.next × (reverse l.frames.items ≡ put_clearings below)

abbrev pub decreases-loop-line : goal.decreases-loop-line
decreases-loop-line l = length l.above
