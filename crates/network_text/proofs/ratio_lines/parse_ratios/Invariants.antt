use Rattle.std.proofs.Common.{◌≡◌, ◌+◌, ◌≤◌, length, map}
use Rattle.std.specs.Str.Lines.{lines}
use Rattle.text_readers.specs.Faults.{draft_after_lines}
use Rattle.text_readers.specs.Reading.{draft_after_line}
use Rattle.scenario_text.specs.FloodParts.{node_id}
use Rattle.network_text.specs.NetworkGrammar.{ratios_after_words, ratios_of}
use Rattle.network_text.proofs.ratio_lines.parse_ratios.Given as goal

-- what the whole says is what the rest says after the lines so far
abbrev pub invariant-loop-rest : goal.invariant-loop-rest
invariant-loop-rest l = record {
  said : ratios_of l.s l.before l.bytes ≡ draft_after_lines (draft_after_line (ratios_after_words l.s)) (l.count + 1) l.ratios.lines (lines l.rest);
  within : l.count + length l.rest ≤ l.before + length l.bytes;
  nodes : l.ratios.nodes ≡ map node_id l.s.nodes;
}

abbrev pub decreases-loop-rest : goal.decreases-loop-rest
decreases-loop-rest l = length l.rest
