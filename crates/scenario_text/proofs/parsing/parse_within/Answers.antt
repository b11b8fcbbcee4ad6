use Rattle.std.proofs.Common.{◌≡◌, ◌+◌, ◌∙◌, sym, ℕ, List, Result, Ok, length, ap}
use Rattle.std.specs.Str.Lines.{lines}
use Rattle.text_readers.specs.Faults.{draft_after_lines, in_line, ◌>>=◌}
use Rattle.text_readers.specs.Reading.{draft_after_line}
use Rattle.scenario_text.specs.ScenarioGrammar.{Scenario, scenario_within, scenario_after_words, no_scenario, whole_within}
use Rattle.scenario_text.specs.ScenarioParts.{ScenarioParts}
use Rattle.text_readers.specs.declared.fault.FaultKind.{FaultKind}
use Rattle.scenario_text.specs.declared.limits.Limits.{Limits}
use Rattle.scenario_text.proofs.Horizons.{said_long}
use Rattle.scenario_text.proofs.ScenarioKeeps.{text_sound}
use Rattle.scenario_text.proofs.parsing.parse_within.Goals as goal

abbrev after_all : Scenario → List ℕ → Result Scenario (ℕ × FaultKind)
after_all d bytes = draft_after_lines (draft_after_line scenario_after_words) 1 d (lines bytes)

-- what a text says whose lines give a draft that misses nothing
said : (l : Limits) (bytes : List ℕ) (d : Scenario) (s : ScenarioParts) → after_all (no_scenario l.script_lines) bytes ≡ Ok d
    → whole_within l.node_frames d ≡ Ok s → scenario_within l bytes ≡ Ok s
said l bytes d s read done =
    ap (λ (r : Result Scenario (ℕ × FaultKind)). r >>= (λ e. in_line (length (lines bytes) + 1) (whole_within l.node_frames e))) read
    ∙ ap (λ (r : Result ScenarioParts FaultKind). in_line (length (lines bytes) + 1) r) done

from_nothing : (bytes : List ℕ) (most : ℕ) (n d : Scenario) → n ≡ no_scenario most → after_all n bytes ≡ Ok d → after_all (no_scenario most) bytes ≡ Ok d
from_nothing bytes most n d new read = ap (λ (e : Scenario). after_all e bytes) (sym new) ∙ read

pub finish-requires-clause-said : goal.finish-requires-clause-said
finish-requires-clause-said c =
    let bytes = c.args.bytes.now in
    let l = c.args.limits.now in
    let read = from_nothing bytes l.script_lines c.new.result c.in_ok-draft.draft c.new.ensures c.in_ok-draft.ensures.draft in
    λ s done. (bytes, said_long l (lines bytes) s c.requires.node_frames c.requires.script_lines (said l bytes c.in_ok-draft.draft s read done))

pub finish-requires-clause-sound : goal.finish-requires-clause-sound
finish-requires-clause-sound c =
    let bytes = c.args.bytes.now in
    let l = c.args.limits.now in
    let read = from_nothing bytes l.script_lines c.new.result c.in_ok-draft.draft c.new.ensures c.in_ok-draft.ensures.draft in
    text_sound l.script_lines c.in_ok-draft.draft (lines bytes) read
