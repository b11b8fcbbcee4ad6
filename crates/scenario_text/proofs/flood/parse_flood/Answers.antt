use Rattle.std.proofs.Common.{◌≡◌, ◌∙◌, sym, ℕ, List, Ok, ap}
use Rattle.std.specs.Str.Lines.{lines}
use Rattle.text_readers.specs.Faults.{draft_after_lines}
use Rattle.text_readers.specs.Reading.{draft_after_line}
use Rattle.scenario_text.specs.FloodGrammar.{Flood, flood_after_words, no_flood}
use Rattle.scenario_text.proofs.FloodKeeps.{text_sound}
use Rattle.scenario_text.proofs.flood.parse_flood.Goals as goal

from_nothing : (bytes : List ℕ) (n d : Flood) → n ≡ no_flood → draft_after_lines (draft_after_line flood_after_words) 1 n (lines bytes) ≡ Ok d
    → draft_after_lines (draft_after_line flood_after_words) 1 no_flood (lines bytes) ≡ Ok d
from_nothing bytes n d new read = ap (λ (e : Flood). draft_after_lines (draft_after_line flood_after_words) 1 e (lines bytes)) (sym new) ∙ read

pub finish-requires : goal.finish-requires
finish-requires c =
    let bytes = c.args.bytes.now in
    text_sound c.in_ok-draft.draft (lines bytes) (from_nothing bytes c.new.result c.in_ok-draft.draft c.new.ensures c.in_ok-draft.ensures.draft)
