-- The lines of what is delivered and of what is lost before it is queued.
use Rattle.std.specs.Prelude.{ℕ, List, [], ◌∷◌, ◌++◌, codes, flat_map}
use Rattle.text_writers.specs.Lines.{line_text, numbered}
use Rattle.text_writers.specs.HexWords.{payload_word}
use Rattle.bus_rules.specs.declared.delivery.Delivery.{Delivery}
use Rattle.bus_rules.specs.declared.delivery.DropLine.{DropLine}

abbrev pub delivery_numbers : Delivery → List ℕ
delivery_numbers d = d.frame ∷ d.rank ∷ d.slot ∷ d.node ∷ d.from ∷ d.boot ∷ d.stream ∷ d.seq ∷ []

abbrev pub delivery_line : Delivery → List ℕ
delivery_line d = line_text (numbered (codes "deliver") (delivery_numbers d) ++ payload_word d.payload ∷ [])

abbrev pub drop_line : DropLine → List ℕ
drop_line l = line_text (numbered (codes "drop") (l.frame ∷ l.node ∷ l.stream ∷ []))

-- a line for each delivery, then one for each lost put
abbrev pub report_lines : List Delivery → List DropLine → List ℕ
report_lines made lost = flat_map delivery_line made ++ flat_map drop_line lost
