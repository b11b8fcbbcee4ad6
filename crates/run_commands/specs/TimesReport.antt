-- The bytes of the report of stamps.
use Rattle.std.specs.Prelude.{ℕ, List, [], ◌∷◌, codes, flat_map}
use Rattle.text_writers.specs.Lines.{line_text, numbered}
use Rattle.scenario_text.specs.ScenarioParts.{ScenarioParts}
use Rattle.bus_rules.specs.declared.delivery.Delivery.{Delivery}
use Rattle.bus_rules.specs.declared.delivery.DropLine.{DropLine}
use Rattle.air_log.specs.declared.entry.Entry.{Entry}
use Rattle.bus_time.specs.declared.stamp.Stamp.{Stamp}

-- `stamp FRAME RANK SLOT NODE STREAM SEQ TICK`
abbrev pub stamp_line : Stamp → List ℕ
stamp_line m = line_text (numbered (codes "stamp") (m.frame ∷ m.rank ∷ m.slot ∷ m.node ∷ m.stream ∷ m.seq ∷ m.tick ∷ []))

-- a run is given by these stamps, and by nothing else
abbrev pub stamp_report : List Stamp → List Delivery → List DropLine → ScenarioParts → (ℕ → ℕ → ℕ) → List Entry → List ℕ
stamp_report stamps made lost s clocks air = flat_map stamp_line stamps
