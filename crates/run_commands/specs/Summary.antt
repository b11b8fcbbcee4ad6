-- The summary of a run.
use Rattle.std.specs.Prelude.{ℕ, ◌-◌, List, [], ◌∷◌, ◌++◌, codes, length, sum_by}
use Rattle.text_writers.specs.Lines.{line_text, numbered}
use Rattle.scenario_text.specs.ScenarioParts.{ScenarioParts}
use Rattle.air_log.specs.declared.entry.Entry.{Entry}
use Rattle.air_log.specs.declared.entry.Entry.TheVariants.{Sent, Heard, Tuned}
use Rattle.bus_rules.specs.declared.delivery.Delivery.{Delivery}
use Rattle.bus_rules.specs.declared.delivery.DropLine.{DropLine}

-- in ticks, for how long a transmission lasted, and for how long a radio was on
abbrev pub sent_ticks : Entry → ℕ
sent_ticks (Sent e) = e.end - e.start
sent_ticks (Heard e) = 0
sent_ticks (Tuned e) = 0

abbrev pub on_ticks : Entry → ℕ
on_ticks (Sent e) = 0
on_ticks (Heard e) = 0
on_ticks (Tuned e) = e.end - e.start

abbrev pub number_line : List ℕ → ℕ → List ℕ
number_line word n = line_text (numbered word (n ∷ []))

-- how many deliveries, how many drops, and the ticks in which all nodes sent and in which their radios were on
abbrev pub summary_lines : ℕ → ℕ → List Entry → List ℕ
summary_lines made lost air =
    number_line (codes "deliveries") made ++ number_line (codes "drops") lost ++ number_line (codes "sent") (sum_by sent_ticks air)
    ++ number_line (codes "on") (sum_by on_ticks air)

-- of a scenario over these clocks, by what was delivered and lost, and by its log
abbrev pub summary : List Delivery → List DropLine → ScenarioParts → (ℕ → ℕ → ℕ) → List Entry → List ℕ
summary made lost s clocks air = summary_lines (length made) (length lost) air
