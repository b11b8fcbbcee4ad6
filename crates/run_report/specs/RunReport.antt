-- The bytes of the report of a run, and of that with its log.
use Rattle.std.specs.Prelude.{ℕ, List, [], ◌∷◌, ◌++◌, codes, flat_map}
use Rattle.text_writers.specs.Lines.{line_text, numbered}
use Rattle.scenario_text.specs.ScenarioParts.{ScenarioParts}
use Rattle.scenario_text.specs.declared.lines.NodeLine.{NodeLine}
use Rattle.bus_rules.specs.declared.delivery.Delivery.{Delivery}
use Rattle.bus_rules.specs.declared.delivery.DropLine.{DropLine}
use Rattle.air_log.specs.declared.entry.Entry.{Entry}
use Rattle.bus_report.specs.ReportLines.{report_lines}
use Rattle.air_log.specs.Energies.{energy_of}
use Rattle.air_log.specs.LogText.{log_text}
use Rattle.air_log.specs.declared.energy.Energy.{Energy}

-- what the radio of a node costs, in ticks but for the number of frames in which it scans
abbrev pub energy_line : ℕ → Energy → List ℕ
energy_line v e = line_text (numbered (codes "energy") (v ∷ e.sent ∷ e.windows ∷ e.scanned ∷ e.on ∷ []))

abbrev pub node_energy : ScenarioParts → (ℕ → ℕ → ℕ) → List Entry → NodeLine → List ℕ
node_energy s clocks air n = energy_line n.node (energy_of s clocks air n.node)

abbrev pub energy_lines : ScenarioParts → (ℕ → ℕ → ℕ) → List Entry → List ℕ
energy_lines s clocks air = flat_map (node_energy s clocks air) s.nodes

-- of a scenario over these clocks, by what was delivered and lost, and by its log: the deliveries by frame, rank, slot and node,
-- the drops in the order of the text, and what each node costs, by its id
abbrev pub run_report : List Delivery → List DropLine → ScenarioParts → (ℕ → ℕ → ℕ) → List Entry → List ℕ
run_report made lost s clocks air = report_lines made lost ++ energy_lines s clocks air

-- the report, with the text of the log after it
abbrev pub log_report : List Delivery → List DropLine → ScenarioParts → (ℕ → ℕ → ℕ) → List Entry → List ℕ
log_report made lost s clocks air = run_report made lost s clocks air ++ log_text air
