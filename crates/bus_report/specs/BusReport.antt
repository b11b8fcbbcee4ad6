-- The bytes of the report of a scenario's run on the bus.
use Rattle.std.specs.Prelude.{ℕ, List, [], ◌∷◌, ◌++◌, codes, flat_map}
use Rattle.text_writers.specs.Lines.{line_text, numbered}
use Rattle.scenario_text.specs.ScenarioParts.{ScenarioParts}
use Rattle.scenario_text.specs.declared.lines.NodeLine.{NodeLine}
use Rattle.bus_terms.specs.Bus.{Cost, bus_cost, bus_deliveries, bus_drops}
use Rattle.bus_report.specs.ReportLines.{report_lines}

-- what the bus costs a node, in ticks but for the number of frames in which it scans
abbrev pub cost_line : ℕ → Cost → List ℕ
cost_line v c = line_text (numbered (codes "cost") (v ∷ c.sent ∷ c.windows ∷ c.scanned ∷ []))

abbrev pub node_cost : ScenarioParts → NodeLine → List ℕ
node_cost s n = cost_line n.node (bus_cost s n.node)

abbrev pub cost_lines : ScenarioParts → List ℕ
cost_lines s = flat_map (node_cost s) s.nodes

-- the deliveries and drops as in the report of a run, and what each node costs, by its id
abbrev pub bus_report : ScenarioParts → List ℕ
bus_report s = report_lines (bus_deliveries s) (bus_drops s) ++ cost_lines s
