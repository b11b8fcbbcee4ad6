-- The bytes of the report of a run in which backup hosts go back.
use Rattle.std.specs.Prelude.{ℕ, List, [], ◌∷◌, ◌++◌, ◌==◌, if◌then◌else◌, codes, flat_map}
use Rattle.text_writers.specs.Lines.{line_text, numbered}
use Rattle.scenario_text.specs.ScenarioParts.{ScenarioParts}
use Rattle.bus_rules.specs.declared.delivery.Delivery.{Delivery}
use Rattle.bus_rules.specs.declared.delivery.DropLine.{DropLine}
use Rattle.air_log.specs.declared.entry.Entry.{Entry}
use Rattle.host_return.specs.declared.returned.Return.{Return}
use Rattle.run_report.specs.RunReport.{run_report}

-- `return FRAME NODE RANK`
abbrev pub return_line : Return → List ℕ
return_line r = line_text (numbered (codes "return") (r.frame ∷ r.node ∷ r.rank ∷ []))

-- `probe NODE COUNT`, for a count above 0
abbrev pub probe_line : ℕ → ℕ → List ℕ
probe_line v count = if count == 0 then [] else line_text (numbered (codes "probe") (v ∷ count ∷ []))

abbrev pub node_probes : ℕ × ℕ → List ℕ
node_probes c = probe_line c.0 c.1

-- the returns in their order, in how many frames each node probed, by its id, and the report of the run
abbrev pub return_report : List Return → List (ℕ × ℕ) → List Delivery → List DropLine → ScenarioParts → (ℕ → ℕ → ℕ) → List Entry → List ℕ
return_report returns counts made lost s clocks air =
    flat_map return_line returns ++ flat_map node_probes counts ++ run_report made lost s clocks air
