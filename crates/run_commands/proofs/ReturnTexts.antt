-- A report is written part by part.
use Rattle.std.proofs.Common.{◌≡◌, ℕ, List, [], ◌++◌, flat_map, refl, ◌∙◌, ap}
use Rattle.std.proofs.lemmas.List.{append_assoc}
use Rattle.bus_terms.specs.Bus.{bus_deliveries, bus_drops}
use Rattle.bus_rules.specs.declared.delivery.Delivery.{Delivery}
use Rattle.bus_rules.specs.declared.delivery.DropLine.{DropLine}
use Rattle.scenario_text.specs.ScenarioParts.{ScenarioParts}
use Rattle.scenario_clocks.specs.StatedClocks.{scenario_clock}
use Rattle.air_log.specs.declared.entry.Entry.{Entry}
use Rattle.host_return.specs.Returned.{ReturnedParts}
use Rattle.host_return.specs.declared.returned.Return.{Return as HostReturn}
use Rattle.run_commands.specs.ReturnReport.{node_probes, return_line, return_report}
use Rattle.bus_report.specs.ReportLines.{report_lines}
use Rattle.run_report.specs.RunReport.{energy_lines}

joined : (t0 t1 t2 t3 t4 a b r e : List ℕ) → t0 ≡ [] → t1 ≡ t0 ++ a → t2 ≡ t1 ++ b → t3 ≡ t2 ++ r → t4 ≡ t3 ++ e → t4 ≡ a ++ b ++ (r ++ e)
joined t0 t1 t2 t3 t4 a b r e none first second third fourth =
    fourth
    ∙ ap (λ (l : List ℕ). l ++ e) (third ∙ ap (λ (l : List ℕ). l ++ r) (second ∙ ap (λ (l : List ℕ). l ++ b) (first ∙ ap (λ (l : List ℕ). l ++ a) none)))
    ∙ append_assoc (a ++ b) r e

-- the returns, the counts, what is delivered and lost, and the energy lines
pub written : (x : ReturnedParts) (s : ScenarioParts) (rs : List HostReturn) (ds : List Delivery) (ls : List DropLine) (air : List Entry)
    (t0 t1 t2 t3 t4 : List ℕ) → s ≡ x.scenario → rs ≡ x.returns → ds ≡ bus_deliveries s → ls ≡ bus_drops s → air ≡ x.air → t0 ≡ []
    → t1 ≡ t0 ++ flat_map return_line rs → t2 ≡ t1 ++ flat_map node_probes x.counts → t3 ≡ t2 ++ report_lines ds ls
    → t4 ≡ t3 ++ energy_lines s (scenario_clock s) air
    → t4 ≡ return_report x.returns x.counts (bus_deliveries x.scenario) (bus_drops x.scenario) x.scenario (scenario_clock x.scenario) x.air
written x s rs ds ls air t0 t1 t2 t3 t4 is_s is_r is_d is_l is_a none first second third fourth =
    joined t0 t1 t2 t3 t4 (flat_map return_line rs) (flat_map node_probes x.counts) (report_lines ds ls) (energy_lines s (scenario_clock s) air)
    none first second third fourth
    ∙ ap (λ (l : List HostReturn).
    flat_map return_line l ++ flat_map node_probes x.counts ++ (report_lines ds ls ++ energy_lines s (scenario_clock s) air)) is_r
    ∙ ap (λ (l : List Delivery).
    flat_map return_line x.returns ++ flat_map node_probes x.counts ++ (report_lines l ls ++ energy_lines s (scenario_clock s) air)) is_d
    ∙ ap (λ (l : List DropLine). flat_map return_line x.returns ++ flat_map node_probes x.counts ++ (report_lines (bus_deliveries s) l
    ++ energy_lines s (scenario_clock s) air)) is_l
    ∙ ap (λ (l : List Entry). return_report x.returns x.counts (bus_deliveries s) (bus_drops s) s (scenario_clock s) l) is_a
    ∙ ap (λ (u : ScenarioParts). return_report x.returns x.counts (bus_deliveries u) (bus_drops u) u (scenario_clock u) x.air) is_s
