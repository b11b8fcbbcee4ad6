-- A text that tells of a run tells the same by any two valid logs of it.
use Rattle.std.proofs.Common.{◌≡◌, ℕ, List, ◌++◌, true, flat_map, sym, ◌∙◌, ap}
use Rattle.std.specs.Prelude.{IsPermutation}
use Rattle.std.proofs.Math.Path.{fun_ext}
use Rattle.tick_clock.specs.Clocks.{IsClock}
use Rattle.scenario_text.specs.FloodParts.{knows}
use Rattle.scenario_text.specs.ScenarioFacts.{IsSoundScenario}
use Rattle.scenario_text.specs.ScenarioParts.{ScenarioParts}
use Rattle.scenario_text.specs.declared.lines.NodeLine.{NodeLine}
use Rattle.scenario_clocks.specs.StatedClocks.{scenario_clock}
use Rattle.bus_terms.specs.Bus.{bus_deliveries, bus_drops}
use Rattle.bus_report.specs.ReportLines.{report_lines}
use Rattle.air_log.specs.declared.entry.Entry.{Entry}
use Rattle.air_log.specs.Lawful.{Lawful}
use Rattle.air_log.specs.LogText.{log_text}
use Rattle.law_terms.specs.LawfulRuns.{IsLawfulRun}
use Rattle.law_one_log.specs.OneLog.{OneCostLaw, OneLogLaw, OneTextLaw}
use Rattle.run_report.specs.RunReport.{run_report, log_report, node_energy, energy_line}
use Rattle.run_report.specs.RunsTold.{IsOfRun, Telling}

-- the laws that this uses
pub record RunLaws : Type 0 where
  pub log : OneLogLaw
  pub text : OneTextLaw
  pub cost : OneCostLaw

-- a sound scenario, and the clocks that it states keep the drift law
pub record IsTimed (s : ScenarioParts) : Type 0 where
  pub sound : IsSoundScenario s
  pub drift : (v : ℕ) → knows s.nodes v ≡ true → IsClock (scenario_clock s v)

module _ (s : ScenarioParts) where
  pub lawful_run : IsTimed s → (air : List Entry) → Lawful s (scenario_clock s) air → IsLawfulRun s (scenario_clock s) air
  lawful_run timed air lawful = record { sound = timed.sound; drift = timed.drift; lawful = lawful }

  -- a telling tells the same by any two valid logs
  abbrev pub IsToldAlike : Telling → Type 0
  IsToldAlike told =
      (a b : List Entry) → IsLawfulRun s (scenario_clock s) a → IsLawfulRun s (scenario_clock s) b
      → told (bus_deliveries s) (bus_drops s) s (scenario_clock s) a ≡ told (bus_deliveries s) (bus_drops s) s (scenario_clock s) b

module _ (laws : RunLaws) (s : ScenarioParts) where
  energies : (a b : List Entry) → IsLawfulRun s (scenario_clock s) a → IsLawfulRun s (scenario_clock s) b
      → node_energy s (scenario_clock s) a ≡ node_energy s (scenario_clock s) b
  energies a b of_a of_b = fun_ext (λ n. ap (energy_line n.node) (laws.cost s (scenario_clock s) a b of_a of_b n.node))

  pub run_alike : IsToldAlike s run_report
  run_alike a b of_a of_b =
      ap (λ (line : NodeLine → List ℕ). report_lines (bus_deliveries s) (bus_drops s) ++ flat_map line s.nodes) (energies a b of_a of_b)

  pub log_alike : IsToldAlike s log_report
  log_alike a b of_a of_b =
      ap (λ (l : List ℕ). l ++ log_text a) (run_alike a b of_a of_b)
      ∙ ap (λ (l : List ℕ). run_report (bus_deliveries s) (bus_drops s) s (scenario_clock s) b ++ l) (laws.text s (scenario_clock s) a b of_a of_b)

  pub one_run : IsTimed s → (told : Telling) → IsToldAlike s told → (a b : List Entry) (text other : List ℕ) → IsOfRun told s a text
      → IsOfRun told s b other → (text ≡ other) × IsPermutation a b
  one_run timed told alike a b text other is also =
      let of_a = lawful_run s timed a is.law in
      let of_b = lawful_run s timed b also.law in
      (is.is ∙ alike a b of_a of_b ∙ sym also.is, laws.log s (scenario_clock s) a b of_a of_b)
