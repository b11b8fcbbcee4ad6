-- The report of each command.
use Rattle.std.specs.Prelude.{◌≡◌, ◌++◌, ℕ, List, Ok, All}
use Rattle.scenario_text.specs.ScenarioParts.{ScenarioParts}
use Rattle.air_log.specs.declared.entry.Entry.{Entry}
use Rattle.bound_report.specs.BoundLines.{bounds_text}
use Rattle.bus_bounds.specs.BoundFindings.{findings_of}
use Rattle.bus_bounds.specs.JoinFindings.{join_findings}
use Rattle.bus_bounds.specs.KeptBounds.{AreKept, AreKeptBy, IsOpen}
use Rattle.bus_report.specs.BusReport.{bus_report}
use Rattle.drawn_bus.specs.DrawnScenarios.{drawn_scenario}
use Rattle.fate_report.specs.FateLines.{fates_text}
use Rattle.drawn_links.specs.declared.ratio_line.RatioLine.{RatioLine}
use Rattle.network_text.specs.NetworkGrammar.{network_of}
use Rattle.run_report.specs.RunReport.{log_report, run_report}
use Rattle.run_report.specs.RunsTold.{IsOfRun, Telling}
use Rattle.plan_commands.specs.DrawnTexts.{IsDrawnText}
use Rattle.plan_commands.specs.SeedTexts.{seeds_text}
use Rattle.plan_commands.specs.declared.command.Command.{Command}
use Rattle.plan_commands.specs.declared.command.Command.TheVariants.{Bounds, Draw, Fates, Log, Outcome, Run, Sample}

-- the bytes are a text of a scenario with reception ratios, of which this holds
abbrev pub OfNetwork : List ℕ → (ScenarioParts → List RatioLine → Type 0) → Type 0
OfNetwork b P = (s : ScenarioParts) × (ratios : List RatioLine) × (network_of b ≡ Ok (s, ratios)) × P s ratios

-- the text tells of a run of this scenario in true time, by a log of it, over the clocks that it states
abbrev pub TellsOfRun : Telling → ScenarioParts → List ℕ → Type 0
TellsOfRun told s text = (air : List Entry) × IsOfRun told s air text

-- a line for each bound of the scenario that the bytes are a text of. What holds is so on the bus with the losses of each seed: of hosts
-- by whatever ratios, and of the nodes that join by those of the text. Of what is open the premise that is named fails
pub record IsBoundsText (b : List ℕ) (s : ScenarioParts) (ratios : List RatioLine) (text : List ℕ) : Type 0 where
  pub spelled : text ≡ bounds_text b s ratios
  pub kept : AreKept s (findings_of s)
  pub kept_by : AreKeptBy s ratios (join_findings s ratios)
  pub unmet : All (IsOpen s ratios) (findings_of s ++ join_findings s ratios)

abbrev pub IsReport : Command → List ℕ → List ℕ → Type 0
IsReport (Draw seed) b text = OfNetwork b (λ s ratios. IsDrawnText s ratios seed text)
IsReport (Outcome seed) b text = OfNetwork b (λ s ratios. text ≡ bus_report (drawn_scenario s ratios seed))
IsReport (Fates seed) b text = OfNetwork b (λ s ratios. text ≡ fates_text (drawn_scenario s ratios seed))
IsReport (Run seed) b text = OfNetwork b (λ s ratios. TellsOfRun run_report (drawn_scenario s ratios seed) text)
IsReport (Log seed) b text = OfNetwork b (λ s ratios. TellsOfRun log_report (drawn_scenario s ratios seed) text)
IsReport (Sample from count) b text = OfNetwork b (λ s ratios. text ≡ seeds_text s ratios from count)
IsReport Bounds b text = OfNetwork b (λ s ratios. IsBoundsText b s ratios text)
