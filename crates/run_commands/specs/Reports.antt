-- The report of each command, and the log that comes with it.
use Rattle.std.specs.Prelude.{◌≡◌, ℕ, List, [], Ok}
use Rattle.scenario_text.specs.FloodParts.{FloodParts}
use Rattle.scenario_text.specs.ScenarioParts.{ScenarioParts}
use Rattle.scenario_text.specs.FloodGrammar.{flood_of}
use Rattle.scenario_text.specs.ScenarioGrammar.{IsScenario, scenario_of}
use Rattle.scenario_maker.specs.Made.{made}
use Rattle.deadline_plan.specs.Admission.{PlanOfDeadlines}
use Rattle.deadline_plan.specs.DeadlineText.{plan_of}
use Rattle.scenario_clocks.specs.StatedClocks.{stated_clock, scenario_clock}
use Rattle.bus_terms.specs.FloodOfText.{outcome}
use Rattle.air_log.specs.declared.entry.Entry.{Entry}
use Rattle.air_log.specs.FloodLaw.{FloodLaw}
use Rattle.bus_time.specs.StampErrors.{AllErrLittle}
use Rattle.bus_time.specs.Stamps.{AreStamps}
use Rattle.bus_time.specs.declared.stamp.Stamp.{Stamp}
use Rattle.host_return.specs.AfterReturns.{AllProbed, AllQuiet}
use Rattle.host_return.specs.Returned.{IsReturned, ReturnedParts}
use Rattle.run_commands.specs.FloodReport.{flood_report}
use Rattle.run_report.specs.RunReport.{log_report, run_report}
use Rattle.run_report.specs.RunsTold.{IsOfRun}
use Rattle.bus_report.specs.BusReport.{bus_report}
use Rattle.run_commands.specs.Summary.{summary}
use Rattle.air_check.specs.CheckedText.{checked_text}
use Rattle.run_commands.specs.CheckReport.{IsCheckReport}
use Rattle.run_commands.specs.DeadlineReport.{IsDeadlineReport}
use Rattle.run_commands.specs.ReturnReport.{return_report}
use Rattle.run_commands.specs.TimesReport.{stamp_report}
use Rattle.run_commands.specs.declared.command.Command.{Command}
use Rattle.run_commands.specs.declared.command.Command.TheVariants.{Flood, Run, Log, Bus, Demo, Check, Deadlines, Times, Return}

-- the bytes are a text of a scenario of which this holds
abbrev pub OfScenario : List ℕ → (ScenarioParts → Type 0) → Type 0
OfScenario b P = (s : ScenarioParts) × (scenario_of b ≡ Ok s) × P s

-- the report of a flood, and a log of it over the clocks that it states
pub record IsFloodReport (f : FloodParts) (air : List Entry) (text : List ℕ) : Type 0 where
  pub is : text ≡ flood_report (outcome f)
  pub law : FloodLaw f (stated_clock f) air

-- a run that is given by its stamps, which err little
pub record IsTimesReport (s : ScenarioParts) (air : List Entry) (text : List ℕ) : Type 0 where
  pub stamps : List Stamp
  pub are : AreStamps s (scenario_clock s) air stamps
  pub errors : AllErrLittle s (scenario_clock s) air stamps
  pub of_run : IsOfRun (stamp_report stamps) s air text

-- The run of a scenario to which the returns of its backup hosts were added. In it each of them has received a schedule as it
-- probed, and after it nobody initiates data by the old plan for longer than 3 frames
pub record IsReturnReport (s : ScenarioParts) (air : List Entry) (text : List ℕ) : Type 0 where
  pub returned : ReturnedParts
  pub is : IsReturned s returned
  pub said : IsScenario returned.scenario
  pub log : air ≡ returned.air
  pub of_run : IsOfRun (return_report returned.returns returned.counts) returned.scenario air text
  pub probed : AllProbed returned
  pub quiet : AllQuiet returned

abbrev pub IsReport : Command → List ℕ → List Entry → List ℕ → Type 0
IsReport Flood b air text = (f : FloodParts) × (flood_of b ≡ Ok f) × IsFloodReport f air text
IsReport Run b air text = OfScenario b (λ s. IsOfRun run_report s air text)
IsReport Log b air text = OfScenario b (λ s. IsOfRun log_report s air text)
IsReport Bus b air text = OfScenario b (λ s. (air ≡ []) × (text ≡ bus_report s))
IsReport (Demo seed nodes frames) b air text = IsOfRun summary (made seed nodes frames) air text
IsReport Check b air text = (s : ScenarioParts) × (log : List Entry) × (checked_text b ≡ Ok (s, log)) × (air ≡ []) × IsCheckReport s log text
IsReport Deadlines b air text = (p : PlanOfDeadlines) × (plan_of b ≡ Ok p) × (air ≡ []) × IsDeadlineReport p text
IsReport Times b air text = OfScenario b (λ s. IsTimesReport s air text)
IsReport Return b air text = OfScenario b (λ s. IsReturnReport s air text)
