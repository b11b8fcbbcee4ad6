-- The report on a log, by its verdict.
use Rattle.std.proofs.Common.{◌≡◌, ℕ, List, subst}
use Rattle.scenario_text.specs.ScenarioGrammar.{IsScenario}
use Rattle.scenario_text.specs.ScenarioParts.{ScenarioParts}
use Rattle.scenario_text.proofs.SoundScenarios.{sound}
use Rattle.scenario_clocks.specs.StatedClocks.{scenario_clock}
use Rattle.scenario_clocks.proofs.StatedDrift.{scenario_clocks_drift}
use Rattle.air_log.specs.declared.entry.Entry.{Entry}
use Rattle.air_check.specs.Verdicts.{IsVerdict}
use Rattle.air_check.specs.declared.verdict.Verdict.{Verdict}
use Rattle.air_check.specs.declared.verdict.Verdict.TheVariants.{Lawful}
use Rattle.air_check.proofs.OneVerdict.{one_verdict}
use Rattle.law_bus.proofs.BusRuns.{bus_run}
use Rattle.run_commands.specs.CheckReport.{IsCheckReport, verdict_line}

pub check_report : (s : ScenarioParts) → IsScenario s → (log : List Entry) (verdict : Verdict) → IsVerdict s (scenario_clock s) log verdict
    → (text : List ℕ) → text ≡ verdict_line verdict → IsCheckReport s log text
check_report s said log verdict judged text is = record {
  verdict = verdict;
  judged = judged;
  is = is;
  exactly = λ lawful. one_verdict s (scenario_clock s) log verdict Lawful judged lawful;
  bus = λ same.
      bus_run s (scenario_clock s) log (record {
        sound = sound s said;
        drift = scenario_clocks_drift s said;
        lawful = subst (IsVerdict s (scenario_clock s) log) same judged;
      });
}
