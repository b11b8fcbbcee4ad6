-- Two reports of one command and one input are the same.
use Rattle.std.proofs.Common.{◌≡◌, ℕ, ◌≤◌, List, [], ◌++◌, true, Ok, Result, codes, flat_map, sum_by, length, sym, ◌∙◌, ap, subst}
use Rattle.std.specs.Prelude.{IsPermutation}
use Rattle.std.proofs.lemmas.List.Sorted.{IsPermutation-refl, sum_by-IsPermutation}
use Rattle.scenario_text.specs.FloodParts.{FloodParts, IsSound, knows}
use Rattle.scenario_text.specs.ScenarioFacts.{IsSoundScenario}
use Rattle.scenario_text.specs.ScenarioGrammar.{IsScenario}
use Rattle.scenario_text.specs.ScenarioParts.{ScenarioParts}
use Rattle.scenario_text.specs.Canonical.{canonical, IsSaid}
use Rattle.scenario_text.proofs.Horizons.{run_is_scenario}
use Rattle.scenario_clocks.specs.StatedClocks.{scenario_clock, stated_clock}
use Rattle.tick_clock.specs.Clocks.{IsClock}
use Rattle.scenario_maker.specs.Made.{made, IsSize}
use Rattle.deadline_plan.specs.Admission.{PlanOfDeadlines}
use Rattle.bus_terms.specs.Bus.{bus_deliveries, bus_drops}
use Rattle.lwb_flood.specs.FloodLog.{HasClocks}
use Rattle.air_log.specs.declared.entry.Entry.{Entry}
use Rattle.run_report.specs.RunsTold.{IsOfRun, Telling}
use Rattle.run_commands.specs.Reports.{IsFloodReport, IsReturnReport, IsTimesReport, OfScenario}
use Rattle.run_report.specs.RunReport.{run_report, log_report}
use Rattle.run_commands.specs.Summary.{summary, number_line, sent_ticks, on_ticks}
use Rattle.bus_report.specs.BusReport.{bus_report}
use Rattle.run_commands.specs.CheckReport.{IsCheckReport, verdict_line}
use Rattle.run_commands.specs.DeadlineReport.{IsDeadlineReport}
use Rattle.run_commands.specs.ReturnReport.{node_probes, return_line, return_report}
use Rattle.run_commands.specs.TimesReport.{stamp_line}
use Rattle.run_commands.specs.declared.command.Command.TheVariants.{Flood, Run, Log, Bus, Demo, Check, Deadlines, Times, Return}
use Rattle.host_return.specs.OneReturned.{OneReturnedLaw}
use Rattle.host_return.specs.declared.returned.Return.{Return as HostReturn}
use Rattle.bus_time.specs.StampLaws.{OneListLaw}
use Rattle.bus_time.specs.declared.stamp.Stamp.{Stamp}
use Rattle.air_check.specs.CheckedText.{checked_text}
use Rattle.air_check.specs.Verdicts.{IsVerdict}
use Rattle.air_check.specs.declared.verdict.Verdict.{Verdict}
use Rattle.law_one_log.specs.OneLog.{OneFloodLogLaw}
use Rattle.law_one_report.specs.OneReport.{OneReportLaw}
use Rattle.law_one_report.proofs.FloodTexts.{flood_is_whole}
use Rattle.law_one_report.proofs.SameDecisions.{one_plan_report}
use Rattle.law_one_report.proofs.SameRuns.{IsTimed, IsToldAlike, RunLaws, lawful_run, log_alike, one_run, run_alike}

-- the laws that this uses
pub record Laws : Type 0 where
  pub runs : RunLaws
  pub flood : OneFloodLogLaw
  pub clocks : (f : FloodParts) → IsSound f → (1 ≤ f.start) × (f.start ≤ 200) → HasClocks f (stated_clock f)
  pub drift : (s : ScenarioParts) → IsScenario s → (v : ℕ) → knows s.nodes v ≡ true → IsClock (scenario_clock s v)
  pub said : (seed n frames : ℕ) → IsSize n frames → IsSaid (made seed n frames)
  pub sound : (s : ScenarioParts) → IsScenario s → IsSoundScenario s
  pub stamps : OneListLaw
  pub returned : OneReturnedLaw
  pub verdict : (s : ScenarioParts) (clocks : ℕ → ℕ → ℕ) (air : List Entry) (a b : Verdict) → IsVerdict s clocks air a → IsVerdict s clocks air b → a ≡ b

-- what a text says, it says alone
pub one_said : {X E : Type 0} (r : Result X E) (x y : X) → r ≡ Ok x → r ≡ Ok y → x ≡ y
one_said r x y is also = cc

-- a scenario that some text says
timed : (laws : Laws) (s : ScenarioParts) → IsScenario s → IsTimed s
timed laws s said = record { sound = laws.sound s said; drift = laws.drift s said }

module _ (laws : Laws) (s : ScenarioParts) (said : IsScenario s) where
  -- the summary of these ticks of transmission and listening
  abbrev sums : ℕ → ℕ → List ℕ
  sums sent on =
      number_line (codes "deliveries") (length (bus_deliveries s)) ++ number_line (codes "drops") (length (bus_drops s))
      ++ number_line (codes "sent") sent ++ number_line (codes "on") on

  sums_alike : IsToldAlike s summary
  sums_alike a b of_a of_b =
      let moved = laws.runs.log s (scenario_clock s) a b of_a of_b in
      ap (λ (n : ℕ). sums n (sum_by on_ticks a)) (sym (sum_by-IsPermutation sent_ticks a b moved))
      ∙ ap (sums (sum_by sent_ticks b)) (sym (sum_by-IsPermutation on_ticks a b moved))

  -- two valid logs have one list of stamps
  one_times : (a b : List Entry) (text other : List ℕ) → IsTimesReport s a text → IsTimesReport s b other → (text ≡ other) × IsPermutation a b
  one_times a b text other is also =
      let here = timed laws s said in
      let moved = laws.runs.log s (scenario_clock s) a b (lawful_run s here a is.of_run.law) (lawful_run s here b also.of_run.law) in
      let same : is.stamps ≡ also.stamps =
      laws.stamps s (scenario_clock s) a b (record { sound = here.sound; drift = here.drift }) is.of_run.law also.of_run.law moved
      is.stamps also.stamps is.are also.are in
      (is.of_run.is ∙ ap (λ (ms : List Stamp). flat_map stamp_line ms) same ∙ sym also.of_run.is, moved)

-- two runs of a scenario go back in the same frames, and end in runs of one scenario
module _ (laws : Laws) (read : ScenarioParts) (said : IsScenario read) where
  one_return : (a b : List Entry) (text other : List ℕ) → IsReturnReport read a text → IsReturnReport read b other → (text ≡ other) × IsPermutation a b
  one_return a b text other is also =
      let x = is.returned in
      let y = also.returned in
      let same = laws.returned read x y said is.is also.is in
      let alike : IsToldAlike x.scenario (return_report x.returns x.counts) =
      λ m n of_m of_n. ap (λ (l : List ℕ). flat_map return_line x.returns ++ flat_map node_probes x.counts ++ l)
      (run_alike laws.runs x.scenario m n of_m of_n) in
      let scenario : IsOfRun (return_report y.returns y.counts) x.scenario b other =
      subst (λ (s : ScenarioParts). IsOfRun (return_report y.returns y.counts) s b other) (sym same.scenario) also.of_run in
      let returns : IsOfRun (return_report x.returns y.counts) x.scenario b other =
      subst (λ (rs : List HostReturn). IsOfRun (return_report rs y.counts) x.scenario b other) (sym same.returns) scenario in
      let counts : IsOfRun (return_report x.returns x.counts) x.scenario b other =
      subst (λ (cs : List (ℕ × ℕ)). IsOfRun (return_report x.returns cs) x.scenario b other) (sym same.counts) returns in
      one_run laws.runs x.scenario (timed laws x.scenario is.said) (return_report x.returns x.counts) alike a b text other is.of_run counts

-- a log has one verdict
one_check : Laws → (s : ScenarioParts) (log : List Entry) (text other : List ℕ) → IsCheckReport s log text → IsCheckReport s log other → text ≡ other
one_check laws s log text other is also =
    is.is ∙ ap verdict_line (laws.verdict s (scenario_clock s) log is.verdict also.verdict is.judged also.judged) ∙ sym also.is

-- of the scenario that the bytes say
module _ (laws : Laws) (bytes : List ℕ) (a b : List Entry) (text other : List ℕ) where
  of_scenario : (P : ScenarioParts → List Entry → List ℕ → Type 0)
      → ((s : ScenarioParts) → IsScenario s → P s a text → P s b other → (text ≡ other) × IsPermutation a b)
      → OfScenario bytes (λ s. P s a text) → OfScenario bytes (λ s. P s b other) → (text ≡ other) × IsPermutation a b
  of_scenario P alike is also =
      let here : P is.0 b other = subst (λ (s : ScenarioParts). P s b other) (one_said _ also.0 is.0 also.1 is.1) also.2 in
      alike is.0 (run_is_scenario bytes is.0 is.1) is.2 here

  of_run : (told : Telling) → ((s : ScenarioParts) → IsToldAlike s told)
      → OfScenario bytes (λ s. IsOfRun told s a text) → OfScenario bytes (λ s. IsOfRun told s b other) → (text ≡ other) × IsPermutation a b
  of_run told alike = of_scenario (IsOfRun told) (λ s said. one_run laws.runs s (timed laws s said) told (alike s) a b text other)

  -- no log comes with it
  no_logs : a ≡ [] → b ≡ [] → IsPermutation a b
  no_logs none none_too = subst (IsPermutation a) (none ∙ sym none_too) (IsPermutation-refl a)

pub one_report : Laws → OneReportLaw
one_report laws Flood asked bytes a b text other is also =
    let f = is.0 in
    let whole = flood_is_whole bytes f is.1 in
    let here : IsFloodReport f b other = subst (λ (g : FloodParts). IsFloodReport g b other) (one_said _ also.0 f also.1 is.1) also.2 in
    (is.2.is ∙ sym here.is, laws.flood f (stated_clock f) a b (laws.clocks f whole.0 (whole.1, whole.2)) is.2.law here.law)
one_report laws Run asked bytes a b text other is also =
    of_run laws bytes a b text other run_report (run_alike laws.runs) is also
one_report laws Log asked bytes a b text other is also =
    of_run laws bytes a b text other log_report (log_alike laws.runs) is also
one_report laws Bus asked bytes a b text other is also =
    (is.2.1 ∙ ap bus_report (one_said _ is.0 also.0 is.1 also.1) ∙ sym also.2.1, no_logs laws bytes a b text other is.2.0 also.2.0)
one_report laws (Demo seed nodes frames) asked bytes a b text other is also =
    let s = made seed nodes frames in
    let said : IsScenario s = (canonical s, laws.said seed nodes frames asked.1.2) in
    one_run laws.runs s (timed laws s said) summary (sums_alike laws s said) a b text other is also
one_report laws Check asked bytes a b text other is also =
    let same : (is.0, is.1) ≡ (also.0, also.1) = one_said (checked_text bytes) (is.0, is.1) (also.0, also.1) is.2 also.2 in (
      one_check laws is.0 is.1 text other is.4
          (subst (λ (t : ScenarioParts × List Entry). IsCheckReport t.0 t.1 other) (sym same) also.4),
      no_logs laws bytes a b text other is.3 also.3,
    )
one_report laws Deadlines asked bytes a b text other is also =
    let here = subst (λ (p : PlanOfDeadlines). IsDeadlineReport p other) (one_said _ also.0 is.0 also.1 is.1) also.3 in
    (one_plan_report is.0 text other is.3 here, no_logs laws bytes a b text other is.2 also.2)
one_report laws Times asked bytes a b text other is also =
    of_scenario laws bytes a b text other IsTimesReport (λ s said. one_times laws s said a b text other) is also
one_report laws Return asked bytes a b text other is also =
    of_scenario laws bytes a b text other IsReturnReport (λ s said. one_return laws s said a b text other) is also
