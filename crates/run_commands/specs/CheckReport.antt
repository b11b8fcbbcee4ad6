-- The report on a recorded log: its verdict, and what follows where the log is valid.
use Rattle.std.specs.Prelude.{◌≡◌, ℕ, List, [], ◌∷◌, codes}
use Rattle.scenario_text.specs.ScenarioParts.{ScenarioParts}
use Rattle.scenario_clocks.specs.StatedClocks.{scenario_clock}
use Rattle.text_writers.specs.Lines.{line_text, numbered}
use Rattle.air_log.specs.declared.entry.Entry.{Entry}
use Rattle.air_log.specs.Lawful.{Lawful as LawfulLog}
use Rattle.air_check.specs.Verdicts.{IsVerdict}
use Rattle.air_check.specs.declared.verdict.Verdict.{Verdict}
use Rattle.air_check.specs.declared.verdict.Verdict.TheVariants.{Lawful, Trail, Heard, Missing}
use Rattle.law_bus.specs.BusRuns.{AgreesWithBus}

-- `lawful`, `no trail V`, `no heard I`, or `no missing V U T`
abbrev pub verdict_line : Verdict → List ℕ
verdict_line Lawful = line_text (codes "lawful" ∷ [])
verdict_line (Trail v) = line_text (numbered (codes "no trail") (v ∷ []))
verdict_line (Heard i) = line_text (numbered (codes "no heard") (i ∷ []))
verdict_line (Missing v u t) = line_text (numbered (codes "no missing") (v ∷ u ∷ t ∷ []))

-- All is over the clocks that the scenario states. A log that is called lawful is safe, and what its trails deliver and lose is
-- the ideal single-hop bus's
pub record IsCheckReport (s : ScenarioParts) (log : List Entry) (text : List ℕ) : Type 0 where
  pub verdict : Verdict
  pub judged : IsVerdict s (scenario_clock s) log verdict
  pub is : text ≡ verdict_line verdict
  pub exactly : LawfulLog s (scenario_clock s) log → verdict ≡ Lawful
  pub bus : verdict ≡ Lawful → AgreesWithBus s (scenario_clock s) log
