-- What a text that is divided says, by its parts.
use Rattle.std.proofs.Common.{◌≡◌, ℕ, ◌+◌, List, [], Some, None, Option, Ok, Err, Result, codes, drop, sym, ap, ◌∙◌, subst, arith}
use Rattle.std.specs.Str.Lines.{lines}
use Rattle.scenario_text.specs.ScenarioGrammar.{run_limits, scenario_of, scenario_of_lines}
use Rattle.scenario_text.specs.ScenarioParts.{ScenarioParts}
use Rattle.text_readers.specs.Divisions.{count_above, HasBelow, IsDivided}
use Rattle.text_readers.specs.Faults.{IsAsDefined, draft_after_lines, ◌>>=◌}
use Rattle.text_readers.specs.declared.fault.FaultKind.{FaultKind}
use Rattle.text_readers.specs.declared.fault.FaultKind.TheVariants.{Missing}
use Rattle.text_readers.specs.declared.fault.ParseFault.{ParseFault}
use Rattle.text_readers.specs.declared.fault.ParseFault.TheVariants.{Line, Memory}
use Rattle.air_log.specs.declared.entry.Entry.{Entry}
use Rattle.air_check.specs.CheckedText.{checked_text, log_in}
use Rattle.air_check.specs.LogGrammar.{after_log_line, log_of}

-- a fault of the first part is one of the whole
err_goes_on : {A B : Type 0} (e : ParseFault) (r : Result A (ℕ × FaultKind)) (f : A → Result B (ℕ × FaultKind)) → IsAsDefined {A = A} (Err e) r
    → IsAsDefined {A = B} (Err e) (r >>= f)
err_goes_on {A} (Line n k) r f is = ap (λ (x : Result A (ℕ × FaultKind)). x >>= f) is
err_goes_on Memory r f is = tt

abbrev Checked : Type 0
Checked = ScenarioParts × List Entry

abbrev with_log : ScenarioParts → List Entry → Result Checked (ℕ × FaultKind)
with_log s air = Ok (s, air)

module _ (bytes above : List ℕ) (count : ℕ) (below : Option (List ℕ)) (divided : IsDivided (codes "log") bytes above count below) where
  -- how many lines are above the line `log`
  abbrev lines_above : ℕ
  lines_above = count_above (codes "log") (lines bytes)

  abbrev rest : List (List ℕ)
  rest = drop lines_above (lines bytes)

  abbrev by_log : ScenarioParts → Result Checked (ℕ × FaultKind)
  by_log s = log_in s lines_above rest >>= with_log s

  whole : checked_text bytes ≡ (scenario_of above >>= by_log)
  whole = ap (λ (ls : List (List ℕ)). scenario_of_lines run_limits ls >>= by_log) (sym divided.lines_above)

  pub scenario_fault : (e : ParseFault) → IsAsDefined {A = ScenarioParts} (Err e) (scenario_of above) → IsAsDefined {A = Checked} (Err e) (checked_text bytes)
  scenario_fault e is =
      subst (λ (r : Result Checked (ℕ × FaultKind)). IsAsDefined {A = Checked} (Err e) r) (sym whole) (err_goes_on e (scenario_of above) by_log is)

  module _ (s : ScenarioParts) (said : scenario_of above ≡ Ok s) where
    of_scenario : checked_text bytes ≡ by_log s
    of_scenario = whole ∙ ap (λ (r : Result ScenarioParts (ℕ × FaultKind)). r >>= by_log) said

    pub missing : below ≡ None → checked_text bytes ≡ Err (count + 1, Missing)
    missing none =
        let no_lines : rest ≡ [] = subst (λ (o : Option (List ℕ)). HasBelow o rest) none divided.lines_below in
        of_scenario ∙ ap (λ (ls : List (List ℕ)). log_in s lines_above ls >>= with_log s) no_lines
        ∙ ap (λ (n : ℕ). Err (n + 1, Missing)) (sym divided.counted)

    module _ (b : List ℕ) (some : below ≡ Some b) where
      log_is : log_in s lines_above rest ≡ log_of s (count + 1) b
      log_is =
          let has = subst (λ (o : Option (List ℕ)). HasBelow o rest) some divided.lines_below in
          let number : lines_above + 2 ≡ count + 1 + 1 = omega (arith, divided.counted) in
          ap (log_in s lines_above) has.1
          ∙ ap (λ (n : ℕ). draft_after_lines (after_log_line s.nodes) n [] (lines b)) number

      of_log : checked_text bytes ≡ (log_of s (count + 1) b >>= with_log s)
      of_log = of_scenario ∙ ap (λ (r : Result (List Entry) (ℕ × FaultKind)). r >>= with_log s) log_is

      pub log_fault : (e : ParseFault) → IsAsDefined {A = List Entry} (Err e) (log_of s (count + 1) b) → IsAsDefined {A = Checked} (Err e) (checked_text bytes)
      log_fault e is =
          subst (λ (r : Result Checked (ℕ × FaultKind)). IsAsDefined {A = Checked} (Err e) r) (sym of_log)
          (err_goes_on e (log_of s (count + 1) b) (with_log s) is)

      pub read : (air : List Entry) → log_of s (count + 1) b ≡ Ok air → checked_text bytes ≡ Ok (s, air)
      read air is = of_log ∙ ap (λ (r : Result (List Entry) (ℕ × FaultKind)). r >>= with_log s) is
