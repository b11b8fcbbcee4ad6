-- What a network text says, by its parts.
use Rattle.std.proofs.Common.{◌≡◌, ℕ, ◌+◌, List, [], Some, None, Option, Ok, Err, Result, drop, codes, sym, ap, ◌∙◌, subst, arith}
use Rattle.std.specs.Str.Lines.{lines}
use Rattle.text_readers.specs.Divisions.{HasBelow, IsDivided, count_above}
use Rattle.text_readers.specs.Faults.{IsAsDefined, ◌>>=◌}
use Rattle.text_readers.specs.declared.fault.FaultKind.{FaultKind}
use Rattle.text_readers.specs.declared.fault.ParseFault.{ParseFault}
use Rattle.text_readers.specs.declared.fault.ParseFault.TheVariants.{Line, Memory}
use Rattle.scenario_text.specs.ScenarioGrammar.{long_limits, long_scenario_of, scenario_of_lines}
use Rattle.scenario_text.specs.ScenarioParts.{ScenarioParts}
use Rattle.drawn_links.specs.declared.ratio_line.RatioLine.{RatioLine}
use Rattle.network_text.specs.NetworkGrammar.{network_of, ratios_below, ratios_of, ratios_of_lines}

-- a fault of a part is one of the whole
err_goes_on : {A B : Type 0} (e : ParseFault) (r : Result A (ℕ × FaultKind)) (f : A → Result B (ℕ × FaultKind)) → IsAsDefined {A = A} (Err e) r
    → IsAsDefined {A = B} (Err e) (r >>= f)
err_goes_on {A} (Line n k) r f is = ap (λ (x : Result A (ℕ × FaultKind)). x >>= f) is
err_goes_on Memory r f is = tt

abbrev Network : Type 0
Network = ScenarioParts × List RatioLine

abbrev with_ratios : ScenarioParts → List RatioLine → Result Network (ℕ × FaultKind)
with_ratios s ratios = Ok (s, ratios)

module _ (bytes above : List ℕ) (count : ℕ) (below : Option (List ℕ)) (divided : IsDivided (codes "ratios") bytes above count below) where
  abbrev number : ℕ
  number = count_above (codes "ratios") (lines bytes)

  abbrev rest : List (List ℕ)
  rest = drop number (lines bytes)

  abbrev by_ratios : ScenarioParts → Result Network (ℕ × FaultKind)
  by_ratios s = ratios_below s number rest >>= with_ratios s

  whole : network_of bytes ≡ (long_scenario_of above >>= by_ratios)
  whole = ap (λ (ls : List (List ℕ)). scenario_of_lines long_limits ls >>= by_ratios) (sym divided.lines_above)

  pub scenario_fault : (e : ParseFault) → IsAsDefined {A = ScenarioParts} (Err e) (long_scenario_of above)
      → IsAsDefined {A = Network} (Err e) (network_of bytes)
  scenario_fault e is =
      subst (λ (r : Result Network (ℕ × FaultKind)). IsAsDefined {A = Network} (Err e) r) (sym whole) (err_goes_on e (long_scenario_of above) by_ratios is)

  module _ (s : ScenarioParts) (said : long_scenario_of above ≡ Ok s) where
    of_scenario : network_of bytes ≡ by_ratios s
    of_scenario = whole ∙ ap (λ (r : Result ScenarioParts (ℕ × FaultKind)). r >>= by_ratios) said

    -- without a line `ratios`
    pub without : below ≡ None → network_of bytes ≡ Ok (s, [])
    without none =
        let no_lines : rest ≡ [] = subst (λ (o : Option (List ℕ)). HasBelow o rest) none divided.lines_below in
        of_scenario ∙ ap (λ (ls : List (List ℕ)). ratios_below s number ls >>= with_ratios s) no_lines

    module _ (b : List ℕ) (some : below ≡ Some b) where
      ratios_are : ratios_below s number rest ≡ ratios_of s (count + 1) b
      ratios_are =
          let has = subst (λ (o : Option (List ℕ)). HasBelow o rest) some divided.lines_below in
          let same : number + 2 ≡ count + 1 + 1 = omega (arith, divided.counted) in
          ap (ratios_below s number) has.1 ∙ ap (λ (n : ℕ). ratios_of_lines s n (lines b)) same

      of_ratios : network_of bytes ≡ (ratios_of s (count + 1) b >>= with_ratios s)
      of_ratios = of_scenario ∙ ap (λ (r : Result (List RatioLine) (ℕ × FaultKind)). r >>= with_ratios s) ratios_are

      pub ratio_fault : (e : ParseFault) → IsAsDefined {A = List RatioLine} (Err e) (ratios_of s (count + 1) b)
          → IsAsDefined {A = Network} (Err e) (network_of bytes)
      ratio_fault e is =
          subst (λ (r : Result Network (ℕ × FaultKind)). IsAsDefined {A = Network} (Err e) r) (sym of_ratios)
          (err_goes_on e (ratios_of s (count + 1) b) (with_ratios s) is)

      pub read : (ratios : List RatioLine) → ratios_of s (count + 1) b ≡ Ok ratios → network_of bytes ≡ Ok (s, ratios)
      read ratios is = of_ratios ∙ ap (λ (r : Result (List RatioLine) (ℕ × FaultKind)). r >>= with_ratios s) is
