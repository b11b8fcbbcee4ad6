-- The scenario of a network is one that some text says.
use Rattle.std.proofs.Common.{◌≡◌, ℕ, List, Result, Ok, Err, IfOk, take, drop, codes, refl, ◌∙◌, ap, subst}
use Rattle.std.specs.Str.Lines.{lines}
use Rattle.text_readers.specs.Divisions.{count_above}
use Rattle.text_readers.specs.Faults.{◌>>=◌}
use Rattle.text_readers.specs.declared.fault.FaultKind.{FaultKind}
use Rattle.scenario_text.specs.ScenarioGrammar.{IsScenario, long_limits, scenario_of_lines}
use Rattle.scenario_text.specs.ScenarioParts.{ScenarioParts}
use Rattle.scenario_text.proofs.SaidParts.{lines_say}
use Rattle.drawn_links.specs.declared.ratio_line.RatioLine.{RatioLine}
use Rattle.network_text.specs.NetworkGrammar.{network_of, ratios_below}

module _ (bytes : List ℕ) (s : ScenarioParts) (ratios : List RatioLine) where
  abbrev ls : List (List ℕ)
  ls = lines bytes

  abbrev above : ℕ
  above = count_above (codes "ratios") ls

  abbrev with_ratios : ScenarioParts → List RatioLine → Result (ScenarioParts × List RatioLine) (ℕ × FaultKind)
  with_ratios x q = Ok (x, q)

  pub network_says : network_of bytes ≡ Ok (s, ratios) → IsScenario s
  network_says is = by_scenario (scenario_of_lines long_limits (take above ls)) refl is
    where
      by_scenario : (r : Result ScenarioParts (ℕ × FaultKind)) → scenario_of_lines long_limits (take above ls) ≡ r
          → (r >>= (λ x. ratios_below x above (drop above ls) >>= with_ratios x)) ≡ Ok (s, ratios) → IsScenario s
      by_scenario (Err k) read is = cc
      by_scenario (Ok x) read is = by_ratios (ratios_below x above (drop above ls)) is
        where
          by_ratios : (q : Result (List RatioLine) (ℕ × FaultKind)) → (q >>= with_ratios x) ≡ Ok (s, ratios) → IsScenario s
          by_ratios (Err k) is = cc
          by_ratios (Ok r) is =
              lines_say s (take above ls)
              (read ∙ ap Ok (subst (λ (q : Result (ScenarioParts × List RatioLine) (ℕ × FaultKind)). IfOk q (λ y. x ≡ y.0)) is refl))
