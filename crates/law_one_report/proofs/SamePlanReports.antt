-- Two reports of one command of a planner and one input are the same.
use Rattle.std.proofs.Common.{◌≡◌, ℕ, List, Ok, true, sym, ◌∙◌, ap, subst}
use Rattle.tick_clock.specs.Clocks.{IsClock}
use Rattle.link_trace.specs.Passes.{Lines}
use Rattle.link_trace.specs.declared.lines.CaptureLine.{CaptureLine}
use Rattle.link_trace.specs.declared.lines.CutLine.{CutLine}
use Rattle.link_trace.specs.declared.lines.LinkLine.{LinkLine}
use Rattle.link_trace.specs.declared.lines.LoseLine.{LoseLine}
use Rattle.scenario_text.specs.Canonical.{canonical}
use Rattle.scenario_text.specs.FloodParts.{knows}
use Rattle.scenario_text.specs.OverLines.{IsOverScenario, over}
use Rattle.scenario_text.specs.ScenarioGrammar.{IsScenario, scenario_of}
use Rattle.scenario_text.specs.ScenarioParts.{ScenarioParts}
use Rattle.scenario_text.proofs.EachPair.{pairs_climb}
use Rattle.scenario_text.proofs.Horizons.{run_is_scenario}
use Rattle.scenario_text.proofs.OrderedParts.{in_order_said}
use Rattle.scenario_text.proofs.SoundOver.{over_sound}
use Rattle.scenario_clocks.specs.StatedClocks.{scenario_clock}
use Rattle.bound_report.specs.BoundLines.{bounds_text}
use Rattle.run_report.specs.RunsTold.{Telling}
use Rattle.drawn_links.specs.declared.ratio_line.RatioLine.{RatioLine}
use Rattle.drawn_bus.specs.DrawnScenarios.{drawn_scenario}
use Rattle.drawn_bus.specs.KeptLosses.{kept_losses}
use Rattle.added_losses.specs.LossesAdded.{IsWithLosses}
use Rattle.network_text.specs.NetworkGrammar.{network_of}
use Rattle.plan_commands.specs.DrawnTexts.{IsDrawnText}
use Rattle.plan_commands.specs.Reports.{IsBoundsText, OfNetwork, TellsOfRun}
use Rattle.law_one_report.proofs.SameLosses.{Below, same_losses}
use Rattle.law_one_report.proofs.SameReports.{one_said}
use Rattle.law_one_report.proofs.SameRuns.{IsTimed, IsToldAlike, RunLaws, one_run}

same_lines : (t u : Lines) → t.links ≡ u.links → t.losses ≡ u.losses → t.cuts ≡ u.cuts → t.captures ≡ u.captures → t ≡ u
same_lines t u links losses cuts captures =
    ap (λ (ls : List LinkLine). record t { links = ls }) links
    ∙ ap (λ (ls : List LoseLine). record t { links = u.links; losses = ls }) losses
    ∙ ap (λ (ls : List CutLine). record u { cuts = ls; captures = t.captures }) cuts
    ∙ ap (λ (ls : List CaptureLine). record u { captures = ls }) captures

-- there is one scenario with these losses more
one_with_losses : (s x y : ScenarioParts) (more : List LoseLine) (text other : List ℕ) → scenario_of text ≡ Ok x → scenario_of other ≡ Ok y
    → IsWithLosses s more x → IsWithLosses s more y → x ≡ y
one_with_losses s x y more text other of_x of_y is also =
    let first = in_order_said x (run_is_scenario text x of_x) in
    let second = in_order_said y (run_is_scenario other y of_y) in
    let losses = same_losses x.trace.losses y.trace.losses (pairs_climb Below x.trace.losses first.losses_ascend)
    (pairs_climb Below y.trace.losses second.losses_ascend) (λ test. is.trace.same_losses test ∙ sym (also.trace.same_losses test)) in
    let trace : x.trace ≡ y.trace =
    same_lines x.trace y.trace (is.trace.links_stay ∙ sym also.trace.links_stay) losses (is.trace.cuts_stay ∙ sym also.trace.cuts_stay)
    (is.trace.captures_stay ∙ sym also.trace.captures_stay) in
    is.parts ∙ ap (over s) trace ∙ sym also.parts

module _ (b text other : List ℕ) where
  -- what is told of the network that the bytes say
  pub one_told : (told : ScenarioParts → List RatioLine → List ℕ) → OfNetwork b (λ s ratios. text ≡ told s ratios)
      → OfNetwork b (λ s ratios. other ≡ told s ratios) → text ≡ other
  one_told told is also =
      let same : (is.0, is.1) ≡ (also.0, also.1) = one_said (network_of b) (is.0, is.1) (also.0, also.1) is.2 also.2 in
      is.3 ∙ ap (λ (n : ScenarioParts × List RatioLine). told n.0 n.1) same ∙ sym also.3

  pub one_drawn : (seed : ℕ) → OfNetwork b (λ s ratios. IsDrawnText s ratios seed text) → OfNetwork b (λ s ratios. IsDrawnText s ratios seed other)
      → text ≡ other
  one_drawn seed is also =
      let same : (is.0, is.1) ≡ (also.0, also.1) = one_said (network_of b) (is.0, is.1) (also.0, also.1) is.2 also.2 in
      let x = is.3 in
      let y : IsDrawnText is.0 is.1 seed other = subst (λ (n : ScenarioParts × List RatioLine). IsDrawnText n.0 n.1 seed other) (sym same) also.3 in
      x.spelled ∙ ap canonical (one_with_losses is.0 x.drawn y.drawn (kept_losses is.0 is.1 seed) text other x.said y.said x.losses y.losses)
      ∙ sym y.spelled

  pub one_bounds : OfNetwork b (λ s ratios. IsBoundsText b s ratios text) → OfNetwork b (λ s ratios. IsBoundsText b s ratios other) → text ≡ other
  one_bounds is also =
      one_told (λ s ratios. bounds_text b s ratios) (is.0, is.1, is.2, is.3.spelled) (also.0, also.1, also.2, also.3.spelled)

  -- what is told of a run of its drawn scenario, which keeps time as the scenario does that some text says
  pub one_drawn_run : RunLaws → ((s : ScenarioParts) → IsScenario s → (v : ℕ) → knows s.nodes v ≡ true → IsClock (scenario_clock s v))
      → (seed : ℕ) → ((s : ScenarioParts) (ratios : List RatioLine) → network_of b ≡ Ok (s, ratios) → IsOverScenario (drawn_scenario s ratios seed))
      → (told : Telling) → ((s : ScenarioParts) → IsToldAlike s told) → OfNetwork b (λ s ratios. TellsOfRun told (drawn_scenario s ratios seed) text)
      → OfNetwork b (λ s ratios. TellsOfRun told (drawn_scenario s ratios seed) other) → text ≡ other
  one_drawn_run laws drift seed drawn told alike is also =
      let same : (is.0, is.1) ≡ (also.0, also.1) = one_said (network_of b) (is.0, is.1) (also.0, also.1) is.2 also.2 in
      let d = drawn_scenario is.0 is.1 seed in
      let said : IsOverScenario d = drawn is.0 is.1 is.2 in
      let timed : IsTimed d = record { sound = over_sound d said; drift = drift (over d said.0) said.1 } in
      let x = is.3 in
      let y : TellsOfRun told d other = subst (λ (n : ScenarioParts × List RatioLine). TellsOfRun told (drawn_scenario n.0 n.1 seed) other) (sym same) also.3 in
      (one_run laws d timed told (alike d) x.0 y.0 text other x.1 y.1).0
