-- The clocks that a text states keep the drift law.
use Rattle.std.proofs.Common.{◌≡◌, ℕ, ◌≤◌, List, [], ◌∷◌, Bool, true, false, ◌||◌, ◌==◌, if◌then◌else◌, map, filter}
use Rattle.std.proofs.lemmas.Bool.{cond_both, false≢true}
use Rattle.std.proofs.lemmas.List.Elements.{recursion_from_All}
use Rattle.std.specs.Int.RustNames.{unsigned_abs}
use Rattle.std.specs.List.{AllByRecursion}
use Rattle.tick_clock.specs.Clocks.{IsClock}
use Rattle.tick_clock.specs.Rates.{segment_reading}
use Rattle.tick_clock.specs.RatesLaw.{AreTame, rates_law}
use Rattle.scenario_text.specs.FloodParts.{knows}
use Rattle.scenario_text.specs.ScenarioParts.{ScenarioParts}
use Rattle.scenario_text.specs.ScenarioGrammar.{IsScenario}
use Rattle.scenario_text.specs.declared.lines.NodeLine.{NodeLine}
use Rattle.scenario_text.specs.declared.lines.RateLine.{RateLine}
use Rattle.scenario_text.proofs.SoundScenarios.{sound}
use Rattle.scenario_clocks.specs.NodeRates.{CanState}
use Rattle.scenario_clocks.specs.StatedClocks.{rate_entry_of_line, rates_of, stated_by, scenario_clock}

tame_rates : (v : ℕ) (rs : List RateLine) → AllByRecursion (λ r. unsigned_abs r.ppm ≤ 20) rs → AreTame (rates_of rs v)
tame_rates v [] all = tt
tame_rates v (r ∷ rs) all =
    let fs : List RateLine = filter (λ r. r.node == v) rs in
    cond_both (r.node == v) (r ∷ fs) fs (λ (l : List RateLine). AreTame (map rate_entry_of_line l)) (λ is. (all.0, tame_rates v rs all.1))
    (λ not. tame_rates v rs all.1)

drift_by_recursion : (ns : List NodeLine) (rs : List RateLine) → AllByRecursion (λ n. n.offset ≤ 256000) ns → AllByRecursion (λ r. unsigned_abs r.ppm ≤ 20) rs
    → (v : ℕ) → knows ns v ≡ true → IsClock (stated_by ns rs v)
drift_by_recursion [] rs offsets small v known = absurd (false≢true known)
drift_by_recursion (n ∷ ns) rs offsets small v known = by_test (n.node == v) known (λ later. drift_by_recursion ns rs offsets.1 small v later)
  where
    by_test : (b : Bool) → (b || knows ns v) ≡ true → (knows ns v ≡ true → IsClock (stated_by ns rs v))
        → IsClock (if b then segment_reading n.offset (rates_of rs n.node) else stated_by ns rs v)
    by_test true known others = rates_law n.offset (rates_of rs n.node) offsets.0 (tame_rates n.node rs small)
    by_test false known others = others known

pub stated_drift : (ns : List NodeLine) (rs : List RateLine) → CanState ns rs → (v : ℕ) → knows ns v ≡ true → IsClock (stated_by ns rs v)
stated_drift ns rs can =
    drift_by_recursion ns rs
    (recursion_from_All (λ (n : NodeLine). n.offset ≤ 256000) ns can.offsets)
    (recursion_from_All (λ (r : RateLine). unsigned_abs r.ppm ≤ 20) rs can.small)

-- a scenario's lines state clocks
pub scenario_states : (s : ScenarioParts) → IsScenario s → CanState s.nodes s.rates
scenario_states s said =
    let is = sound s said in
    record { offsets = is.offsets; ascend = is.rates_ascend; early = is.rates_early; small = is.rates_small }

pub scenario_clocks_drift : (s : ScenarioParts) → IsScenario s → (v : ℕ) → knows s.nodes v ≡ true → IsClock (scenario_clock s v)
scenario_clocks_drift s said = stated_drift s.nodes s.rates (scenario_states s said)
