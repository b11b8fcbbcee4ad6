-- The clocks of a run, each at the place of its node.
use Rattle.std.proofs.Common.{◌≡◌, ℕ, List, [], ◌∷◌, ◌==◌, length, Some, sym, ap, ◌∙◌, arith}
use Rattle.std.specs.Prelude.{slice_get}
use Rattle.std.proofs.lemmas.Option.{slice_get_within}
use Rattle.std.proofs.lemmas.Bool.{cond_both}
use Rattle.tick_clock.specs.Clocks.{IsClock}
use Rattle.tick_clock.proofs.Readings.{true_clock}
use Rattle.scenario_text.specs.ScenarioParts.{ScenarioParts}
use Rattle.scenario_text.specs.ScenarioFacts.{IsSoundScenario}
use Rattle.scenario_text.specs.declared.lines.NodeLine.{NodeLine}
use Rattle.air_log.specs.ClockLists.{clocks_by}
use Rattle.world_engine.specs.FieldSteps.{reading_of, readings_at}
use Rattle.world_engine.proofs.PlacedNodes.{clock_at, at_place}
use Rattle.world_engine.proofs.TrailsGoOn.{IsClockAt, AreClocks}

-- all keep the drift law; where there is no node, the true tick is read
pub all_drift : {C : Type 0} (R : C → ℕ → ℕ) → ((c : C) → IsClock (R c)) → (ns : List NodeLine) (cs : List C) → AreClocks (clocks_by R ns cs)
all_drift R law [] cs v = true_clock
all_drift R law (n ∷ ns) [] v = true_clock
all_drift R law (n ∷ ns) (c ∷ cs) v = cond_both (n.node == v) (R c) (clocks_by R ns cs v) IsClock (λ is. law c) (λ other. all_drift R law ns cs v)

module _ {C : Type 0} (R : C → ℕ → ℕ) (s : ScenarioParts) (sound : IsSoundScenario s) (cs : List C) (count : length cs ≡ length s.nodes) where
  pub own_clock : (p : ℕ) (c : C) → slice_get cs p ≡ Some c → IsClockAt s (clocks_by R s.nodes cs) p (R c)
  own_clock p c at n there = sym (clock_at R s.nodes cs p n c sound.ascending there at)

  pub clocks_at_places : (p : ℕ) → IsClockAt s (clocks_by R s.nodes cs) p (readings_at R cs p)
  clocks_at_places p n there =
      let within = slice_get_within s.nodes p n there in
      let c = at_place cs p (omega (arith, within, count)) in
      ap (reading_of R) c.1 ∙ own_clock p c.0 c.1 n there
