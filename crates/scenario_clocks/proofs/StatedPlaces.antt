-- A clock that a scenario states is at the place of its node.
use Rattle.std.proofs.Common.{◌≡◌, ℕ, ◌<◌, List, length, get_or, sym, ◌∙◌, ap, subst, arith}
use Rattle.tick_clock.specs.ClockReadings.{segment_clock_reads}
use Rattle.tick_clock.specs.declared.segment_clock.SegmentClock.{SegmentClock}
use Rattle.scenario_text.specs.ScenarioFacts.{IsSoundScenario}
use Rattle.scenario_text.specs.ScenarioParts.{ScenarioParts}
use Rattle.scenario_text.specs.declared.lines.NodeLine.{NodeLine}
use Rattle.scenario_text.specs.declared.lines.RateLine.{RateLine}
use Rattle.scenario_clocks.specs.ClockLists.{clocks_by}
use Rattle.scenario_clocks.specs.StatedClocks.{stated_by, scenario_clock}
use Rattle.scenario_clocks.proofs.ListedClocks.{clock_at_place}

module _ (s : ScenarioParts) (ns : List NodeLine) (rates : List RateLine) (cs : List SegmentClock) where
  pub stated_place : IsSoundScenario s → ns ≡ s.nodes → rates ≡ s.rates → length cs ≡ length ns
      → ((v : ℕ) → clocks_by segment_clock_reads ns cs v ≡ stated_by ns rates v)
      → (i : ℕ) (n : NodeLine) (c : SegmentClock) → i < length ns → c ≡ get_or cs i c → segment_clock_reads c ≡ scenario_clock s (get_or ns i n).node
  stated_place sound same_nodes same_rates long stated i n c less at =
      let v : ℕ = (get_or ns i n).node in
      let reads : clocks_by segment_clock_reads ns cs v ≡ scenario_clock s v =
      subst (λ (l : List NodeLine). clocks_by segment_clock_reads ns cs v ≡ stated_by l s.rates v) same_nodes
      (subst (λ (l : List RateLine). clocks_by segment_clock_reads ns cs v ≡ stated_by ns l v) same_rates (stated v)) in
      let place : clocks_by segment_clock_reads s.nodes cs (get_or s.nodes i n).node ≡ segment_clock_reads (get_or cs i c) =
      clock_at_place segment_clock_reads s.nodes cs i n c sound.ascending (long ∙ ap length same_nodes) (omega (arith, less, ap length same_nodes)) in
      let here : clocks_by segment_clock_reads ns cs v ≡ segment_clock_reads (get_or cs i c) =
      subst (λ (l : List NodeLine). clocks_by segment_clock_reads l cs (get_or l i n).node ≡ segment_clock_reads (get_or cs i c)) (sym same_nodes) place in
      ap segment_clock_reads at ∙ sym here ∙ reads
