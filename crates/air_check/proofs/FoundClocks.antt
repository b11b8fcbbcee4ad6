-- The clock that a search for a node finds.
use Rattle.std.proofs.Common.{◌≡◌, ℕ, ◌<◌, List, [], ◌∷◌, Ok, length, get_or, AllPairs, sym, ◌∙◌, ap, arith}
use Rattle.std.specs.List.Sorted.{IsBinarySearchResult}
use Rattle.std.specs.Ordering.{nat_cmp}
use Rattle.tick_clock.specs.ClockReadings.{segment_clock_reads}
use Rattle.tick_clock.specs.declared.segment_clock.SegmentClock.{SegmentClock}
use Rattle.scenario_text.specs.ScenarioParts.{ScenarioParts}
use Rattle.scenario_text.specs.declared.lines.NodeLine.{NodeLine}
use Rattle.scenario_text.proofs.NodeSearches.{found_node}
use Rattle.scenario_clocks.specs.ClockLists.{clocks_by}
use Rattle.scenario_clocks.specs.StatedClocks.{scenario_clock}
use Rattle.scenario_clocks.proofs.ListedClocks.{clock_at_place}
use Rattle.air_check.specs.NodeClocks.{AreClocksOf}

module _ (s : ScenarioParts) (cs : List SegmentClock) (are : AreClocksOf s cs) (ascending : AllPairs (λ a b. a.node < b.node) s.nodes) where
  pub clock_found : (v i : ℕ) (c : SegmentClock) → i < length s.nodes → IsBinarySearchResult (λ n. nat_cmp n.node v) s.nodes (Ok i)
      → c ≡ get_or cs i c → segment_clock_reads c ≡ scenario_clock s v
  clock_found v i c less found at = by_list s.nodes ascending are.count (are.each v) less found
    where
      by_list : (ns : List NodeLine) → AllPairs (λ a b. a.node < b.node) ns → length cs ≡ length ns → clocks_by segment_clock_reads ns cs v ≡ scenario_clock s v
          → i < length ns → IsBinarySearchResult (λ n. nat_cmp n.node v) ns (Ok i) → segment_clock_reads c ≡ scenario_clock s v
      by_list [] up long reads less found = absurd (omega (arith, less))
      by_list (n ∷ ns) up long reads less found =
          ap segment_clock_reads at
          ∙ sym (clock_at_place segment_clock_reads (n ∷ ns) cs i n c up long less)
          ∙ ap (clocks_by segment_clock_reads (n ∷ ns) cs) (found_node (n ∷ ns) v i found n)
          ∙ reads
