-- The clocks of a scenario, each at the place of its node.
use Rattle.std.specs.Prelude.{◌≡◌, ℕ, List, length}
use Rattle.tick_clock.specs.ClockReadings.{segment_clock_reads}
use Rattle.tick_clock.specs.declared.segment_clock.SegmentClock.{SegmentClock}
use Rattle.scenario_text.specs.ScenarioParts.{ScenarioParts}
use Rattle.scenario_clocks.specs.ClockLists.{clocks_by}
use Rattle.scenario_clocks.specs.StatedClocks.{scenario_clock}

pub record AreClocksOf (s : ScenarioParts) (clocks : List SegmentClock) : Type 0 where
  pub count : length clocks ≡ length s.nodes
  pub each : (v : ℕ) → clocks_by segment_clock_reads s.nodes clocks v ≡ scenario_clock s v
