-- Internal: the rates of each node, and the clocks made of them.
use Rattle.std.specs.Prelude.{◌≡◌, ◌<◌, ◌≤◌, ◌^◌, ◌==◌, ℕ, ℤ, List, [], ◌∷◌, length, get_or, filter, All, ⊤}
use Rattle.std.specs.Int.RustNames.{unsigned_abs}
use Rattle.std.specs.List.{AllPairs}
use Rattle.lwb_base.specs.declared.limits.TheConstants.{DRIFT_BOUND, GREATEST_ID, PLACES_BY_ID}
use Rattle.tick_clock.specs.Rates.{segment_reading}
use Rattle.tick_clock.specs.ClockReadings.{segment_clock_reads}
use Rattle.tick_clock.specs.declared.segment_clock.SegmentClock.{SegmentClock}
use Rattle.scenario_text.specs.declared.lines.NodeLine.{NodeLine}
use Rattle.scenario_text.specs.declared.lines.RateLine.{RateLine}
use Rattle.scenario_clocks.specs.StatedClocks.{rates_of}

-- lines of nodes and rates that state clocks of the drift law
pub record CanState (nodes : List NodeLine) (rates : List RateLine) : Type 0 where
  pub offsets : All (λ n. n.offset ≤ 256000) nodes
  pub ascend : (v : ℕ) → AllPairs (λ a b. a.from < b.from) (filter (λ r. r.node == v) rates)
  pub early : All (λ r. r.from < 2 ^ 47) rates
  pub small : All (λ r. unsigned_abs r.ppm ≤ DRIFT_BOUND) rates

-- at the place of each id
pub record AreRatesOf (rates : List RateLine) (lists : List (List (ℕ × ℤ))) : Type 0 where
  pub ids : length lists ≡ PLACES_BY_ID
  pub each : (v : ℕ) → get_or lists v [] ≡ rates_of rates v

-- ids of nodes
abbrev pub IsId : NodeLine → Type 0
IsId n = (1 ≤ n.node) × (n.node ≤ GREATEST_ID)

-- each clock reads what its node's offset and rates say
abbrev pub AreClocks : List RateLine → List NodeLine → List SegmentClock → Type 0
AreClocks rates [] [] = ⊤
AreClocks rates [] (c ∷ cs) = ⊥
AreClocks rates (n ∷ ns) [] = ⊥
AreClocks rates (n ∷ ns) (c ∷ cs) = (segment_clock_reads c ≡ segment_reading n.offset (rates_of rates n.node)) × IsId n × AreClocks rates ns cs
