-- Internal: the trails of the nodes of a run, by ascending ids.
use Rattle.std.specs.Prelude.{ℕ, List, Option, slice_get}
use Rattle.std.specs.Option.{option_flatten}
use Rattle.scenario_text.specs.ScenarioParts.{ScenarioParts}
use Rattle.scenario_text.specs.declared.lines.NodeLine.{NodeLine}
use Rattle.scenario_clocks.specs.StatedClocks.{scenario_clock}
use Rattle.air_log.specs.declared.entry.Entry.{Entry}
use Rattle.air_log.specs.Lawful.{heard_by}
use Rattle.air_log.specs.TrailsTold.{trail_told}
use Rattle.air_log.specs.Idling.{idle_as}
use Rattle.air_log.specs.declared.idle.Idle.{Idle}
use Rattle.host_return.specs.declared.idle_trails.NodeTrail.{NodeTrail}

-- the trail of this node, over the clock that the scenario states
abbrev pub trail_in : ScenarioParts → List Entry → NodeLine → NodeTrail
trail_in s air n = record { node = n.node; trail = trail_told s n.node (scenario_clock s n.node) (heard_by air n.node) }

-- the node in frame f, by the tunes of its trail
abbrev pub idle_told : ℕ → NodeTrail → Option Idle
idle_told f n = idle_as f n.node (option_flatten (slice_get n.trail.tunes f))
