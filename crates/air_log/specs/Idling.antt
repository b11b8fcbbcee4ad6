-- Where nodes are idle in a run: they host a rank above 0, and have their next round in a later frame.
use Rattle.std.specs.Prelude.{ℕ, List, Option, Some, None, ◌&&◌, nat_lt, if◌then◌else◌, filter_map, flat_map}
use Rattle.std.specs.List.{range_with_len}
use Rattle.std.specs.Option.{option_map}
use Rattle.bus_rules.specs.declared.tune.Tune.{Tune}
use Rattle.bus_rules.specs.declared.tune.Tune.TheVariants.{Scan, Hold, Host}
use Rattle.scenario_text.specs.ScenarioParts.{ScenarioParts}
use Rattle.scenario_text.specs.declared.lines.NodeLine.{NodeLine}
use Rattle.air_log.specs.declared.entry.Entry.{Entry}
use Rattle.air_log.specs.Lawful.{heard_by}
use Rattle.air_log.specs.Trails.{tune_at}
use Rattle.air_log.specs.declared.idle.Idle.{Idle}

-- the rank that is hosted with this tune, where a node is idle with it in frame f
abbrev pub idle_with : ℕ → Option Tune → Option ℕ
idle_with f None = None
idle_with f (Some (Scan r waited)) = None
idle_with f (Some (Hold r due)) = None
idle_with f (Some (Host r due)) = if nat_lt 0 r && nat_lt f due then Some r else None

abbrev pub idle_node : ℕ → ℕ → ℕ → Idle
idle_node f v rank = record { frame = f; node = v; rank = rank }

-- node v with this tune
abbrev pub idle_as : ℕ → ℕ → Option Tune → Option Idle
idle_as f v tune = option_map (idle_node f v) (idle_with f tune)

-- a node in frame f of a run, after its script lines
abbrev pub idle_at : ScenarioParts → (ℕ → ℕ → ℕ) → List Entry → ℕ → NodeLine → Option Idle
idle_at s clocks air f n = idle_as f n.node (tune_at s n.node (clocks n.node) (heard_by air n.node) f)

-- those of a frame by ascending nodes, those of the first frames, and all
abbrev pub idle_in : ScenarioParts → (ℕ → ℕ → ℕ) → List Entry → ℕ → List Idle
idle_in s clocks air f = filter_map (idle_at s clocks air f) s.nodes

abbrev pub idle_before : ScenarioParts → (ℕ → ℕ → ℕ) → List Entry → ℕ → List Idle
idle_before s clocks air k = flat_map (idle_in s clocks air) (range_with_len 0 k)

abbrev pub all_idle : ScenarioParts → (ℕ → ℕ → ℕ) → List Entry → List Idle
all_idle s clocks air = idle_before s clocks air s.frames
