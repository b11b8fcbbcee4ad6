-- The script lines by which a backup host restarts.
use Rattle.std.specs.Prelude.{ℕ, ◌+◌, List, [], ◌∷◌, ◌==◌, if◌then◌else◌}
use Rattle.std.specs.List.{flat_map}
use Rattle.scenario_text.specs.ScenarioParts.{ScenarioParts}
use Rattle.bus_rules.specs.declared.act.Act.TheVariants.{On, Off, Declare}
use Rattle.scenario_text.specs.declared.script.ScriptLine.{ScriptLine}
use Rattle.scenario_clocks.specs.StatedClocks.{scenario_clock}
use Rattle.bus_rules.specs.Streams.{stream_at}
use Rattle.air_log.specs.declared.entry.Entry.{Entry}
use Rattle.air_log.specs.Devices.{Power, PowerOff, PowerOn}
use Rattle.air_log.specs.Lawful.{heard_by}
use Rattle.air_log.specs.Trails.{at_frame}
use Rattle.host_return.specs.declared.returned.Return.{Return}

-- the interval that stream i of a node requests, 0 for none and where the node is off
abbrev pub wish_of : ℕ → Power → ℕ
wish_of i (PowerOff boots) = 0
wish_of i (PowerOn n) = (stream_at n.core.streams i).wish

-- that of v in a run over the clocks that the scenario states, after the script lines of frame f
abbrev pub wish_in : ScenarioParts → List Entry → ℕ → ℕ → ℕ → ℕ
wish_in s air f v i = wish_of i (at_frame s v (scenario_clock s v) (heard_by air v) f).power

-- in frame f node v declares stream i again, unless it requests nothing
abbrev pub declared_again : ℕ → ℕ → ℕ → ℕ → List ScriptLine
declared_again f v i wish = if wish == 0 then [] else record { frame = f; node = v; act = Declare i wish } ∷ []

-- in frame f node v goes off and on, and declares what its streams requested interval
abbrev pub restart : ℕ → ℕ → (ℕ → ℕ) → List ScriptLine
restart f v wish =
    record { frame = f; node = v; act = Off } ∷ record { frame = f; node = v; act = On }
    ∷ flat_map (λ i. declared_again f v i (wish i)) (0 ∷ 1 ∷ 2 ∷ 3 ∷ [])

-- the lines of a return, by a run of the scenario so far: the node restarts in the next frame
abbrev pub lines_of_going_back : ScenarioParts → List Entry → Return → List ScriptLine
lines_of_going_back s air r = restart (r.frame + 1) r.node (wish_in s air (r.frame + 1) r.node)
