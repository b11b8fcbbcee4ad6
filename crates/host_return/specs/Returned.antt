-- The scenario in which backup hosts go back, worked out return by return.
use Rattle.std.specs.Prelude.{◌≡◌, ℕ, ◌≤◌, List, [], ◌∷◌, ◌==◌, if◌then◌else◌, map, reverse, length}
use Rattle.scenario_text.specs.AddedLines.{IsWithScript, HasRoom}
use Rattle.scenario_text.specs.ScenarioGrammar.{IsScenario}
use Rattle.scenario_text.specs.ScenarioParts.{ScenarioParts}
use Rattle.scenario_clocks.specs.StatedClocks.{scenario_clock}
use Rattle.air_log.specs.declared.entry.Entry.{Entry}
use Rattle.air_log.specs.Lawful.{Lawful}
use Rattle.host_return.specs.Candidates.{IsNextReturn, AllListed}
use Rattle.host_return.specs.Probes.{probes}
use Rattle.host_return.specs.Restarts.{lines_of_going_back}
use Rattle.host_return.specs.declared.returned.Return.{Return}

-- a return is taken: with those before it the scenario was s, of which there is a run in which it is the next, and with its
-- lines, for which there is room, it is the scenario t
pub record GoesBack (read s : ScenarioParts) (earlier : List Return) (r : Return) (t : ScenarioParts) : Type 0 where
  pub air : List Entry
  pub lawful : Lawful s (scenario_clock s) air
  pub next : IsNextReturn read s air (reverse earlier) r
  pub added : IsWithScript s (lines_of_going_back s air r) t
  pub room : HasRoom t
  pub said : IsScenario t

-- after these returns, the last of them first, the scenario that was read has become t
abbrev pub Becomes : ScenarioParts → List Return → ScenarioParts → Type 0
Becomes read [] t = t ≡ read
Becomes read (r ∷ earlier) t = (s : ScenarioParts) × Becomes read earlier s × GoesBack read s earlier r t

-- there is no room for the lines of a return
abbrev pub NoRoom : ScenarioParts → List Entry → Return → Type 0
NoRoom s air r = (t : ScenarioParts) → IsWithScript s (lines_of_going_back s air r) t → HasRoom t → ⊥

-- no return is taken after these: there are 16, or every candidate is one of them, or the next one finds no room
pub data ReturnsEnd (read s : ScenarioParts) (air : List Entry) (listed : List Return) : Type 0 where
  Sixteen : length listed ≡ 16 → ReturnsEnd read s air listed
  NoneLeft : AllListed read s air listed → ReturnsEnd read s air listed
  Full : (r : Return) → IsNextReturn read s air listed r → NoRoom s air r → ReturnsEnd read s air listed

-- the scenario with the lines of all returns, the returns in the order in which they were taken, a run of that scenario, and
-- for each node, by id, in how many frames of that run it is idle
pub record ReturnedParts : Type 0 where
  pub scenario : ScenarioParts
  pub returns : List Return
  pub air : List Entry
  pub counts : List (ℕ × ℕ)

abbrev pub counts_in : ScenarioParts → List Entry → List (ℕ × ℕ)
counts_in s air = map (λ n. (n.node, probes s air n.node)) s.nodes

pub record IsReturned (read : ScenarioParts) (x : ReturnedParts) : Type 0 where
  pub becomes : Becomes read (reverse x.returns) x.scenario
  pub few : length x.returns ≤ 16
  pub lawful : Lawful x.scenario (scenario_clock x.scenario) x.air
  pub ends : ReturnsEnd read x.scenario x.air x.returns
  pub counts : x.counts ≡ counts_in x.scenario x.air

-- the count of v, and 0 where it is no node
abbrev pub count_of_node : List (ℕ × ℕ) → ℕ → ℕ
count_of_node [] v = 0
count_of_node (c ∷ cs) v = if c.0 == v then c.1 else count_of_node cs v
