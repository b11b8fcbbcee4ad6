-- How long it takes until another host leads the network.
use Rattle.std.specs.Prelude.{◌≡◌, ◌≢◌, ◌≤◌, ◌+◌, ◌-◌, ◌*◌, ℕ, List, length, true, Some}
use Rattle.lwb_base.specs.declared.limits.TheConstants.{GREATEST_GAP, QUIET_FRAMES, SEARCH_FRAMES}
use Rattle.scenario_text.specs.ScenarioParts.{ScenarioParts}
use Rattle.scenario_text.specs.OverLines.{IsOverScenario}
use Rattle.bus_rules.specs.declared.tune.Tune.TheVariants.{Hold, Host}
use Rattle.bus_rules.specs.Cores.{own_rank}
use Rattle.bus_terms.specs.Flooding.{has}
use Rattle.law_times.specs.Reaches.{IsGroup, IsLossless}
use Rattle.law_times.specs.ScriptedPower.{is_on_in, StaysOn, StaysOff}
use Rattle.law_times.specs.Tunes.{AreMembers, HasTune, Hosts}

-- from frame b to frame e the host of this rank alone is on, of all hosts
pub record IsLastHost (s : ScenarioParts) (rank host b e : ℕ) : Type 0 where
  pub own : own_rank host s.hosts ≡ Some rank
  pub on : is_on_in s b host ≡ true
  pub stays : StaysOn s b e host
  pub others : (h : ℕ) → has s.hosts h ≡ true → h ≢ host → StaysOff s b e h

-- the most frames until it hosts: up to GREATEST_GAP of a round that it holds, a search for each other rank, and one for its own
abbrev pub failover_bound : ℕ → ℕ
failover_bound hosts = GREATEST_GAP + SEARCH_FRAMES * (hosts - 1) + QUIET_FRAMES

-- it hosts its rank from then on, whatever is lost, in a network of this many hosts
abbrev pub HostsWithin : ℕ → ℕ → Type 0
HostsWithin hosts frames =
    (s : ScenarioParts) → IsOverScenario s → length s.hosts ≡ hosts → (rank host b e : ℕ) → IsLastHost s rank host b e
    → (g : ℕ) → b + frames ≤ g → g ≤ e → Hosts s rank g host

-- of two hosts that of rank 0 is off from frame b on, in which these nodes, the other host among them, hold its round of frame d
pub record LosesHost (s : ScenarioParts) (first second b d e : ℕ) (among : List ℕ) : Type 0 where
  pub two : length s.hosts ≡ 2
  pub first_own : own_rank first s.hosts ≡ Some 0
  pub second_own : own_rank second s.hosts ≡ Some 1
  pub off : StaysOff s b e first
  pub group : IsGroup s second b e among
  pub hold : (v : ℕ) → has among v ≡ true → HasTune s b v (Hold 0 d)

-- from the round that falls out to the first of the other host: the rest of its frame, a search for rank 0, and one for rank 1
abbrev pub takeover_bound : ℕ
takeover_bound = 1 + SEARCH_FRAMES + QUIET_FRAMES

-- that host has its first round this many frames after the one that fell out, whatever is lost
abbrev pub BackupsTakeOver : ℕ → Type 0
BackupsTakeOver frames =
    (s : ScenarioParts) → IsOverScenario s → (first second b d e : ℕ) (among : List ℕ) → LosesHost s first second b d e among → d + frames ≤ e
    → HasTune s (d + frames) second (Host 1 (d + frames))

-- and if nothing is lost in the frame of that round, the nodes are members after it
abbrev pub NodesFollow : ℕ → Type 0
NodesFollow frames =
    (s : ScenarioParts) → IsOverScenario s → (first second b d e : ℕ) (among : List ℕ) → LosesHost s first second b d e among → d + frames + 1 ≤ e
    → IsLossless s (d + frames) → AreMembers s 1 (d + frames + 1) second among
