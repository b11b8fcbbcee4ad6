-- When the network runs, and how long its nodes stay members.
use Rattle.std.specs.Prelude.{◌≡◌, ◌≢◌, ◌<◌, ◌≤◌, ◌+◌, ℕ, List, true, Some}
use Rattle.lwb_base.specs.declared.limits.TheConstants.{QUIET_FRAMES}
use Rattle.scenario_text.specs.ScenarioParts.{ScenarioParts}
use Rattle.scenario_text.specs.OverLines.{IsOverScenario}
use Rattle.bus_rules.specs.declared.tune.Tune.TheVariants.{Host}
use Rattle.bus_rules.specs.Cores.{own_rank}
use Rattle.bus_terms.specs.Flooding.{has}
use Rattle.law_times.specs.Reaches.{IsGroup, IsLossless}
use Rattle.law_times.specs.ScriptedPower.{BootsIn, StaysOn}
use Rattle.law_times.specs.Tunes.{HasTune, AreMembers}

-- the host of rank 0 boots in frame b and is not switched off after that, up to frame e
pub record Begins (s : ScenarioParts) (host b e : ℕ) : Type 0 where
  pub first : own_rank host s.hosts ≡ Some 0
  pub boots : BootsIn s b host
  pub stays : StaysOn s b e host

-- it has its first round this many frames later, whatever is lost
abbrev pub FirstRoundsCome : ℕ → Type 0
FirstRoundsCome frames =
    (s : ScenarioParts) → IsOverScenario s → (host b : ℕ) → Begins s host b (b + frames) → HasTune s (b + frames) host (Host 0 (b + frames))

-- v boots in one of these frames, and is not switched off after that, up to the last of them
pub record IsUpBy (s : ScenarioParts) (b e v : ℕ) : Type 0 where
  pub frame : ℕ
  pub range : (b ≤ frame) × (frame ≤ e)
  pub boots : BootsIn s frame v
  pub stays : StaysOn s frame e v

-- nodes that are up by the first round are members from the next frame on, as long as nothing is lost in the frames from it on
abbrev pub NodesJoin : Type 0
NodesJoin =
    (s : ScenarioParts) → IsOverScenario s → (host b e : ℕ) → Begins s host b e
    → (among : List ℕ) → IsGroup s host (b + QUIET_FRAMES) e among
    → ((v : ℕ) → has among v ≡ true → v ≢ host → IsUpBy s b (b + QUIET_FRAMES) v)
    → (g : ℕ) → b + QUIET_FRAMES < g → g ≤ e → ((f : ℕ) → b + QUIET_FRAMES ≤ f → f < g → IsLossless s f)
    → AreMembers s 0 g host among

-- members stay members, of any rank, as long as nothing is lost
abbrev pub MembersStay : Type 0
MembersStay =
    (s : ScenarioParts) → IsOverScenario s → (rank host f e : ℕ) (among : List ℕ) → IsGroup s host f e among → AreMembers s rank f host among
    → (g : ℕ) → f ≤ g → g ≤ e → ((n : ℕ) → f ≤ n → n < g → IsLossless s n) → AreMembers s rank g host among
