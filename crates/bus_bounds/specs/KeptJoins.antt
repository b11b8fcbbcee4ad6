-- What a bound on a node says of the bus where it holds, and which premise of an open one fails.
use Rattle.std.specs.Prelude.{◌≡◌, ◌≢◌, ◌<◌, ◌≤◌, ◌+◌, ◌*◌, ℕ, List, true, Option, Some, None}
use Rattle.lwb_base.specs.declared.limits.TheConstants.{GREATEST_GAP, QUIET_FRAMES}
use Rattle.scenario_text.specs.ScenarioParts.{ScenarioParts}
use Rattle.bus_rules.specs.Cores.{own_rank}
use Rattle.bus_terms.specs.Flooding.{has}
use Rattle.drawn_links.specs.Ratios.{ratio_in}
use Rattle.drawn_links.specs.declared.ratio_line.RatioLine.{RatioLine}
use Rattle.law_service.specs.Reach.{is_linked}
use Rattle.law_times.specs.FirstRounds.{Begins, IsUpBy}
use Rattle.law_times.specs.Losses.{lossy_rounds, lossy_row, scanned}
use Rattle.law_times.specs.Reaches.{IsGroup, IsLossless}
use Rattle.law_times.specs.ScriptedPower.{BootsIn, StaysOn}
use Rattle.law_times.specs.Tunes.{AreMembers}
use Rattle.bus_bounds.specs.JoinFindings.{CERTAIN, JOIN_FRAMES}
use Rattle.bus_bounds.specs.declared.finding.Reason.{Reason}
use Rattle.bus_bounds.specs.declared.finding.Reason.TheVariants.{Boots, Loss, Power, Ratio, Reach, Rounds}

-- v and others are members of the host of rank 0 from frame f on, as long as nothing is lost and nobody of them goes off
pub record IsMemberFrom (d : ScenarioParts) (f v : ℕ) : Type 0 where
  pub host : ℕ
  pub own : own_rank host d.hosts ≡ Some 0
  pub among : List ℕ
  pub there : has among v ≡ true
  pub members : AreMembers d 0 f host among
  pub stay : (g e : ℕ) → f ≤ g → g ≤ e → IsGroup d host f e among → ((n : ℕ) → f ≤ n → n < g → IsLossless d n) → AreMembers d 0 g host among

-- from frame f on v scans for at most GREATEST_GAP frames for each round with losses, as long as no more than three of these follow one another
pub record ScansFew (d : ScenarioParts) (f v : ℕ) : Type 0 where
  pub host : ℕ
  pub own : own_rank host d.hosts ≡ Some 0
  pub among : List ℕ
  pub there : has among v ≡ true
  pub few : (n e : ℕ) → IsGroup d host f e among → n + f ≤ e → ((m : ℕ) → m ≤ n → lossy_row d 0 host f m ≤ 3)
      → scanned d v f n ≤ GREATEST_GAP * lossy_rounds d 0 host f n

-- v boots by the first round after frame b, and does not go off up to the frame after it
pub record IsUp (s : ScenarioParts) (b v : ℕ) : Type 0 where
  pub by : IsUpBy s b (b + QUIET_FRAMES) v
  pub stays : StaysOn s b (b + JOIN_FRAMES) v

-- the host and nodes that are up, within reach of it along one another
pub record AreUp (s : ScenarioParts) (host b : ℕ) (among : List ℕ) : Type 0 where
  pub group : IsGroup s host b (b + JOIN_FRAMES) among
  pub up : (v : ℕ) → has among v ≡ true → v ≢ host → IsUp s b v

-- each link that has a ratio in frame f has a million
abbrev pub IsCertain : ScenarioParts → List RatioLine → ℕ → Type 0
IsCertain s ratios f = (u v r : ℕ) → is_linked s u v ≡ true → ratio_in ratios f u v ≡ Some r → CERTAIN ≤ r

-- the premise of a bound on v that an open finding names does fail, by the frame of the boot
abbrev pub JoinFails : ScenarioParts → List RatioLine → ℕ → Option ℕ → Reason → Type 0
JoinFails s ratios v None Boots = (host b : ℕ) → own_rank host s.hosts ≡ Some 0 → BootsIn s b host → ⊥
JoinFails s ratios v (Some b) Power = (host : ℕ) → Begins s host b (b + JOIN_FRAMES) → IsUp s b v → ⊥
JoinFails s ratios v (Some b) Rounds = s.frames ≤ b + JOIN_FRAMES
JoinFails s ratios v (Some b) Loss = IsLossless s (b + QUIET_FRAMES) → ⊥
JoinFails s ratios v (Some b) Ratio = IsCertain s ratios (b + QUIET_FRAMES) → ⊥
JoinFails s ratios v (Some b) Reach = (host : ℕ) (among : List ℕ) → own_rank host s.hosts ≡ Some 0 → AreUp s host b among → has among v ≡ true → ⊥
JoinFails s ratios v other reason = ⊥
