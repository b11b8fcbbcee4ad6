-- What rounds with losses cost the members of a rank.
use Rattle.std.specs.Prelude.{◌≡◌, ◌≢◌, ◌≤◌, ◌+◌, ◌-◌, ◌*◌, ◌==◌, ◌&&◌, ◌⊎◌, ℕ, zero, suc, List, Bool, true, not, if◌then◌else◌}
use Rattle.std.specs.List.{list_any}
use Rattle.lwb_base.specs.Messages.{Plan}
use Rattle.lwb_base.specs.declared.limits.TheConstants.{GREATEST_GAP, SEARCH_FRAMES}
use Rattle.scenario_text.specs.ScenarioParts.{ScenarioParts}
use Rattle.scenario_text.specs.OverLines.{IsOverScenario}
use Rattle.bus_rules.specs.declared.tune.Tune.TheVariants.{Scan, Hold, Host}
use Rattle.bus_rules.specs.Tuning.{hosts_in, is_scan}
use Rattle.bus_terms.specs.Bus.{state_at}
use Rattle.bus_terms.specs.Flooding.{has}
use Rattle.bus_terms.specs.ScriptedStates.{is_on_and}
use Rattle.law_times.specs.Reaches.{IsGroup, IsLossless}
use Rattle.law_times.specs.Tunes.{AreMembers, HasTune, IsTuned}

-- the host has its next round in frame due, and each of the others holds it, or scans the rank and has done so for few enough frames that
-- it still does when the round comes
pub record AwaitRound (s : ScenarioParts) (rank f due host : ℕ) (among : List ℕ) : Type 0 where
  pub plan : Plan
  pub hosts : IsTuned s f host (Host rank due) plan
  pub wait : (v : ℕ) → has among v ≡ true → v ≢ host
      → IsTuned s f v (Hold rank due) plan ⊎ ((w : ℕ) × (w ≤ SEARCH_FRAMES - GREATEST_GAP) × HasTune s f v (Scan rank w))

-- they are members after it if nothing is lost in its frame, whatever is lost before
abbrev pub ScannersReturn : Type 0
ScannersReturn =
    (s : ScenarioParts) → IsOverScenario s → (rank host f due e : ℕ) (among : List ℕ) → IsGroup s host f e among → AwaitRound s rank f due host among
    → due + 1 ≤ e → IsLossless s due → AreMembers s rank (due + 1) host among

-- the host has a round of the rank in frame f
abbrev pub has_round : ScenarioParts → ℕ → ℕ → ℕ → Bool
has_round s rank host f = is_on_and (λ c. hosts_in rank f c.tune) (state_at s f host)

-- no line of the trace loses or cuts something in frame f
abbrev pub is_lossless : ScenarioParts → ℕ → Bool
is_lossless s f = not (list_any (λ l. l.frame == f) s.trace.losses) && not (list_any (λ l. l.frame == f) s.trace.cuts)

-- of n frames from f on: the host's rounds with losses, those of them in a row at the end, and the frames in which v scans
unfoldable pub lossy_rounds : ScenarioParts → ℕ → ℕ → ℕ → ℕ → ℕ
lossy_rounds s rank host f zero = 0
lossy_rounds s rank host f (suc n) =
    lossy_rounds s rank host f n + (if has_round s rank host (n + f) && not (is_lossless s (n + f)) then 1 else 0)

unfoldable pub lossy_row : ScenarioParts → ℕ → ℕ → ℕ → ℕ → ℕ
lossy_row s rank host f zero = 0
lossy_row s rank host f (suc n) =
    if has_round s rank host (n + f) then (if is_lossless s (n + f) then 0 else lossy_row s rank host f n + 1) else lossy_row s rank host f n

unfoldable pub scanned : ScenarioParts → ℕ → ℕ → ℕ → ℕ
scanned s v f zero = 0
scanned s v f (suc n) = scanned s v f n + (if is_on_and (λ c. is_scan c.tune) (state_at s (n + f) v) then 1 else 0)

-- of members each scans for at most this many frames for each round with losses, as long as no more than three of these follow one
-- another; and after a round without losses they are members
pub record CostsFew (frames : ℕ) (s : ScenarioParts) (rank f host : ℕ) (among : List ℕ) (n : ℕ) : Type 0 where
  pub few : (v : ℕ) → has among v ≡ true → v ≢ host → scanned s v f n ≤ frames * lossy_rounds s rank host f n
  pub back : lossy_row s rank host f n ≡ 0 → AreMembers s rank (n + f) host among

abbrev pub LossesCostFew : ℕ → Type 0
LossesCostFew frames =
    (s : ScenarioParts) → IsOverScenario s → (rank host f e : ℕ) (among : List ℕ) → IsGroup s host f e among → AreMembers s rank f host among
    → (n : ℕ) → n + f ≤ e → ((m : ℕ) → m ≤ n → lossy_row s rank host f m ≤ 3) → CostsFew frames s rank f host among n
