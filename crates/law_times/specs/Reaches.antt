-- Frames in which nothing is lost, and who is within reach in them.
use Rattle.std.specs.Prelude.{◌≡◌, ◌≢◌, ◌≤◌, ◌==◌, ℕ, List, true, false}
use Rattle.std.specs.List.{list_any}
use Rattle.scenario_text.specs.ScenarioParts.{ScenarioParts}
use Rattle.bus_terms.specs.Distances.{walks}
use Rattle.bus_terms.specs.FloodOfText.{ids}
use Rattle.bus_terms.specs.Flooding.{STEPS, has}
use Rattle.law_service.specs.Reach.{is_linked}
use Rattle.law_times.specs.ScriptedPower.{StaysOn}

-- no lose line and no cut line is of this frame
pub record IsLossless (s : ScenarioParts) (f : ℕ) : Type 0 where
  pub losses : list_any (λ l. l.frame == f) s.trace.losses ≡ false
  pub cuts : list_any (λ l. l.frame == f) s.trace.cuts ≡ false

-- a walk of at most FLOOD_STEPS links, from one of these nodes to the next, leads from u to v
pub record IsReached (s : ScenarioParts) (among : List ℕ) (u v : ℕ) : Type 0 where
  pub links : ℕ
  pub few : links ≤ STEPS
  pub walk : walks (is_linked s) among u links v ≡ true

-- nodes of the scenario that are not switched off after frame b, up to frame e, and that a walk along them reaches from their host
pub record IsGroup (s : ScenarioParts) (host b e : ℕ) (among : List ℕ) : Type 0 where
  pub led : has among host ≡ true
  pub known : (v : ℕ) → has among v ≡ true → has (ids s.nodes) v ≡ true
  pub stay : (v : ℕ) → has among v ≡ true → StaysOn s b e v
  pub reached : (v : ℕ) → has among v ≡ true → v ≢ host → IsReached s among host v
