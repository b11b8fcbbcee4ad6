-- What a node goes by at the start of a frame.
use Rattle.std.specs.Prelude.{◌≡◌, ◌≢◌, ◌<◌, ◌≤◌, ◌+◌, ℕ, List, true}
use Rattle.lwb_base.specs.Messages.{Plan}
use Rattle.lwb_base.specs.declared.limits.TheConstants.{GREATEST_GAP}
use Rattle.scenario_text.specs.ScenarioParts.{ScenarioParts}
use Rattle.bus_rules.specs.declared.tune.Tune.{Tune}
use Rattle.bus_rules.specs.declared.tune.Tune.TheVariants.{Hold, Host}
use Rattle.bus_rules.specs.Cores.{Core}
use Rattle.bus_rules.specs.States.{StateOn}
use Rattle.bus_terms.specs.Bus.{state_at}
use Rattle.bus_terms.specs.Flooding.{has}

-- after the script lines of frame f node v is on, with this tune and this plan
pub record IsTuned (s : ScenarioParts) (f v : ℕ) (t : Tune) (p : Plan) : Type 0 where
  pub core : Core
  pub on : state_at s f v ≡ StateOn core
  pub tune : core.tune ≡ t
  pub plan : core.plan ≡ p

-- by some plan
pub record HasTune (s : ScenarioParts) (f v : ℕ) (t : Tune) : Type 0 where
  pub plan : Plan
  pub tuned : IsTuned s f v t plan

-- v hosts this rank, with its next round in frame f or one of the next GREATEST_GAP - 1
pub record Hosts (s : ScenarioParts) (rank f v : ℕ) : Type 0 where
  pub due : ℕ
  pub range : (f ≤ due) × (due < f + GREATEST_GAP)
  pub tuned : HasTune s f v (Host rank due)

-- the host has such a round, and each of these nodes holds it, by its plan
pub record AreMembers (s : ScenarioParts) (rank f host : ℕ) (among : List ℕ) : Type 0 where
  pub due : ℕ
  pub range : (f ≤ due) × (due < f + GREATEST_GAP)
  pub plan : Plan
  pub hosts : IsTuned s f host (Host rank due) plan
  pub hold : (v : ℕ) → has among v ≡ true → v ≢ host → IsTuned s f v (Hold rank due) plan
