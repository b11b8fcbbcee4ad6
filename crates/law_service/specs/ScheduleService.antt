-- What the schedules of a round reach where nothing is lost.
use Rattle.std.specs.Prelude.{◌≡◌, ◌<◌, ℕ, suc, true}
use Rattle.lwb_base.specs.Messages.{Plan}
use Rattle.scenario_text.specs.ScenarioParts.{ScenarioParts}
use Rattle.scenario_text.specs.OverLines.{IsOverScenario}
use Rattle.bus_rules.specs.declared.tune.Tune.TheVariants.{Hold, Host}
use Rattle.bus_rules.specs.Cores.{Core, is_fresh}
use Rattle.bus_rules.specs.Plans.{last_slot}
use Rattle.bus_rules.specs.States.{StateOn}
use Rattle.bus_terms.specs.Flooding.{Accepts}
use Rattle.bus_terms.specs.HostedRounds.{IsHosted, slot_in, node_before, state_after_round}
use Rattle.law_service.specs.Reach.{LosesNothing, IsWithin}

-- v accepts the opening schedule in step k. It then has the plan of this round, and is fresh: it may request in it
pub record AcceptsOpening (s : ScenarioParts) (rank f : ℕ) (p : Plan) (host k v : ℕ) : Type 0 where
  pub accepts : Accepts (slot_in s rank f p 0).flood v host k
  pub core : Core
  pub on : node_before s rank f p 1 v ≡ StateOn core
  pub plan : core.plan ≡ p
  pub fresh : is_fresh core ≡ true

-- v accepts the closing schedule in step k. It then holds the next round of this rank: in the frame in which its host has it,
-- and by the same plan
pub record AcceptsClosing (s : ScenarioParts) (rank f : ℕ) (p : Plan) (host k v : ℕ) : Type 0 where
  pub accepts : Accepts (slot_in s rank f p (last_slot p)).flood v host k
  pub hosting : Core
  pub host_on : state_after_round s rank f p host ≡ StateOn hosting
  pub holding : Core
  pub on : state_after_round s rank f p v ≡ StateOn holding
  pub due : ℕ
  pub later : f < due
  pub hosts : hosting.tune ≡ Host rank due
  pub holds : holding.tune ≡ Hold rank due
  pub plan : holding.plan ≡ hosting.plan

-- in an opening slot without losses each node that takes part within reach of the host accepts, in the step before the number
-- of its hops
abbrev pub OpeningsAreAccepted : Type 0
OpeningsAreAccepted =
    (s : ScenarioParts) → IsOverScenario s → (rank f : ℕ) (p : Plan) (host : ℕ) → IsHosted s rank f p host
    → LosesNothing s (slot_in s rank f p 0) → (k v : ℕ) → IsWithin s (slot_in s rank f p 0) host (suc k) v
    → AcceptsOpening s rank f p host k v

-- and so in a closing slot
abbrev pub ClosingsAreAccepted : Type 0
ClosingsAreAccepted =
    (s : ScenarioParts) → IsOverScenario s → (rank f : ℕ) (p : Plan) (host : ℕ) → IsHosted s rank f p host
    → LosesNothing s (slot_in s rank f p (last_slot p)) → (k v : ℕ) → IsWithin s (slot_in s rank f p (last_slot p)) host (suc k) v
    → AcceptsClosing s rank f p host k v
