-- What becomes of a request that meets no other where nothing is lost.
use Rattle.std.specs.Prelude.{◌≡◌, ◌<◌, ◌+◌, ℕ, suc, true, false, is_some, Some, [], ◌∷◌, ◌++◌, length, Contains}
use Rattle.lwb_base.specs.Messages.{Ask, Plan}
use Rattle.scenario_text.specs.ScenarioParts.{ScenarioParts}
use Rattle.scenario_text.specs.OverLines.{IsOverScenario}
use Rattle.bus_rules.specs.Cores.{Core}
use Rattle.bus_rules.specs.HostPlans.{answers_to}
use Rattle.bus_rules.specs.Plans.{last_slot}
use Rattle.bus_rules.specs.Slots.{RequestOf}
use Rattle.bus_rules.specs.States.{StateOn}
use Rattle.bus_rules.specs.Tables.{is_full}
use Rattle.bus_terms.specs.Rounds.{message_said}
use Rattle.law_service.specs.Reach.{TakesPart, LosesNothing, IsWithin}
use Rattle.bus_terms.specs.HostedRounds.{IsHosted, slot_in, node_before, state_after_round}

-- slot j of the round is one of contention, after those of data and before the last, and in it u requests a, and nobody else
-- says anything
pub record IsLoneRequest (s : ScenarioParts) (rank f : ℕ) (p : Plan) (j u : ℕ) (a : Ask) : Type 0 where
  pub after_data : length p.owners < j
  pub before_last : j < last_slot p
  pub member : TakesPart (slot_in s rank f p j) u
  pub says : message_said ((slot_in s rank f p j).window u) ≡ Some (RequestOf a)
  pub alone : (v : ℕ) → is_some (message_said ((slot_in s rank f p j).window v)) ≡ true → v ≡ u

-- such a slot, without losses, with the host within reach of u; c is the host before it
pub record ReachesHost (s : ScenarioParts) (rank f : ℕ) (p : Plan) (host j u : ℕ) (a : Ask) (c : Core) : Type 0 where
  pub hosted : IsHosted s rank f p host
  pub request : IsLoneRequest s rank f p j u a
  pub lossless : LosesNothing s (slot_in s rank f p j)
  pub step : ℕ
  pub within : IsWithin s (slot_in s rank f p j) u (suc step) host
  pub on : node_before s rank f p j host ≡ StateOn c

-- the host keeps the request
pub record KeepsRequest (s : ScenarioParts) (rank f : ℕ) (p : Plan) (host j : ℕ) (a : Ask) (c : Core) : Type 0 where
  pub core : Core
  pub on : node_before s rank f p (j + 1) host ≡ StateOn core
  pub kept : core.kept ≡ c.kept ++ a ∷ []

-- the plan that the host makes at the closing acknowledges it
pub record Acknowledges (s : ScenarioParts) (rank f : ℕ) (p : Plan) (host : ℕ) (a : Ask) : Type 0 where
  pub core : Core
  pub on : state_after_round s rank f p host ≡ StateOn core
  pub acknowledged : Contains core.plan.acks a

abbrev pub LoneRequestsAreKept : Type 0
LoneRequestsAreKept =
    (s : ScenarioParts) → IsOverScenario s → (rank f : ℕ) (p : Plan) (host j u : ℕ) (a : Ask) (c : Core) → ReachesHost s rank f p host j u a c
    → KeepsRequest s rank f p host j a c

-- unless the table is full when the request's turn comes: after those that the host had kept before
abbrev pub LoneRequestsAreAcknowledged : Type 0
LoneRequestsAreAcknowledged =
    (s : ScenarioParts) → IsOverScenario s → (rank f : ℕ) (p : Plan) (host j u : ℕ) (a : Ask) (c : Core) → ReachesHost s rank f p host j u a c
    → is_full a (answers_to f c.kept c.table).table ≡ false → Acknowledges s rank f p host a
