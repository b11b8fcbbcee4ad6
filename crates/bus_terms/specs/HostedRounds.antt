-- A round of the bus: its slots, its nodes before and after them, and its host.
use Rattle.std.specs.Prelude.{◌≡◌, ◌+◌, ℕ, true, Some}
use Rattle.lwb_base.specs.Messages.{Plan}
use Rattle.scenario_text.specs.ScenarioParts.{ScenarioParts}
use Rattle.bus_rules.specs.Plans.{last_slot}
use Rattle.bus_rules.specs.States.{State}
use Rattle.bus_rules.specs.Tuning.{hosts_in}
use Rattle.bus_terms.specs.Bus.{state_at}
use Rattle.bus_terms.specs.Flooding.{has}
use Rattle.bus_terms.specs.FloodOfText.{ids}
use Rattle.bus_terms.specs.Rounds.{Slot, slot_at, before_slot, round_plan}
use Rattle.bus_terms.specs.ScriptedStates.{is_on_and}

-- slot j of the round of this rank and frame, which has plan p
abbrev pub slot_in : ScenarioParts → ℕ → ℕ → Plan → ℕ → Slot
slot_in s rank f p j = slot_at s rank f p (state_at s f) j

-- node v before that slot
abbrev pub node_before : ScenarioParts → ℕ → ℕ → Plan → ℕ → ℕ → State
node_before s rank f p j v = before_slot s rank f p (state_at s f) j v

-- and after the round
abbrev pub state_after_round : ScenarioParts → ℕ → ℕ → Plan → ℕ → State
state_after_round s rank f p v = node_before s rank f p (last_slot p + 1) v

-- a node of the scenario hosts the round of this rank in frame f, which has plan p
pub record IsHosted (s : ScenarioParts) (rank f : ℕ) (p : Plan) (host : ℕ) : Type 0 where
  pub known : has (ids s.nodes) host ≡ true
  pub due : is_on_and (λ c. hosts_in rank f c.tune) (state_at s f host) ≡ true
  pub plan : round_plan s rank f (state_at s f) ≡ Some p
