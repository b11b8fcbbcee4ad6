-- Who delivers in a data slot: whom relay paths of its flood reach.
use Rattle.std.specs.Prelude.{◌≡◌, ◌≢◌, ◌↔◌, ℕ, true, is_some, None}
use Rattle.lwb_base.specs.Messages.{Plan, node_of}
use Rattle.scenario_text.specs.ScenarioParts.{ScenarioParts}
use Rattle.bus_rules.specs.States.{State}
use Rattle.bus_terms.specs.FloodOfText.{ids}
use Rattle.bus_terms.specs.Flooding.{has}
use Rattle.bus_terms.specs.RelayPaths.{HasPath}
use Rattle.bus_terms.specs.Rounds.{slot_at, delivery_in_slot}

-- in slot j, which this owner's stream has: each member but the owner's node delivers if and only if a relay path leads to it
-- from there, and nobody else delivers
pub record IsReceived (s : ScenarioParts) (rank f : ℕ) (p : Plan) (states : ℕ → State) (j owner : ℕ) : Type 0 where
  pub by_paths : (v : ℕ) → has (ids s.nodes) v ≡ true → is_some ((slot_at s rank f p states j).window v) ≡ true → v ≢ node_of owner
      → (is_some (delivery_in_slot s rank f p states j v) ≡ true ↔ ((m : ℕ) × HasPath (slot_at s rank f p states j).flood (node_of owner) m v))
  pub outside : (v : ℕ) → (slot_at s rank f p states j).window v ≡ None → delivery_in_slot s rank f p states j v ≡ None
  pub itself : delivery_in_slot s rank f p states j (node_of owner) ≡ None
