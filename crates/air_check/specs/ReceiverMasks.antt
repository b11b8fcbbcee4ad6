-- Internal: to which nodes the transmissions of a log come, as masks.
use Rattle.std.specs.Prelude.{◌≡◌, ◌<◌, ℕ, List, length, slice_index, slice_index_or}
use Rattle.scenario_text.specs.ScenarioParts.{ScenarioParts}
use Rattle.radio_model.specs.OnAir.{Sending}
use Rattle.radio_model.specs.Reaches.{IsReceivedBy}

-- for each transmission the mask of those nodes that receive it if they are tuned to it
pub record AreReceivers (s : ScenarioParts) (nodes : List ℕ) (sent : List Sending) (masks : List ℕ) : Type 0 where
  pub one_each : length masks ≡ length sent
  pub each : (k : ℕ) (d : Sending) → k < length sent → IsReceivedBy s.profile s.trace nodes sent (slice_index_or sent k d) (slice_index masks k)
