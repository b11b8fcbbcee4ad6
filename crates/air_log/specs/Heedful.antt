-- Which logs are protocol-obedient. This is all that safety needs of a valid log.
use Rattle.std.specs.Prelude.{ℕ, List, Contains}
use Rattle.scenario_text.specs.ScenarioParts.{ScenarioParts}
use Rattle.radio_model.specs.declared.sending.Sending.{Sending}
use Rattle.radio_model.specs.Hearing.{TunedThrough}
use Rattle.air_log.specs.declared.entry.Entry.{Entry}
use Rattle.air_log.specs.Entries.{sendings_of, HasHeardEntry}
use Rattle.air_log.specs.HearsAir.{scene_of}
use Rattle.air_log.specs.Lawful.{FollowsTrails}

-- x was sent, and v was tuned to its channel throughout
pub record WasInReach (s : ScenarioParts) (air : List Entry) (v : ℕ) (x : Sending) : Type 0 where
  pub sent : Contains (sendings_of air) x
  pub tuned : TunedThrough (scene_of s.profile s.trace air) v x

-- nodes do what they received calls for, and what they received was in their reach
pub record Heedful (s : ScenarioParts) (clocks : ℕ → ℕ → ℕ) (air : List Entry) : Type 0 where
  pub trails : FollowsTrails s clocks air
  pub heard : (v : ℕ) (x : Sending) → HasHeardEntry air v x → WasInReach s air v x
