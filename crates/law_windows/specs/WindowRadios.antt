-- How long the radio of a node is on in a window.
use Rattle.std.specs.Prelude.{◌≡◌, ℕ, ◌+◌, ◌<◌, ◌≤◌, List, [], ◌∷◌, Bool, false, if◌then◌else◌, nat_le}
use Rattle.std.specs.Option.{IfSome}
use Rattle.radio_model.specs.Hearing.{IsTuned}
use Rattle.scenario_text.specs.ScenarioParts.{ScenarioParts}
use Rattle.air_log.specs.declared.entry.Entry.{Entry}
use Rattle.air_log.specs.HearsAir.{scene_of}
use Rattle.air_log.specs.WindowLogs.{WindowLog, Happening, HeardAt, SentAt}

abbrev pub is_sent_by : ℕ → Happening → Bool
is_sent_by k (HeardAt t p) = false
is_sent_by k (SentAt t p) = nat_le t k

-- how many of the own transmissions have ended by tick k
abbrev pub sendings_in : ℕ → List Happening → ℕ
sendings_in k [] = 0
sendings_in k (e ∷ es) = (if is_sent_by k e then 1 else 0) + sendings_in k es

abbrev pub sendings_by : ℕ → WindowLog → ℕ
sendings_by k w = sendings_in k w.happenings

-- the window is open at tick k, as it is left there
pub record IsOpenAt (w : WindowLog) (k : ℕ) : Type 0 where
  pub since : w.opened ≤ k
  pub until : IfSome w.closed (λ c. k < c.tick)

-- at each tick of a window up to the present one its node is tuned, by the log, to the window's channel while fewer transmissions
-- have ended than it sends at most, and to none from then on
pub record IsTunedThen (s : ScenarioParts) (air : List Entry) (v now : ℕ) (w : WindowLog) : Type 0 where
  pub tuned : (k : ℕ) → k < now → IsOpenAt w k → sendings_by k w < s.sends → IsTuned (scene_of s.profile s.trace air) v w.rank k
  pub only : (k rank : ℕ) → k < now → IsOpenAt w k → IsTuned (scene_of s.profile s.trace air) v rank k
      → (rank ≡ w.rank) × (sendings_by k w < s.sends)
