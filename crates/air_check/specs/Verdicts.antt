-- Whether a log is valid, and what is wrong first where it isn't.
use Rattle.std.specs.Prelude.{◌≡◌, ◌≢◌, ℕ, ◌+◌, ◌<◌, ◌≤◌, ◌⊎◌, List, ◌∷◌, ◌++◌, Contains, AllPairs, IsPermutation, length}
use Rattle.scenario_text.specs.ScenarioParts.{ScenarioParts}
use Rattle.radio_model.specs.declared.sending.Sending.{Sending}
use Rattle.radio_model.specs.OnAir.{Hearing}
use Rattle.air_log.specs.declared.entry.Entry.{Entry}
use Rattle.air_log.specs.Entries.{hearings_of, HasHeardEntry, heard_entry}
use Rattle.air_log.specs.HearsAir.{HearsAir}
use Rattle.air_log.specs.Lawful.{Lawful as LawfulLog, FollowsTrails, trail_sent, trail_tuned, sent_by, tuned_by}
use Rattle.air_log.specs.Trails.{run_end}
use Rattle.air_check.specs.declared.verdict.Verdict.{Verdict}
use Rattle.air_check.specs.declared.verdict.Verdict.TheVariants.{Lawful, Trail, Heard, Missing}

-- the transmissions and tunings of v are those of its trail, each once
pub record FollowsTrail (s : ScenarioParts) (clocks : ℕ → ℕ → ℕ) (air : List Entry) (v : ℕ) : Type 0 where
  pub sent : IsPermutation (trail_sent s clocks air v) (sent_by air v)
  pub tuned : IsPermutation (trail_tuned s clocks air v) (tuned_by air v)

-- v is the least id of which they are not
pub record IsFirstAstray (s : ScenarioParts) (clocks : ℕ → ℕ → ℕ) (air : List Entry) (v : ℕ) : Type 0 where
  pub astray : FollowsTrail s clocks air v → ⊥
  pub least : (u : ℕ) → u < v → FollowsTrail s clocks air u

-- the rules of the medium give v a reception of x
pub record IsGiven (s : ScenarioParts) (air : List Entry) (v : ℕ) (x : Sending) : Type 0 where
  pub ends : x.end < run_end s
  pub heard : HearsAir s.profile s.trace air v x

-- the receptions in these entries are given, each once
pub record AreGiven (s : ScenarioParts) (air entries : List Entry) : Type 0 where
  pub given : (v : ℕ) (x : Sending) → HasHeardEntry entries v x → IsGiven s air v x
  pub once : AllPairs (λ g h. g ≢ h) (hearings_of entries)

-- entry i, counted from 1, is the first reception that is not given, or is above already
pub record IsFirstWrong (s : ScenarioParts) (air : List Entry) (i : ℕ) : Type 0 where
  pub above : List Entry
  pub hearing : Hearing
  pub below : List Entry
  pub splits : air ≡ above ++ heard_entry hearing.node hearing.sending ∷ below
  pub place : i ≡ length above + 1
  pub right : AreGiven s air above
  pub wrong : (IsGiven s air hearing.node hearing.sending → ⊥) ⊎ Contains (hearings_of above) hearing

-- a reception of x by v is given and is not there
pub record IsMissing (s : ScenarioParts) (air : List Entry) (v : ℕ) (x : Sending) : Type 0 where
  pub given : IsGiven s air v x
  pub absent : HasHeardEntry air v x → ⊥

-- by start, then sender, then receiver, x by v is no later than y by w
pub record NoLater (v : ℕ) (x : Sending) (w : ℕ) (y : Sending) : Type 0 where
  pub start : x.start ≤ y.start
  pub sender : x.start ≡ y.start → x.node ≤ y.node
  pub receiver : x.start ≡ y.start → x.node ≡ y.node → v ≤ w

-- the first that is missing is received by v, and was sent by u from tick t on
pub record IsFirstMissing (s : ScenarioParts) (air : List Entry) (v u t : ℕ) : Type 0 where
  pub sending : Sending
  pub missing : IsMissing s air v sending
  pub sender : u ≡ sending.node
  pub start : t ≡ sending.start
  pub first : (w : ℕ) (y : Sending) → IsMissing s air w y → NoLater v sending w y

-- trails come first, then receptions that are there, then those that are missing
abbrev pub IsVerdict : ScenarioParts → (ℕ → ℕ → ℕ) → List Entry → Verdict → Type 0
IsVerdict s clocks air Lawful = LawfulLog s clocks air
IsVerdict s clocks air (Trail v) = IsFirstAstray s clocks air v
IsVerdict s clocks air (Heard i) = FollowsTrails s clocks air × IsFirstWrong s air i
IsVerdict s clocks air (Missing v u t) = FollowsTrails s clocks air × AreGiven s air air × IsFirstMissing s air v u t
