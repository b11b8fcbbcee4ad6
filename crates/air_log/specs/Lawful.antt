-- Which logs are valid: nodes do what they received calls for, and they receive what was sent.
use Rattle.std.specs.Prelude.{◌≡◌, ◌≢◌, ℕ, ◌<◌, ◌↔◌, List, [], ◌∷◌, Bool, false, ◌&&◌, ◌||◌, ◌==◌, nat_lt, if◌then◌else◌, filter, map, IsPermutation, AllPairs}
use Rattle.scenario_text.specs.ScenarioParts.{ScenarioParts}
use Rattle.scenario_text.specs.FloodParts.{knows}
use Rattle.radio_model.specs.declared.sending.Sending.{Sending}
use Rattle.radio_model.specs.OnAir.{Hearing, Tuning}
use Rattle.air_log.specs.declared.entry.Entry.{Entry}
use Rattle.air_log.specs.Entries.{sendings_of, hearings_of, tunings_of, HasHeardEntry}
use Rattle.air_log.specs.HearsAir.{HearsAir}
use Rattle.air_log.specs.Devices.{Device}
use Rattle.air_log.specs.Trails.{Reception, run_end, trail}

-- by end, and then by sender
abbrev pub reception_comes_before : Hearing → Hearing → Bool
reception_comes_before g h = nat_lt g.sending.end h.sending.end || ((g.sending.end == h.sending.end) && nat_lt g.sending.node h.sending.node)

-- a reception put to its place, before all that do not come before it
abbrev pub put_in : Hearing → List Hearing → List Hearing
put_in h [] = h ∷ []
put_in h (g ∷ gs) = if reception_comes_before g h then g ∷ put_in h gs else h ∷ g ∷ gs

-- by end, then sender, then place in the list
abbrev pub by_end : List Hearing → List Hearing
by_end [] = []
by_end (h ∷ hs) = put_in h (by_end hs)

-- none comes before one that is before it
abbrev pub AreInTurn : List Hearing → Type 0
AreInTurn hs = AllPairs (λ g h. reception_comes_before h g ≡ false) hs

abbrev pub reception_of : Hearing → Reception
reception_of h = record { packet = h.sending.packet; end = h.sending.end }

-- what v received, as it is in the log, and in the order in which its trail takes it
abbrev pub hearings_by : List Entry → ℕ → List Hearing
hearings_by air v = filter (λ h. h.node == v) (hearings_of air)

abbrev pub heard_by : List Entry → ℕ → List Reception
heard_by air v = map reception_of (by_end (hearings_by air v))

abbrev pub sent_by : List Entry → ℕ → List Sending
sent_by air v = filter (λ x. x.node == v) (sendings_of air)

abbrev pub tuned_by : List Entry → ℕ → List Tuning
tuned_by air v = filter (λ t. t.node == v) (tunings_of air)

-- the trail of v over what it received
abbrev pub trail_in : ScenarioParts → (ℕ → ℕ → ℕ) → List Entry → ℕ → Device
trail_in s clocks air v = trail s v (clocks v) (heard_by air v)

-- an id that is no node of the scenario has done nothing
abbrev pub trail_sent : ScenarioParts → (ℕ → ℕ → ℕ) → List Entry → ℕ → List Sending
trail_sent s clocks air v = if knows s.nodes v then (trail_in s clocks air v).made.sent else []

abbrev pub trail_tuned : ScenarioParts → (ℕ → ℕ → ℕ) → List Entry → ℕ → List Tuning
trail_tuned s clocks air v = if knows s.nodes v then (trail_in s clocks air v).made.tuned else []

-- the transmissions and tunings of each id are those of its trail, each once
pub record FollowsTrails (s : ScenarioParts) (clocks : ℕ → ℕ → ℕ) (air : List Entry) : Type 0 where
  pub sent : (v : ℕ) → IsPermutation (trail_sent s clocks air v) (sent_by air v)
  pub tuned : (v : ℕ) → IsPermutation (trail_tuned s clocks air v) (tuned_by air v)

-- v has a Heard entry, once, exactly of each transmission that ends in the run and that it receives
pub record FollowsHearing (s : ScenarioParts) (air : List Entry) : Type 0 where
  pub heard : (v : ℕ) (x : Sending) → HasHeardEntry air v x ↔ ((x.end < run_end s) × HearsAir s.profile s.trace air v x)
  pub once : AllPairs (λ g h. g ≢ h) (hearings_of air)

pub record Lawful (s : ScenarioParts) (clocks : ℕ → ℕ → ℕ) (air : List Entry) : Type 0 where
  pub trails : FollowsTrails s clocks air
  pub hearing : FollowsHearing s air
