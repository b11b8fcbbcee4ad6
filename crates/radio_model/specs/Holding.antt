-- What the medium keeps is all that matters of what happened.
use Rattle.std.specs.Prelude.{◌≡◌, ℕ, ◌+◌, ◌<◌, ◌≤◌, ◌↔◌, ◌⊎◌, List, [], ◌∷◌, ◌++◌, true, if◌then◌else◌, nat_lt}
use Rattle.std.specs.Prelude.{Option, Some, None, is_none, filter_map, option_to_list, length, Contains}
use Rattle.lwb_base.specs.Profile.{Numbers, airtime}
use Rattle.link_trace.specs.Passes.{Lines}
use Rattle.radio_model.specs.OnAir.{Sending, Tuning}
use Rattle.radio_model.specs.Hearing.{Scene, IsTuned}
use Rattle.radio_model.specs.Stations.{MediumState, station_of, is_tuned_to, on_air, covers, next_sending}
use Rattle.radio_model.specs.declared.tuning.Tuned.{Tuned}
use Rattle.radio_model.specs.declared.tuning.Past.{Past}
use Rattle.radio_model.specs.declared.station.Station.{Station}

abbrev pub longest : Numbers → ℕ
longest p = airtime p 125

abbrev pub shortest : Numbers → ℕ
shortest p = airtime p 3

-- a tuning that lasts, taken until t
abbrev pub lasting : ℕ → Option Tuned → ℕ → Option Tuning
lasting v None t = None
lasting v (Some o) t = Some (record { rank = o.rank; node = v; start = o.since; end = t })

abbrev pub lasting_at : ℕ → Station → Option Tuning
lasting_at t st = lasting st.node st.tuning.now t

-- the scene of the ended tunings, with those that last at t
abbrev pub as_it_stands : MediumState → ℕ → Scene → Scene
as_it_stands m t a = record a { tunings = a.tunings ++ filter_map (lasting_at t) m.stations }

-- nothing has happened yet
abbrev pub nothing_yet : Numbers → Lines → Scene
nothing_yet p lines = record { numbers = p; lines = lines; sendings = []; tunings = [] }

-- the tuning of v that the call to tune it to this channel at t ends, if it is not empty
abbrev pub ended_tuning : ℕ → Option ℕ → ℕ → Option Tuned → Option Tuning
ended_tuning v rank t None = None
ended_tuning v None t (Some o) = if nat_lt o.since t then lasting v (Some o) t else None
ended_tuning v (Some r) t (Some o) = if is_tuned_to (Some o) r then None else (if nat_lt o.since t then lasting v (Some o) t else None)

abbrev pub tuned_of : Option Station → Option Tuned
tuned_of None = None
tuned_of (Some st) = st.tuning.now

-- the scene after the node is tuned to a channel, or to nothing, at t
abbrev pub after_tuning : MediumState → ℕ → Option ℕ → ℕ → Scene → Scene
after_tuning m v rank t a = record a { tunings = a.tunings ++ option_to_list (ended_tuning v rank t (tuned_of (station_of m v))) }

-- what the node sends if it begins at t. None where it is not tuned or already sends
abbrev pub sending_at_start : Numbers → ℕ → List ℕ → Option Station → Option Sending
sending_at_start p t packet None = None
sending_at_start p t packet (Some st) = if is_none st.sending then next_sending p t packet st.node st.tuning.now else None

abbrev pub after_starting : MediumState → ℕ → ℕ → List ℕ → Scene → Scene
after_starting m v t packet a = record a { sendings = a.sendings ++ option_to_list (sending_at_start m.numbers t packet (station_of m v)) }

pub record IsKept (m : MediumState) (y : Sending) : Type 0 where
  pub station : Station
  pub there : Contains m.stations station
  pub kept : Contains (on_air station) y

-- from the start on, at each tick before t
abbrev pub TunedFrom : Scene → ℕ → ℕ → ℕ → ℕ → Type 0
TunedFrom a v channel start t = (k : ℕ) → start ≤ k → k < t → IsTuned a v channel k

-- a transmission of this node lasts its packet's airtime
pub record IsOwn (p : Numbers) (v : ℕ) (y : Sending) : Type 0 where
  pub node : y.node ≡ v
  pub lasts : y.end ≡ y.start + airtime p (length y.packet)
  pub short : 3 ≤ length y.packet
  pub long : length y.packet ≤ 125

-- each transmission starts when the one before it is over
abbrev pub InTurn : ℕ → List Sending → Type 0
InTurn from [] = Unit {0}
InTurn from (y ∷ ys) = (from ≤ y.start) × InTurn y.end ys

-- the last tuning was over when the present one began, and did not meet one of the same channel
abbrev pub IsOrder : ℕ → Option Tuned → Option Past → Type 0
IsOrder now None None = Unit {0}
IsOrder now (Some o) None = o.since ≤ now
IsOrder now None (Some q) = (q.since < q.until) × (q.until ≤ now)
IsOrder now (Some o) (Some q) = (o.since ≤ now) × (q.since < q.until) × (q.until ≤ o.since) × (q.rank ≡ o.rank → q.until < o.since)

pub record IsOrderly (p : Numbers) (now : ℕ) (st : Station) : Type 0 where
  pub own : (y : Sending) → Contains (on_air st) y → IsOwn p st.node y
  pub in_turn : InTurn 0 (on_air st)
  pub over : (y : Sending) → Contains st.ended.items y → y.end ≤ now
  pub tunings : IsOrder now st.tuning.now st.tuning.last

-- of all transmissions and ended tunings up to now the medium keeps what can still matter
pub record Holds (m : MediumState) (a : Scene) : Type 0 where
  pub numbers : a.numbers ≡ m.numbers
  pub orderly : (st : Station) → Contains m.stations st → IsOrderly m.numbers m.now st
  -- a transmission is kept, or it ended so long ago that none that still runs had begun
  pub known : (y : Sending) → Contains a.sendings y → IsKept m y ⊎ (y.end + longest m.numbers ≤ m.now)
  pub sent : (y : Sending) → IsKept m y → Contains a.sendings y
  pub past : (k : Tuning) → Contains a.tunings k → k.end ≤ m.now
  -- how long a node has been tuned to a channel, at each tick from now on
  pub tuned : (st : Station) → Contains m.stations st → (channel start t : ℕ) → m.now ≤ t → start < t
      → TunedFrom (as_it_stands m t a) st.node channel start t ↔ (covers st channel start t ≡ true)

-- the same happened before t
pub record Agree (t : ℕ) (a b : Scene) : Type 0 where
  pub numbers : a.numbers ≡ b.numbers
  pub lines : a.lines ≡ b.lines
  pub sendings : (y : Sending) → y.start < t → Contains a.sendings y ↔ Contains b.sendings y
  pub tuned : (v channel k : ℕ) → k < t → IsTuned a v channel k ↔ IsTuned b v channel k

-- the same transmissions up to now, and the same ended tunings, however they are split
pub record SameHistory (now : ℕ) (a b : Scene) : Type 0 where
  pub numbers : a.numbers ≡ b.numbers
  pub sendings : (y : Sending) → Contains a.sendings y ↔ Contains b.sendings y
  pub tuned : (v channel k : ℕ) → IsTuned a v channel k ↔ IsTuned b v channel k
  pub past : (k : Tuning) → Contains b.tunings k → k.end ≤ now
