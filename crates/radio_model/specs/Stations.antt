-- What the medium keeps of each node, and how calls change it.
use Rattle.std.specs.Prelude.{◌≡◌, ℕ, ◌+◌, ◌<◌, ◌≤◌, ◌^◌, is_some, is_none, slice_index_or, Contains, All, find, List, [], ◌∷◌, ◌++◌, Bool, false}
use Rattle.std.specs.Prelude.{◌&&◌, ◌||◌, ◌==◌, nat_lt, nat_le, if◌then◌else◌, Option, Some, None, map, length, option_to_list}
use Rattle.circular_buffer.specs.Buffer.{Buffer, buffer, keep_last}
use Rattle.lwb_base.specs.Profile.{Numbers, airtime, IsProfile}
use Rattle.link_trace.specs.Masks.{AreNodes}
use Rattle.radio_model.specs.OnAir.{goes_on_with}
use Rattle.radio_model.specs.declared.sending.Sending.{Sending}
use Rattle.radio_model.specs.declared.tuning.Tuned.{Tuned}
use Rattle.radio_model.specs.declared.tuning.Past.{Past}
use Rattle.radio_model.specs.declared.tuning.RadioTuning.{RadioTuning}
use Rattle.radio_model.specs.declared.station.Station.{Station}

-- the medium: the numbers of its profile, the tick of its last call, and its nodes by ascending ids
pub record MediumState : Type 0 where
  pub numbers : Numbers
  pub now : ℕ
  pub stations : List Station

abbrev pub id_of_station : Station → ℕ
id_of_station st = st.node

abbrev pub nodes_of : MediumState → List ℕ
nodes_of m = map id_of_station m.stations

abbrev pub is_station_of : ℕ → Station → Bool
is_station_of v st = st.node == v

abbrev pub station_of : MediumState → ℕ → Option Station
station_of m v = find (is_station_of v) m.stations

-- the node is tuned and does not send
abbrev pub can_send : Option Station → Bool
can_send None = false
can_send (Some st) = is_some st.tuning.now && is_none st.sending

abbrev pub sending_of_station : Option Station → Option Sending
sending_of_station None = None
sending_of_station (Some st) = st.sending

-- no time falls, none is after the end of a transmission that runs, and all are small
pub record IsTime (m : MediumState) (t : ℕ) : Type 0 where
  pub later : m.now ≤ t
  pub small : t ≤ 2 ^ 46
  pub running : (st : Station) (x : Sending) → Contains m.stations st → st.sending ≡ Some x → t ≤ x.end

-- the node's transmission ends at t, which is its start plus its packet's airtime
pub record Ends (m : MediumState) (v t : ℕ) : Type 0 where
  pub sending : Sending
  pub runs : sending_of_station (station_of m v) ≡ Some sending
  pub until : sending.end ≡ t
  pub lasts : t ≡ sending.start + airtime m.numbers (length sending.packet)

-- tuned to nothing, now and before
abbrev pub untuned : RadioTuning
untuned = record { now = None; last = None }

-- what a node is tuned to
abbrev pub tuning_at : Option Station → RadioTuning
tuning_at None = untuned
tuning_at (Some st) = st.tuning

-- a node as it is at first
abbrev pub fresh : ℕ → ℕ → Station
fresh node place = record { node = node; place = place; tuning = untuned; sending = None; ended = buffer [] 13 }

-- the nodes as they are at first, at places counted from here on
abbrev pub stations_from : ℕ → List ℕ → List Station
stations_from k [] = []
stations_from k (v ∷ vs) = fresh v k ∷ stations_from (k + 1) vs

abbrev pub first_state : Numbers → List ℕ → MediumState
first_state p nodes = record { numbers = p; now = 0; stations = stations_from 0 nodes }

-- the numbers of a profile, 1 to 64 ascending nodes at places counted from 0, and room for the last 13 transmissions of each
pub record IsMedium (m : MediumState) : Type 0 where
  pub profile : IsProfile m.numbers
  pub nodes : AreNodes (nodes_of m)
  pub places : (k : ℕ) (d : Station) → k < length m.stations → (slice_index_or m.stations k d).place ≡ k
  pub rooms : All (λ st. st.ended.capacity ≡ 13) m.stations

-- what the end of a tuning at t leaves as the last one. An empty one leaves nothing
abbrev pub last_at : Option Tuned → Option Past → ℕ → Option Past
last_at None last t = last
last_at (Some o) last t = if nat_lt o.since t then Some (record { rank = o.rank; since = o.since; until = t }) else last

-- one that begins at t on this channel goes on with the last tuning
abbrev pub meets_at : Option Past → ℕ → ℕ → Bool
meets_at None rank t = false
meets_at (Some p) rank t = goes_on_with p.rank p.until rank t

-- since when a tuning of this channel that begins at t lasts, with one that it meets counted as one
abbrev pub since_with : Option Past → ℕ → ℕ → ℕ
since_with None rank t = t
since_with (Some p) rank t = if goes_on_with p.rank p.until rank t then p.since else t

-- whether it is tuned to that channel
abbrev pub is_tuned_to : Option Tuned → ℕ → Bool
is_tuned_to None rank = false
is_tuned_to (Some o) rank = o.rank == rank

-- tuned to this channel from t on, after nothing
abbrev pub tuning_in : ℕ → ℕ → RadioTuning → RadioTuning
tuning_in rank t x = record {
  now = Some (record { rank = rank; since = since_with x.last rank t });
  last = if meets_at x.last rank t then None else x.last;
}

-- tuned to nothing from t on
abbrev pub tuning_out : ℕ → RadioTuning → RadioTuning
tuning_out t x = record { now = None; last = last_at x.now x.last t }

-- tuned to the channel of a rank from t on, or to nothing
abbrev pub tuning_after : Option ℕ → ℕ → RadioTuning → RadioTuning
tuning_after None t x = tuning_out t x
tuning_after (Some rank) t x = if is_tuned_to x.now rank then x else tuning_in rank t (tuning_out t x)

-- the tuning that goes on no more at t, since another one ends then: that which ended last before it
abbrev pub over_at : Option Tuned → Option Past → ℕ → Option Past
over_at None last t = None
over_at (Some o) last t = if nat_lt o.since t then last else None

abbrev pub over_after : Option ℕ → ℕ → RadioTuning → Option Past
over_after None t x = over_at x.now x.last t
over_after (Some rank) t x = if is_tuned_to x.now rank then None else over_at x.now x.last t

abbrev pub station_after_tuning : Option ℕ → ℕ → Station → Station
station_after_tuning rank t st = record st { tuning = tuning_after rank t st.tuning }

-- what the station sends if it begins to send at t. None where it is not tuned
abbrev pub next_sending : Numbers → ℕ → List ℕ → ℕ → Option Tuned → Option Sending
next_sending p t packet node None = None
next_sending p t packet node (Some o) = Some (record { rank = o.rank; node = node; start = t; end = t + airtime p (length packet); packet = packet })

-- the channel on which it begins to send. None where it is not tuned or already sends
abbrev pub begins_on : Option Tuned → Option Sending → Option ℕ
begins_on None s = None
begins_on (Some o) None = Some o.rank
begins_on (Some o) (Some x) = None

-- what is sent goes on
abbrev pub current_or_next : Option Sending → Option Sending → Option Sending
current_or_next None next = next
current_or_next (Some x) next = Some x

abbrev pub station_after_start : Numbers → ℕ → List ℕ → Station → Station
station_after_start p t packet st = record st { sending = current_or_next st.sending (next_sending p t packet st.node st.tuning.now) }

-- the ended transmissions with one more. Where there is no room the oldest one is forgotten
abbrev pub with_ended : Buffer Sending → Option Sending → Buffer Sending
with_ended b None = b
with_ended b (Some x) = buffer (keep_last b.capacity (b.items ++ x ∷ [])) b.capacity

-- the transmission has ended
abbrev pub station_after_end : Station → Station
station_after_end st = record st { sending = None; ended = with_ended st.ended st.sending }

-- the ended transmissions that are kept, the oldest first, and what is sent
abbrev pub on_air : Station → List Sending
on_air st = st.ended.items ++ option_to_list st.sending

-- a change of a station that leaves it its node's
abbrev pub KeepsNode : (Station → Station) → Type 0
KeepsNode change = (st : Station) → (change st).node ≡ st.node

abbrev pub station_changed_at : ℕ → (Station → Station) → Station → Station
station_changed_at v change st = if st.node == v then change st else st

-- the medium at t, where one node's station has changed
abbrev pub medium_after_change : ℕ → ℕ → (Station → Station) → MediumState → MediumState
medium_after_change t v change m = record m { now = t; stations = map (station_changed_at v change) m.stations }

-- the channel's tuning in the tick before t goes back to the start or further
abbrev pub goes_on : Option Tuned → ℕ → ℕ → Bool
goes_on None rank start = false
goes_on (Some o) rank start = (o.rank == rank) && nat_le o.since start

abbrev pub went_until : Option Past → ℕ → ℕ → ℕ → Bool
went_until None rank start t = false
went_until (Some p) rank start t = (p.rank == rank) && nat_le p.since start && nat_le t p.until

abbrev pub covers : Station → ℕ → ℕ → ℕ → Bool
covers st rank start t = goes_on st.tuning.now rank start || went_until st.tuning.last rank start t

-- both are on the air at some tick
abbrev pub overlaps : Sending → Sending → Bool
overlaps x y = nat_lt x.start y.end && nat_lt y.start x.end
