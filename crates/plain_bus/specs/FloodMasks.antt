-- A flood by masks of the nodes that a trace is sealed with.
use Rattle.std.specs.Prelude.{◌≡◌, ◌≢◌, ◌<◌, ◌==◌, ℕ, ◌+◌, List, Bool, true, false, is_some, is_none, not, ◌&&◌, ◌||◌, nat_lt, Some, None}
use Rattle.std.specs.Prelude.{if◌then◌else◌, length, map, slice_index, slice_index_or, option_map}
use Rattle.std.specs.declared.option.Option.{Option}
use Rattle.std.specs.Int.{bit_at}
use Rattle.link_trace.specs.Masks.{IsMask}
use Rattle.link_trace.specs.Passes.{Lines, passes, captured}
pub use Rattle.link_trace.specs.Sealed.{traced}
use Rattle.link_trace.specs.Sealed.{Traced}
use Rattle.bus_terms.specs.Flooding.{Setting, Moment, moment, STEPS, has, agrees, first_heard}
use Rattle.plain_bus.specs.declared.station.Flood.{Flood}
use Rattle.plain_bus.specs.declared.station.Station.{Station}
use Rattle.plain_bus.specs.declared.station.Stations.{Stations}

-- the flood is this one, among the nodes of the seal
pub record IsMaskedFlood (s : Setting) (t : Traced) (f : Flood) : Type 0 where
  pub limit : s.limit ≡ f.limit
  pub links : (k u v : ℕ) → s.passes k u v ≡ passes t.lines f.frame f.slot k u v
  pub captures : (k v : ℕ) → s.captured k v ≡ captured t.lines f.frame f.slot k v
  pub initiators : IsMask (has s.initiators) t.nodes f.initiators
  pub everyone : IsMask (has s.everyone) t.nodes f.everyone
  pub here : (v : ℕ) → has s.everyone v ≡ true → has t.nodes v ≡ true
  pub inside : (v : ℕ) → has s.initiators v ≡ true → has s.everyone v ≡ true
  pub lone : (o v : ℕ) → f.lone ≡ Some o → has s.initiators v ≡ true → v ≡ o

-- only nodes that take part send, and each sends for an initiator
pub record SendsForInitiators (s : Setting) (m : Moment) : Type 0 where
  pub senders : (v o : ℕ) → m.sends v ≡ Some o → has s.everyone v ≡ true
  pub origins : (v o : ℕ) → m.sends v ≡ Some o → has s.initiators o ≡ true

abbrev pub station_at : Moment → ℕ → Station
station_at m v = record { node = v; sends = m.sends v; times = m.times v; heard = m.heard v }

-- the nodes at this moment
pub record AreAt (m : Moment) (nodes : List ℕ) (x : Stations) : Type 0 where
  pub each : x.each.items ≡ map (station_at m) nodes
  pub senders : IsMask (λ v. is_some (m.sends v)) nodes x.senders

-- who sends in each of these steps, as masks by step
abbrev pub AreSendersOf : (ℕ → ℕ → Bool) → List ℕ → List ℕ → Type 0
AreSendersOf sends nodes masks = (k : ℕ) → k < length masks → IsMask (λ v. sends v k) nodes (slice_index masks k)

abbrev pub sends_in : Setting → ℕ → ℕ → Bool
sends_in s v k = is_some ((moment s k).sends v)

abbrev pub AreSenders : Setting → List ℕ → List ℕ → Type 0
AreSenders s nodes masks = AreSendersOf (sends_in s) nodes masks

-- what the node at place i sends, if it is one of the mask
abbrev pub origin_sent_at : List Station → ℕ → ℕ → Station → Option ℕ
origin_sent_at xs from i d = if bit_at from i == 1 then (slice_index_or xs i d).sends else None

-- the nodes of the mask give what they send, and nobody else gives anything
pub record AreOffers (give : ℕ → Option ℕ) (xs : List Station) (from : ℕ) : Type 0 where
  pub each : (i : ℕ) (d : Station) → i < length xs → give (slice_index_or xs i d).node ≡ origin_sent_at xs from i d
  pub only : (u o : ℕ) → give u ≡ Some o → (i : ℕ) × (i < length xs) × ((d : Station) → (slice_index_or xs i d).node ≡ u)

-- one of the origins that are given, and none where there is none
abbrev pub IsOffer : (ℕ → Option ℕ) → Option ℕ → Type 0
IsOffer give None = (u : ℕ) → give u ≡ None
IsOffer give (Some o) = (u : ℕ) × (give u ≡ Some o)

-- whether this origin alone is given
abbrev pub AllOffer : (ℕ → Option ℕ) → ℕ → Bool → Type 0
AllOffer give origin true = (u o : ℕ) → give u ≡ Some o → o ≡ origin
AllOffer give origin false = (u : ℕ) × (o : ℕ) × (give u ≡ Some o) × (o ≡ origin → ⊥)

-- a node after a step in which it received this
abbrev pub station_after : ℕ → Station → Option ℕ → Station
station_after k x heard = record {
  node = x.node;
  sends = if nat_lt (k + 1) STEPS then heard else None;
  times = x.times + (if is_some x.sends then 1 else 0);
  heard = first_heard x.heard k heard;
}

-- the node at this place may receive something
abbrev pub may_hear_at : Flood → Station → ℕ → Bool
may_hear_at f x place = (bit_at f.everyone place == 1) && is_none x.sends && nat_lt x.times f.limit

-- and takes this origin
abbrev pub takes_at : Flood → Station → ℕ → ℕ → Bool
takes_at f x place o = (not (bit_at f.initiators place == 1) || (x.node == o)) && agrees x.heard o

-- the mask has just those of `among` that one of the senders' mask reaches in step k, and perhaps other nodes that one reaches
pub record AreReached (t : Traced) (f : Flood) (k senders among mask : ℕ) : Type 0 where
  pub some : (i : ℕ) → bit_at mask i ≡ 1
      → (j : ℕ) × (j < length t.nodes) × (bit_at senders j ≡ 1) × (passes t.lines f.frame f.slot k (slice_index t.nodes j) (slice_index t.nodes i) ≡ true)
  pub none : (i j : ℕ) → i < length t.nodes → bit_at among i ≡ 1 → bit_at mask i ≡ 0 → j < length t.nodes → bit_at senders j ≡ 1
      → passes t.lines f.frame f.slot k (slice_index t.nodes j) (slice_index t.nodes i) ≡ false

-- no other initiates
abbrev pub IsLone : Setting → ℕ → Type 0
IsLone s o = (v : ℕ) → has s.initiators v ≡ true → v ≡ o

-- what a node receives where this origin alone is sent, and reaches the nodes of the mask
abbrev pub heard_alone : Flood → ℕ → ℕ → ℕ → Station → Option ℕ
heard_alone f mask place o x = if (bit_at mask place == 1) && may_hear_at f x place && takes_at f x place o then Some o else None

-- the new mask has the senders of the old one, and the node at this place if it sends
pub record AddsSender (mask place : ℕ) (x : Station) (new : ℕ) : Type 0 where
  pub own : bit_at new place ≡ (if is_some x.sends then 1 else bit_at mask place)
  pub others : (i : ℕ) → i ≢ place → bit_at new i ≡ bit_at mask i

-- a node at the beginning of a flood
abbrev pub station_first : Flood → ℕ → ℕ → Station
station_first f place v = record { node = v; sends = if bit_at f.initiators place == 1 then Some v else None; times = 0; heard = None }

-- what a node other than the starting one accepted, with the step
abbrev pub accepted_from : ℕ → Station → Option (ℕ × ℕ)
accepted_from start x = option_map (λ a. (x.node, a.1)) (if x.node == start then None else x.heard)
