-- What decides whether a transmission is received, as the medium works it out from what it keeps.
use Rattle.std.specs.Prelude.{◌≡◌, ℕ, ◌+◌, ◌/◌, ◌<◌, ◌≤◌, List, Bool, true, false, not, ◌&&◌, ◌||◌, ◌==◌, nat_lt, nat_le}
use Rattle.std.specs.Prelude.{if◌then◌else◌, Option, Some, None, filter_map, length, slice_index, slice_index_or}
use Rattle.std.specs.List.{list_any, flat_map}
use Rattle.std.specs.Str.{bytes_eq}
use Rattle.std.specs.Int.{bit_at}
use Rattle.std.specs.Int.RustNames.{bit_or}
use Rattle.lwb_base.specs.Profile.{Numbers}
use Rattle.link_trace.specs.Passes.{Lines, passes}
use Rattle.link_trace.specs.Passes.{captured}
use Rattle.link_trace.specs.Masks.{IsMaskAmong}
use Rattle.radio_model.specs.Stations.{on_air, overlaps, covers}
use Rattle.radio_model.specs.declared.sending.Sending.{Sending}
use Rattle.radio_model.specs.declared.station.Station.{Station}
use Rattle.radio_model.specs.declared.brought.Brought.{Brought}
use Rattle.radio_model.specs.declared.crowd.Crowd.{Crowd}
use Rattle.radio_model.specs.declared.rivals.Key.{Key}
use Rattle.radio_model.specs.declared.rivals.Rival.{Rival}

abbrev pub key_of : Numbers → Sending → Key
key_of p y = record { frame = y.start / p.frame; slot = slice_index y.packet 1; counter = slice_index y.packet 2 }

-- from this tick until t the frame is the same
abbrev pub IsInOneFrame : ℕ → ℕ → ℕ → Type 0
IsInOneFrame frame t opens = (k : ℕ) → opens ≤ k → k ≤ t → k / frame ≡ t / frame

-- by start and then sender, x is y or comes before it, and y starts within the greatest displacement
abbrev pub comes_in_time : Numbers → Sending → Sending → Bool
comes_in_time p x y = (nat_lt x.start y.start || ((x.start == y.start) && nat_le x.node y.node)) && nat_le y.start (x.start + p.delta)

-- a transmission of this station, if it overlaps x on its channel
abbrev pub rival_to : Numbers → Sending → Station → Sending → Option Rival
rival_to p x st y =
    if (y.rank == x.rank) && overlaps x y
    then Some (record { node = st.node; key = key_of p y; same = bytes_eq y.packet x.packet; in_time = comes_in_time p x y })
    else None

abbrev pub rivals_in : Numbers → Sending → Station → List Rival
rivals_in p x st = filter_map (rival_to p x st) (on_air st)

abbrev pub rivals_to : Numbers → Sending → List Station → List Rival
rivals_to p x sts = flat_map (rivals_in p x) sts

-- the link from node u to v passes at the key
abbrev pub passes_at : Lines → Key → ℕ → ℕ → Bool
passes_at lines k u v = passes lines k.frame k.slot k.counter u v

abbrev pub reaches : Lines → ℕ → Rival → Bool
reaches lines v r = passes_at lines r.key r.node v

-- the same packet comes to v earlier than x, or too late after it
abbrev pub spoils : Lines → ℕ → Rival → Bool
spoils lines v r = reaches lines v r && r.same && not r.in_time

-- another packet comes to v
abbrev pub differs : Lines → ℕ → Rival → Bool
differs lines v r = reaches lines v r && not r.same

-- the same packet comes to v
abbrev pub repeats : Lines → ℕ → Rival → Bool
repeats lines v r = reaches lines v r && r.same

-- the same packet comes to v from this node
abbrev pub comes_from : Lines → ℕ → ℕ → Rival → Bool
comes_from lines v u r = reaches lines v r && r.same && (r.node == u)

abbrev pub is_chosen : Lines → ℕ → List Rival → Option ℕ → Bool
is_chosen lines v rs None = false
is_chosen lines v rs (Some u) = list_any (comes_from lines v u) rs

-- whether the node of this station receives x, which has this key and ends now: by whether x reaches it, whether the same
-- packet spoils it, and whether another packet comes to it
abbrev pub hears_by : Bool → Bool → Bool → Lines → Sending → Key → List Rival → Station → Bool
hears_by reached spoiled mixed lines x k rs st =
    reached && not spoiled && covers st x.rank x.start x.end && not (list_any (overlaps x) (on_air st))
    && (not mixed || is_chosen lines st.node rs (captured lines k.frame k.slot k.counter st.node))

-- the node of this station receives x, which has this key and ends now, from node u
abbrev pub is_heard : Lines → ℕ → Sending → Key → List Rival → Station → Bool
is_heard lines u x k rs st =
    hears_by (passes_at lines k u st.node) (list_any (spoils lines st.node) rs) (list_any (differs lines st.node) rs) lines x k rs st

abbrev pub reception_pair : Lines → ℕ → Sending → Key → List Rival → Station → Option (ℕ × ℕ)
reception_pair lines u x k rs st = if is_heard lines u x k rs st then Some (st.node, u) else None

-- all that receive x from node u, with that node
abbrev pub hearers_to : Numbers → Lines → ℕ → Sending → List Station → List (ℕ × ℕ)
hearers_to p lines u x sts = filter_map (reception_pair lines u x (key_of p x) (rivals_to p x sts)) sts

-- a place and a node that belong together
pub record IsPlaceOf (nodes : List ℕ) (place node : ℕ) : Type 0 where
  pub below : place < length nodes
  pub there : slice_index nodes place ≡ node

-- to which of the nodes of a set these rivals bring what, by masks
pub record IsBrought (lines : Lines) (nodes : List ℕ) (among : ℕ) (rs : List Rival) (b : Brought) : Type 0 where
  pub mixed : IsMaskAmong (λ v. list_any (differs lines v) rs) nodes among b.mixed
  pub spoiled : IsMaskAmong (λ v. list_any (spoils lines v) rs) nodes among b.spoiled
  pub same : IsMaskAmong (λ v. list_any (repeats lines v) rs) nodes among b.same

abbrev pub nothing_brought : Brought
nothing_brought = record { mixed = 0; spoiled = 0; same = 0 }

abbrev pub both_brought : Brought → Brought → Brought
both_brought a b = record { mixed = bit_or a.mixed b.mixed; spoiled = bit_or a.spoiled b.spoiled; same = bit_or a.same b.same }

-- by a rival that reaches the nodes of this mask
abbrev pub brought_by : Rival → ℕ → Brought
brought_by r reach = record {
  mixed = if not r.same then reach else 0;
  spoiled = if r.same && not r.in_time then reach else 0;
  same = if r.same then reach else 0;
}

-- what they bring that keeps nodes of a set from receiving x
pub record IsCrowd (lines : Lines) (nodes : List ℕ) (among : ℕ) (rs : List Rival) (c : Crowd) : Type 0 where
  pub mixed : IsMaskAmong (λ v. list_any (differs lines v) rs) nodes among c.mixed
  pub spoiled : IsMaskAmong (λ v. list_any (spoils lines v) rs) nodes among c.spoiled

abbrev pub no_crowd : Crowd
no_crowd = record { mixed = 0; spoiled = 0 }

abbrev pub both_crowds : Crowd → Crowd → Crowd
both_crowds a b = record { mixed = bit_or a.mixed b.mixed; spoiled = bit_or a.spoiled b.spoiled }

-- to each node of this mask one of these rivals brings the same packet out of time
abbrev pub AreSpoiled : Lines → List ℕ → List Rival → ℕ → Type 0
AreSpoiled lines nodes rs mask = (i : ℕ) → bit_at mask i ≡ 1 → list_any (spoils lines (slice_index nodes i)) rs ≡ true

-- each bit is of a node to which one of these rivals brings so
pub record IsFrom (lines : Lines) (nodes : List ℕ) (rs : List Rival) (c : Crowd) : Type 0 where
  pub mixed : (i : ℕ) → bit_at c.mixed i ≡ 1 → list_any (differs lines (slice_index nodes i)) rs ≡ true
  pub spoiled : AreSpoiled lines nodes rs c.spoiled

-- what these rivals bring to node i has its bit: the same packet out of time, and if none comes so, another packet
pub record HasBitsOf (lines : Lines) (nodes : List ℕ) (rs : List Rival) (i : ℕ) (c : Crowd) : Type 0 where
  pub mixed : bit_at c.spoiled i ≡ 0 → bit_at c.mixed i ≡ 0 → list_any (differs lines (slice_index nodes i)) rs ≡ false
  pub spoiled : bit_at c.spoiled i ≡ 0 → list_any (spoils lines (slice_index nodes i)) rs ≡ false

-- what the stations at these places bring to a node that is ready has its bit
abbrev pub TellsAt : Lines → List ℕ → Numbers → Sending → List Station → ℕ → (ℕ → Type 0) → Crowd → Type 0
TellsAt lines nodes p x sts ready At c =
    (k i : ℕ) (d : Station) → i < length nodes → bit_at ready i ≡ 1 → At k → HasBitsOf lines nodes (rivals_in p x (slice_index_or sts k d)) i c

-- no bit is lost
pub record AddsTo (old new : Crowd) : Type 0 where
  pub mixed : (i : ℕ) → bit_at new.mixed i ≡ 0 → bit_at old.mixed i ≡ 0
  pub spoiled : (i : ℕ) → bit_at new.spoiled i ≡ 0 → bit_at old.spoiled i ≡ 0

-- from a node without its bit no link passes at the key to one of these
abbrev pub IsNear : Lines → Key → List ℕ → (ℕ → Type 0) → ℕ → Type 0
IsNear lines key nodes To near =
    (i k : ℕ) → To i → k < length nodes → bit_at near k ≡ 0 → passes_at lines key (slice_index nodes k) (slice_index nodes i) ≡ false

-- of the bits of a mask, those where a test holds
pub record AreThose (test : ℕ → Bool) (mask those : ℕ) : Type 0 where
  pub among : (k : ℕ) → bit_at those k ≡ 1 → bit_at mask k ≡ 1
  pub so : (k : ℕ) → bit_at those k ≡ 1 → test k ≡ true
  pub others : (k : ℕ) → bit_at mask k ≡ 1 → bit_at those k ≡ 0 → test k ≡ false

-- the node of this station is on the channel of x all the time, and sends nothing next to it
abbrev pub is_ready : Sending → Station → Bool
is_ready x st = covers st x.rank x.start x.end && not (list_any (overlaps x) (on_air st))
