-- What decides whether a node receives a transmission, over transmissions among which are all that overlap it.
use Rattle.std.specs.Prelude.{ℕ, List, Bool, false, not, ◌&&◌, ◌||◌, ◌==◌, Option, Some, None, Contains}
use Rattle.std.specs.List.{list_any}
use Rattle.std.specs.Str.{bytes_eq}
use Rattle.lwb_base.specs.Profile.{Numbers}
use Rattle.link_trace.specs.Passes.{Lines, passes, captured}
use Rattle.radio_model.specs.Hearing.{Meets, frame_of_sending, slot_of_sending, counter_of_sending}
use Rattle.radio_model.specs.Meetings.{comes_in_time}
use Rattle.radio_model.specs.OnAir.{Sending}
use Rattle.radio_model.specs.Stations.{overlaps}

-- these are of the list, and all that overlap x are among them
pub record AreNear (sent : List Sending) (x : Sending) (near : List Sending) : Type 0 where
  pub among : (y : Sending) → Contains near y → Contains sent y
  pub all : (y : Sending) → Contains sent y → Meets x y → Contains near y

-- v itself transmits y while x is on the air
abbrev pub transmits : ℕ → Sending → Sending → Bool
transmits v x y = (y.node == v) && overlaps x y

-- the link passes from the sender of y to v
abbrev pub arrives : Numbers → Lines → ℕ → Sending → Bool
arrives p lines v y = passes lines (frame_of_sending p y) (slot_of_sending y) (counter_of_sending y) y.node v

-- y is on the channel of x while x is on the air
abbrev pub meets_on : Sending → Sending → Bool
meets_on x y = (y.rank == x.rank) && overlaps x y

-- with the packet of x
abbrev pub repeats : Sending → Sending → Bool
repeats x y = meets_on x y && bytes_eq y.packet x.packet

-- with the packet of x, but earlier than x or too late after it, y comes to v
abbrev pub spoils : Numbers → Lines → ℕ → Sending → Sending → Bool
spoils p lines v x y = repeats x y && not (comes_in_time p x y) && arrives p lines v y

-- with another packet y comes to v
abbrev pub differs : Numbers → Lines → ℕ → Sending → Sending → Bool
differs p lines v x y = meets_on x y && not (bytes_eq y.packet x.packet) && arrives p lines v y

-- with the packet of x, y comes to v from node u
abbrev pub repeats_from : Numbers → Lines → ℕ → Sending → ℕ → Sending → Bool
repeats_from p lines v x u y = (y.node == u) && repeats x y && arrives p lines v y

-- the node that a capture line names sends the packet of x
abbrev pub is_captured : Numbers → Lines → ℕ → Sending → List Sending → Option ℕ → Bool
is_captured p lines v x near None = false
is_captured p lines v x near (Some u) = list_any (repeats_from p lines v x u) near

-- x comes to v, and nothing on the air keeps it from being received
abbrev pub comes_through : Numbers → Lines → ℕ → Sending → List Sending → Bool
comes_through p lines v x near =
    arrives p lines v x && not (list_any (transmits v x) near) && not (list_any (spoils p lines v x) near)
    && (not (list_any (differs p lines v x) near)
    || is_captured p lines v x near (captured lines (frame_of_sending p x) (slot_of_sending x) (counter_of_sending x) v))
