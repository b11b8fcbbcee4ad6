-- Whose transmissions the medium looks at, by the bits of their places.
use Rattle.std.specs.Prelude.{◌≡◌, ◌≢◌, ℕ, ◌<◌, ◌≤◌, ◌==◌, ◌&&◌, not, Bool, false, List, [], Option, Some, None}
use Rattle.std.specs.Prelude.{max, min, nat_le, nat_lt, if◌then◌else◌, length, slice_index_or}
use Rattle.std.specs.Int.{bit_at}
use Rattle.lwb_base.specs.Profile.{Numbers}
use Rattle.radio_model.specs.Meetings.{rivals_in}
use Rattle.radio_model.specs.Marks.{is_same}
use Rattle.radio_model.specs.declared.mark.Mark.{Mark}
use Rattle.radio_model.specs.declared.mark.Origin.{Origin}
use Rattle.radio_model.specs.declared.recent.Recent.{Recent}
use Rattle.radio_model.specs.declared.sending.Sending.{Sending}
use Rattle.radio_model.specs.declared.station.Station.{Station}

abbrev pub no_recent : Recent
no_recent = record { places = 0; latest = 0; since = 0; newest = 0; soonest = 0; origin = None }

-- there is an origin, and it is the other one
abbrev pub is_of : Option Origin → Origin → Bool
is_of None other = false
is_of (Some one) other = is_same one other

-- the place is a new one, and the origin is that of all others
abbrev pub is_joined : Recent → ℕ → Origin → Bool
is_joined r place origin = not (bit_at r.places place == 1) && is_of r.origin origin

-- all have sent packets of that origin alone, from the tick `opens` on and not after `latest`
abbrev pub is_close_by : Recent → Origin → ℕ → ℕ → Bool
is_close_by r origin opens latest = is_of r.origin origin && nat_le opens r.since && nat_le r.newest latest

-- all of them, if they began before `end` and end after `start`
abbrev pub busy_with : Recent → ℕ → ℕ → ℕ
busy_with r start end = if nat_lt start r.soonest && nat_lt r.newest end then r.places else 0

-- another transmission begins at the place: the others stay, if one of them was not over before
pub record IsRecentAfter (place start end : ℕ) (from : Origin) (old new : Recent) : Type 0 where
  pub set : bit_at new.places place ≡ 1
  pub others : (i : ℕ) → i ≢ place → bit_at new.places i ≡ bit_at (if nat_lt old.latest start then 0 else old.places) i
  pub latest : new.latest ≡ max old.latest end
  pub since : new.since ≡ (if nat_lt old.latest start then start else old.since)
  pub newest : new.newest ≡ start
  pub soonest : new.soonest ≡ (if nat_lt old.latest start then end else min old.soonest end)
  pub origin : new.origin ≡ (if nat_lt old.latest start then Some from else (if is_joined old place from then old.origin else None))

-- the mark shows a packet of that origin, begun between two ticks, and that all before it was over at the first of them
pub record IsOneOf (origin : Origin) (since newest : ℕ) (mk : Mark) : Type 0 where
  pub origin_is : mk.origin ≡ origin
  pub before : mk.before ≤ since
  pub from : since ≤ mk.start
  pub until : mk.start ≤ newest

-- by its mark, what a station without its bit sent was over at a tick, since when all that runs began
pub record AreRecent (now : ℕ) (sts : List Station) (mks : List Mark) (r : Recent) : Type 0 where
  pub by_now : r.since ≤ now
  pub newest_by_now : r.newest ≤ now
  pub running : (k : ℕ) (d : Station) (x : Sending) → k < length sts → (slice_index_or sts k d).sending ≡ Some x → r.since ≤ x.start
  pub others : (k : ℕ) (e : Mark) → k < length sts → bit_at r.places k ≡ 0 → (slice_index_or mks k e).end ≤ r.since
  pub within : (k : ℕ) → bit_at r.places k ≡ 1 → k < length sts
  pub latest : (k : ℕ) (e : Mark) → k < length sts → (slice_index_or mks k e).end ≤ r.latest
  pub starts_by : (k : ℕ) (e : Mark) → bit_at r.places k ≡ 1 → (slice_index_or mks k e).start ≤ r.newest
  pub ends_from : (k : ℕ) (e : Mark) → bit_at r.places k ≡ 1 → r.soonest ≤ (slice_index_or mks k e).end
  pub close : (o : Origin) → r.origin ≡ Some o → (k : ℕ) (e : Mark) → bit_at r.places k ≡ 1 → IsOneOf o r.since r.newest (slice_index_or mks k e)

-- the rivals of x are at these places
pub record AreAmong (p : Numbers) (x : Sending) (sts : List Station) (places : ℕ) : Type 0 where
  pub within : (k : ℕ) → bit_at places k ≡ 1 → k < length sts
  pub others : (k : ℕ) (d : Station) → k < length sts → bit_at places k ≡ 0 → rivals_in p x (slice_index_or sts k d) ≡ []
