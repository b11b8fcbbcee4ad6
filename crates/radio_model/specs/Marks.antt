-- What the medium keeps of the transmissions of a node in short, and where it finds a node.
use Rattle.std.specs.Prelude.{◌≡◌, ℕ, ◌+◌, ◌<◌, ◌≤◌, ◌⊎◌, All, List, Bool, false, ◌&&◌, ◌||◌, ◌==◌, nat_lt, nat_le}
use Rattle.std.specs.Prelude.{Option, Some, None, length, slice_index, slice_index_or, slice_set}
use Rattle.std.specs.Str.{bytes_eq}
use Rattle.lwb_base.specs.declared.limits.TheConstants.{PLACES_BY_ID}
use Rattle.radio_model.specs.Stations.{on_air}
use Rattle.radio_model.specs.declared.sending.Sending.{Sending}
use Rattle.radio_model.specs.declared.station.Station.{Station}
use Rattle.radio_model.specs.Hearing.{Meets}
use Rattle.radio_model.specs.declared.mark.Mark.{Mark}
use Rattle.radio_model.specs.declared.mark.Origin.{Origin}

abbrev pub no_mark : Mark
no_mark = record { rank = 1; start = 0; end = 0; before = 0; origin = record { place = 0; start = 0 } }

-- the mark when another transmission begins
abbrev pub next_mark : ℕ → ℕ → ℕ → Origin → Mark → Mark
next_mark rank start end origin mk = record { rank = rank; start = start; end = end; before = mk.end; origin = origin }

-- the marks when another transmission may begin at that place, on that channel
abbrev pub next_marks : Option ℕ → ℕ → ℕ → Origin → ℕ → List Mark → Mark → List Mark
next_marks None start end origin i mks d = mks
next_marks (Some rank) start end origin i mks d = slice_set mks i (next_mark rank start end origin (slice_index_or mks i d))

-- by the mark, none overlaps a transmission with these times
abbrev pub is_aside : ℕ → ℕ → Mark → Bool
is_aside start end mk = nat_le mk.end start || (nat_le mk.before start && nat_le end mk.start)

abbrev pub is_same : Origin → Origin → Bool
is_same a b = (a.place == b.place) && (a.start == b.start)

-- by the mark, only the newest can overlap x, and it has the packet of x, and x comes first and in time
abbrev pub comes_along : ℕ → Sending → Origin → ℕ → Mark → Bool
comes_along delta x origin node mk =
    nat_le mk.before x.start && is_same mk.origin origin
    && ((nat_lt x.start mk.start || ((x.start == mk.start) && nat_le x.node node)) && nat_le mk.start (x.start + delta))

-- by the mark, only the newest can overlap x, and it has the channel and the packet of x, and comes before x, though not
-- before this tick
abbrev pub comes_early : ℕ → Sending → Origin → ℕ → Mark → Bool
comes_early opens x origin node mk =
    nat_le mk.before x.start && is_same mk.origin origin && (mk.rank == x.rank)
    && (nat_le opens mk.start && (nat_lt mk.start x.start || ((mk.start == x.start) && nat_lt node x.node)))

-- by the mark, only the newest can overlap x, and it has the packet of x, and begins at one of these ticks
abbrev pub comes_close : ℕ → ℕ → Sending → Origin → Mark → Bool
comes_close opens latest x origin mk = nat_le mk.before x.start && is_same mk.origin origin && (nat_le opens mk.start && nat_le mk.start latest)

-- the mark of these transmissions, the oldest first
pub record IsMark (ys : List Sending) (mk : Mark) : Type 0 where
  pub over : All (λ y. y.end ≤ mk.end) ys
  pub earlier : (k : ℕ) (d : Sending) → k + 1 < length ys → (slice_index_or ys k d).end ≤ mk.before
  pub start : (k : ℕ) (d : Sending) → k + 1 ≡ length ys → (slice_index_or ys k d).start ≡ mk.start
  pub end : (k : ℕ) (d : Sending) → k + 1 ≡ length ys → (slice_index_or ys k d).end ≡ mk.end
  pub rank : (k : ℕ) (d : Sending) → k + 1 ≡ length ys → (slice_index_or ys k d).rank ≡ mk.rank
  pub some : 0 < mk.end → 0 < length ys

-- the newest of these, the oldest first
pub record IsNewest (ys : List Sending) (y : Sending) : Type 0 where
  pub place : ℕ
  pub last : place + 1 ≡ length ys
  pub there : slice_index_or ys place y ≡ y

-- each station has its mark
pub record AreMarks (sts : List Station) (mks : List Mark) : Type 0 where
  pub one_each : length mks ≡ length sts
  pub each : (k : ℕ) (d : Station) (e : Mark) → k < length sts → IsMark (on_air (slice_index_or sts k d)) (slice_index_or mks k e)

-- each node has its place at its id
pub record ArePlaces (nodes places : List ℕ) : Type 0 where
  pub all : length places ≡ PLACES_BY_ID
  pub each : (k : ℕ) → k < length nodes → slice_index places (slice_index nodes k) ≡ k

-- this station and this mark are at the place
pub record StandAtPlace (sts : List Station) (mks : List Mark) (i : ℕ) (st : Station) (mk : Mark) : Type 0 where
  pub below : i < length sts
  pub station : slice_index_or sts i st ≡ st
  pub mark : slice_index_or mks i mk ≡ mk

-- the station at the place of the origin has sent since
pub record HasSent (sts : List Station) (o : Origin) : Type 0 where
  pub station : Station
  pub below : o.place < length sts
  pub there : slice_index_or sts o.place station ≡ station
  pub newest : Sending
  pub is : IsNewest (on_air station) newest
  pub since : o.start ≤ newest.start

-- where newest transmissions overlap and their marks have one origin, they have one packet
pub record AreAlike (now : ℕ) (sts : List Station) (mks : List Mark) : Type 0 where
  pub own : (i : ℕ) (st : Station) (mk : Mark) (y : Sending) → StandAtPlace sts mks i st mk → IsNewest (on_air st) y → (y.node ≡ st.node) × (y.start ≤ now)
  pub known : (i : ℕ) (st : Station) (mk : Mark) (y : Sending) → StandAtPlace sts mks i st mk → IsNewest (on_air st) y → HasSent sts mk.origin
  pub alike : (i j : ℕ) (st su : Station) (mk ml : Mark) (y z : Sending) → StandAtPlace sts mks i st mk → StandAtPlace sts mks j su ml → IsNewest (on_air st) y
      → IsNewest (on_air su) z
      → mk.origin ≡ ml.origin → Meets y z → y.packet ≡ z.packet

-- of the newest transmission of a node, next to x, whose mark has this origin
abbrev pub IsAlike : List Sending → ℕ → Mark → Origin → Sending → Type 0
IsAlike ys node mk origin x = (y : Sending) → IsNewest ys y → (y.node ≡ node) × (mk.origin ≡ origin → Meets x y → y.packet ≡ x.packet)

abbrev pub AreAlikeTo : List Station → List Mark → Origin → Sending → Type 0
AreAlikeTo sts mks origin x = (i : ℕ) (st : Station) (mk : Mark) → StandAtPlace sts mks i st mk → IsAlike (on_air st) st.node mk origin x

-- a newest transmission has this packet, runs past t, and has this origin
pub record Joins (sts : List Station) (mks : List Mark) (t : ℕ) (packet : List ℕ) (o : Origin) : Type 0 where
  pub place : ℕ
  pub station : Station
  pub mark : Mark
  pub stands : StandAtPlace sts mks place station mark
  pub newest : Sending
  pub is : IsNewest (on_air station) newest
  pub runs : t < newest.end
  pub same : newest.packet ≡ packet
  pub origin : mark.origin ≡ o

-- the origin of a packet that begins at t at the place: of one that has it already, or its own
abbrev pub IsOrigin : List Station → List Mark → ℕ → ℕ → List ℕ → Origin → Type 0
IsOrigin sts mks i t packet o = (o ≡ record { place = i; start = t }) ⊎ Joins sts mks t packet o

abbrev pub sends_packet : ℕ → List ℕ → Option Sending → Bool
sends_packet t packet None = false
sends_packet t packet (Some y) = nat_lt t y.end && bytes_eq y.packet packet
