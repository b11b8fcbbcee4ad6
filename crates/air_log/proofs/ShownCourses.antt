-- When a course shows a device: by its state and what was made, at a later tick, and through changes in turn.
use Rattle.std.proofs.Common.{◌≡◌, ℕ, ◌≤◌, subst}
use Rattle.bus_rules.specs.Cores.{Setup}
use Rattle.air_log.specs.Devices.{Device, Made}
use Rattle.air_log.specs.DeviceStates.{DeviceState}
use Rattle.air_log.specs.Tunings.{Tunings, tunings_with}
use Rattle.air_log.specs.DeviceChanges.{DeviceShows}
use Rattle.air_log.specs.Courses.{CourseState, made_in, CourseShows, CourseIsShown, Goes}
use Rattle.air_log.proofs.KeptTunings.{ended_later, by_channel_later}

-- a device is shown still
pub shown_still : (t : ℕ) (change : Setup → Device → Device) (old new : CourseState) → Goes t change old new → CourseIsShown t old → CourseIsShown t new
shown_still t change old new goes shown = record {
  setup = shown.setup;
  device = change shown.setup shown.device;
  shows = goes shown.setup shown.device shown.shows;
}

-- a device of a trail by the one that is shown
pub shows_as : (q : Setup) (t : ℕ) (c : CourseState) (d e : Device) → CourseShows q t c d → d ≡ e → CourseShows q t c e
shows_as q t c d e shows same = subst (λ (x : Device). CourseShows q t c x) same shows

pub goes_as : (t : ℕ) (change other : Setup → Device → Device) (old new : CourseState)
    → ((q : Setup) (d : Device) → CourseShows q t old d → change q d ≡ other q d) → Goes t change old new → Goes t other old new
goes_as t change other old new same goes = λ q d shows. shows_as q t new (change q d) (other q d) (goes q d shows) (same q d shows)

-- a later tick
pub device_later : (q : Setup) (t u : ℕ) (s : DeviceState) (x : Tunings) (made : Made) (d : Device) → t ≤ u → DeviceShows q t s x made d
    → DeviceShows q u s x made d
device_later q t u s x made d le shows = record {
  is = shows.is;
  runs = shows.runs;
  setup = shows.setup;
  counted = shows.counted;
  few = shows.few;
  channel = shows.channel;
  tuned = by_channel_later q.id t u x le shows.tuned;
  taken = shows.taken;
}

pub shows_later : (q : Setup) (t u : ℕ) (c : CourseState) (d : Device) → t ≤ u → CourseShows q t c d → CourseShows q u c d
shows_later q t u c d le shows = record {
  windows = shows.windows;
  shows = device_later q t u c.device (tunings_with q.id c.tuning c.tuned) (made_in c shows.windows) d le shows.shows;
  ended = ended_later t u c.tuned le shows.ended;
}

-- the same between courses that are known by equations
pub goes_seen : (t : ℕ) (change : Setup → Device → Device) (old seen new other : CourseState) → old ≡ seen → new ≡ other → Goes t change old new
    → Goes t change seen other
goes_seen t change old seen new other p q goes = subst (λ (x : CourseState). Goes t change x other) p (subst (λ (y : CourseState). Goes t change old y) q goes)

pub goes_then : (t : ℕ) (first second : Setup → Device → Device) (a b c : CourseState) → Goes t first a b → Goes t second b c
    → Goes t (λ q d. second q (first q d)) a c
goes_then t first second a b c one two = λ q d shows. two q (first q d) (one q d shows)
