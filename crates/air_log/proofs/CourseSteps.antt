-- What a device goes through is what its course does.
use Rattle.std.proofs.Common.{◌≡◌, ℕ, ◌≤◌, List, [], ◌++◌, Option, Some, false}
use Rattle.std.proofs.Common.{None, option_map, option_to_list, refl, sym, ◌∙◌, ap, subst}
use Rattle.std.specs.Option.{option_or}
use Rattle.std.proofs.lemmas.List.{append-nil}
use Rattle.radio_model.specs.declared.sending.Sending.{Sending}
use Rattle.radio_model.specs.OnAir.{Tuning}
use Rattle.radio_model.specs.declared.tuning.Past.{Past}
use Rattle.radio_model.specs.declared.tuning.RadioTuning.{RadioTuning}
use Rattle.radio_model.specs.Stations.{untuned, last_at, over_at, tuning_after, over_after}
use Rattle.bus_rules.specs.Cores.{Setup}
use Rattle.bus_rules.specs.declared.delivery.Delivery.{Delivery}
use Rattle.air_log.specs.Devices.{Device, Made, nothing_made, at_rest, silenced}
use Rattle.air_log.specs.DeviceStates.{DeviceState, whole, with_sent, IsSameNode, RunsUntil, sending_end}
use Rattle.air_log.specs.Tunings.{Tunings, channel_in, retuned, one_more, tunings_with}
use Rattle.air_log.specs.AlarmRuns.{after_alarms, IsAlarmRun}
use Rattle.air_log.specs.Trails.{alarmed}
use Rattle.air_log.specs.DeviceChanges.{DeviceShows, DeviceIsShown, made_more, DeviceGoes, DeviceIsEnding, TakesAlarms}
use Rattle.air_log.proofs.AlarmsTaken.{all_taken}
use Rattle.air_log.proofs.DeviceChanges.{still_shows, other_tuned}
use Rattle.air_log.proofs.KeptTunings.{kept_off, kept_ended, kept_goes}
use Rattle.air_log.specs.WindowLogs.{WindowLog}
use Rattle.air_log.specs.WindowSums.{WindowSum, IsCounted}
use Rattle.air_log.specs.Courses.{CourseState, made_in, CourseShows, CourseIsShown, Goes, HasListsOf, IsShownEnding}
use Rattle.air_log.proofs.RunningSendings.{runs_still, runs_on}
use Rattle.air_log.proofs.ShownCourses.{shows_as}

-- its tunings
abbrev pub tunings_in : Setup → CourseState → Tunings
tunings_in q c = tunings_with q.id c.tuning c.tuned

-- the device that a course shows
pub shown_in : (t : ℕ) (c : CourseState) → CourseIsShown t c → DeviceIsShown t c.device
shown_in t c shown = record {
  setup = shown.setup;
  tunings = tunings_in shown.setup c;
  made = made_in c shown.shows.windows;
  device = shown.device;
  shows = shown.shows.shows;
}

-- at first
pub course_begins : (q : Setup) (c : CourseState) → q.sends ≤ 4 → c.device.setup ≡ q
    → whole c.device (record { listening = None; ended = [] }) nothing_made ≡ at_rest → c.device.busy_until ≡ None → c.device.channel ≡ None
    → c.device.delivery ≡ None
    → c.device.windows ≡ record { profile = q.profile; sends = q.sends; earlier = 0; last = 0; by_alarm = false; sent = 0 }
    → c ≡ record { device = c.device; tuning = untuned; sent = []; tuned = []; deliveries = [] } → CourseShows q 0 c at_rest
course_begins q c few setup rest idle channel taken windows is =
    let none : Tunings = record { listening = None; ended = [] } in
    let first : CourseState = record { device = c.device; tuning = untuned; sent = []; tuned = []; deliveries = [] } in
    let shows : CourseShows q 0 first at_rest = record {
      windows = [];
      shows = record {
        is = rest;
        runs = subst (λ (o : Option ℕ). RunsUntil o []) (sym idle) refl;
        setup = setup;
        counted = subst (λ (w : WindowSum). IsCounted q.profile q.sends [] w) (sym windows)
            (record { profile = refl; sends = refl; counts = record { earlier = refl; last = refl; by_alarm = refl }; small = tt });
        few = few;
        channel = sym channel;
        tuned = record { before = none; since = tt; ended = tt; is = refl };
        taken = taken;
      };
      ended = tt;
    } in
    subst (λ (x : CourseState). CourseShows q 0 x at_rest) (sym is) shows

-- what its device goes through, with the tuning of its channel then and the list of deliveries
abbrev pub course_after : ℕ → CourseState → DeviceState → List Delivery → CourseState
course_after t c after l = record c {
  device = after;
  tuning = tuning_after after.channel t c.tuning;
  tuned = one_more after.setup.id (over_after after.channel t c.tuning) c.tuned;
  deliveries = l;
}

pub course_goes : (t : ℕ) (change : Setup → Device → Device) (old : CourseState) (after : DeviceState) (ds : List Delivery)
    → DeviceGoes t change old.device after ds → Goes t change old (course_after t old after (old.deliveries ++ ds))
course_goes t change old after ds goes = λ q d sh.
    let next = goes.shows q (tunings_in q old) (made_in old sh.windows) d sh.shows in
    let more = made_more ds next.0 (made_in old sh.windows) in
    let tuning = tuning_after after.channel t old.tuning in
    let tuned : List Tuning = one_more q.id (over_after after.channel t old.tuning) old.tuned in
    let kept = kept_goes q.id t old.tuning old.tuned sh.shows.tuned sh.ended after.channel in
    subst (λ (z : Setup). CourseShows q t (record old {
      device = after;
      tuning = tuning;
      tuned = one_more z.id (over_after after.channel t old.tuning) old.tuned;
      deliveries = old.deliveries ++ ds;
    }) (change q d)) (sym next.1.setup)
    (record {
      windows = next.0;
      shows = other_tuned q t after (tunings_with q.id tuning tuned) more (change q d) tuned
          (subst (λ (x : Tunings). DeviceShows q t after x more (change q d)) kept next.1);
      ended = kept_ended q.id t old.tuning old.tuned sh.shows.tuned sh.ended after.channel;
    })

-- as code comes to it: a list of deliveries, and then the tuning
pub course_listed : (t : ℕ) (old : CourseState) (after : DeviceState) (ds l : List Delivery) (new : CourseState)
    → l ≡ old.deliveries ++ ds → new ≡ course_after t old after l → course_after t old after (old.deliveries ++ ds) ≡ new
course_listed t old after ds l new listed is = ap (course_after t old after) (sym listed) ∙ sym is

-- a transmission starts, or none
sent_made : (x : Option Sending) (made : Made) → with_sent x made ≡ record made { sent = made.sent ++ option_to_list x }
sent_made None made = ap (λ (xs : List Sending). record made { sent = xs }) (sym (append-nil made.sent))
sent_made (Some x) made = refl

pub begin_goes : (t : ℕ) (old : CourseState) (after : DeviceState) (x : Option Sending) (change : Setup → Device → Device)
    → ((y : Tunings) (made : Made) → RunsUntil old.device.busy_until made.sent → channel_in y ≡ old.device.channel
    → change old.device.setup (whole old.device y made) ≡ whole after y (with_sent x made))
    → after.busy_until ≡ option_or (option_map sending_end x) old.device.busy_until
    → after.channel ≡ old.device.channel → IsSameNode old.device after
    → Goes t change old (record old { device = after; sent = old.sent ++ option_to_list x })
begin_goes t old after x change comes until channel node = λ q d sh.
    let y = tunings_in q old in
    let made = made_in old sh.windows in
    record {
      windows = sh.windows;
      shows = still_shows q t old.device after y made (record made { sent = made.sent ++ option_to_list x }) d (change q d) sh.shows node channel refl
          (runs_still (option_or (option_map sending_end x) old.device.busy_until) after.busy_until (made.sent ++ option_to_list x)
          (made.sent ++ option_to_list x) until refl (runs_on old.device.busy_until made.sent x sh.shows.runs))
          (ap (whole after y) (sym (sent_made x made)) ∙ sym (comes y made sh.shows.runs sh.shows.channel)
          ∙ ap (λ (z : Setup). change z (whole old.device y made)) sh.shows.setup ∙ ap (change q) sh.shows.is);
      ended = sh.ended;
    }

-- as code comes to it: the tuning ends, then the one that goes on no more is in the list, and then the last one
pub closed_is : (t : ℕ) (old mid new : CourseState) (tuning : RadioTuning) (over last : Option Past) → tuning ≡ tuning_after None t old.tuning
    → over ≡ over_after None t old.tuning → mid ≡ record old { tuning = tuning; tuned = one_more old.device.setup.id over old.tuned }
    → last ≡ mid.tuning.last → new ≡ record mid { tuned = one_more mid.device.setup.id last mid.tuned }
    → (let v = old.device.setup.id in new ≡ record old {
      tuning = tuning_after None t old.tuning;
      tuned = one_more v (last_at old.tuning.now old.tuning.last t) (one_more v (over_at old.tuning.now old.tuning.last t) old.tuned);
    })
closed_is t old mid new tuning over last is_tuning is_over is_mid is_last is =
    let v = old.device.setup.id in
    is
    ∙ ap (λ (p : Option Past). record mid { tuned = one_more mid.device.setup.id p mid.tuned }) is_last
    ∙ ap (λ (k : CourseState). record k { tuned = one_more k.device.setup.id k.tuning.last k.tuned }) is_mid
    ∙ ap (λ (x : RadioTuning). record old { tuning = x; tuned = one_more v x.last (one_more v over old.tuned) }) is_tuning
    ∙ ap (λ (p : Option Past). record old {
      tuning = tuning_after None t old.tuning;
      tuned = one_more v (last_at old.tuning.now old.tuning.last t) (one_more v p old.tuned);
    }) is_over

-- the tuning ends, and all of them are in the list
pub close_tells : (t : ℕ) (old new : CourseState)
    → (let v = old.device.setup.id in new ≡ record old {
      tuning = tuning_after None t old.tuning;
      tuned = one_more v (last_at old.tuning.now old.tuning.last t) (one_more v (over_at old.tuning.now old.tuning.last t) old.tuned);
    })
    → (q : Setup) (d : Device) → CourseShows q t old d → HasListsOf q new (silenced q.id t d)
close_tells t old new is q d sh =
    let made = made_in old sh.windows in
    let last = last_at old.tuning.now old.tuning.last t in
    let over = over_at old.tuning.now old.tuning.last t in
    let v = old.device.setup.id in
    let end : CourseState = record old { tuning = tuning_after None t old.tuning; tuned = one_more v last (one_more v over old.tuned) } in
    let all : silenced q.id t d ≡ whole old.device (retuned q.id t None (tunings_in q old)) made = ap (silenced q.id t) (sym sh.shows.is) in
    let tells : HasListsOf q end (silenced q.id t d) = record {
      sent = ap (λ (x : Device). x.made.sent) all;
      tuned = ap (λ (x : Device). x.made.tuned) all ∙ ap (λ (x : Tunings). x.ended) (kept_off q.id t old.tuning old.tuned)
          ∙ ap (λ (z : Setup). one_more z.id last (one_more z.id over old.tuned)) (sym sh.shows.setup);
      deliveries = ap (λ (x : Device). x.made.deliveries) all;
      counted = subst (λ (x : Device). IsCounted q.profile q.sends x.made.windows old.device.windows) (sym all) sh.shows.counted;
    } in
    subst (λ (c : CourseState). HasListsOf q c (silenced q.id t d)) (sym is) tells

-- the device changes, and the rest of the change follows
module _ (t : ℕ) (old : CourseState) (after : DeviceState) (node : IsSameNode old.device after) (channel : after.channel ≡ old.device.channel)
    (runs : RunsUntil after.busy_until old.sent) where
  abbrev pub middle : CourseState
  middle = record old { device = after }

  middle_shows : (q : Setup) (d : Device) → (sh : CourseShows q t old d) → CourseShows q t middle (whole after (tunings_in q old) (made_in old sh.windows))
  middle_shows q d sh =
      let x = tunings_in q old in
      let made = made_in old sh.windows in
      record {
        windows = sh.windows;
        shows = still_shows q t old.device after x made made d (whole after x made) sh.shows node channel refl runs refl;
        ended = sh.ended;
      }

  pub then_shown : CourseIsShown t old → CourseIsShown t middle
  then_shown shown = record { setup = shown.setup; device = _; shows = middle_shows shown.setup shown.device shown.shows }

  pub then_goes : (first second : Setup → Device → Device) (last : CourseState)
      → ((x : Tunings) (windows : List WindowLog) → RunsUntil old.device.busy_until old.sent
      → first old.device.setup (whole old.device x (made_in old windows)) ≡ second old.device.setup (whole after x (made_in old windows)))
      → Goes t second middle last
      → Goes t first old last
  then_goes first second last comes goes = λ q d sh.
      let x = tunings_in q old in
      let made = made_in old sh.windows in
      shows_as q t last (second q (whole after x made)) (first q d) (goes q (whole after x made) (middle_shows q d sh))
      (ap (λ (z : Setup). second z (whole after x made)) (sym sh.shows.setup) ∙ sym (comes x sh.windows sh.shows.runs)
      ∙ ap (first old.device.setup) sh.shows.is ∙ ap (λ (z : Setup). first z d) sh.shows.setup)

-- the alarms of a tick
pub ending_in : (clock : ℕ → ℕ) (t : ℕ) (c : CourseState) → IsShownEnding clock t (λ q d. d) c → DeviceIsEnding clock t c.device
ending_in clock t c shown = record {
  setup = shown.setup;
  tunings = tunings_in shown.setup c;
  made = made_in c shown.shows.windows;
  device = shown.device;
  shows = shown.shows.shows;
  ends = shown.ends;
}

pub alarmed_goes : (clock : ℕ → ℕ) (t : ℕ) (old : CourseState) (after : DeviceState) (l : List Delivery)
    → TakesAlarms clock t old.device after old.deliveries l → (seen new : CourseState) → old ≡ seen → new ≡ course_after t old after l
    → (q : Setup) (d : Device) → CourseShows q t seen d → IsAlarmRun clock q t d (alarmed clock q t d) → CourseShows q t new (alarmed clock q t d)
alarmed_goes clock t old after l takes seen new same is q d sh runs =
    let in_old : CourseShows q t old d = subst (λ (c : CourseState). CourseShows q t c d) (sym same) sh in
    let ds = takes.deliveries in
    let goes = course_goes t (λ q d. after_alarms clock q t takes.count d) old after ds takes.taken.goes q d in_old in
    shows_as q t new (after_alarms clock q t takes.count d) (alarmed clock q t d)
    (subst (λ (c : CourseState). CourseShows q t c (after_alarms clock q t takes.count d)) (course_listed t old after ds l new takes.listed is) goes)
    (all_taken clock t old.device after old.deliveries l takes q (tunings_in q old) (made_in old in_old.windows) d in_old.shows runs)
