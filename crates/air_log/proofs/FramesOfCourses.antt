-- The ticks of a frame at which something is due, one after another.
use Rattle.std.proofs.Common.{◌≡◌, ◌⊎◌, inl, inr, ℕ, ◌+◌, ◌*◌, ◌^◌, ◌<◌, ◌≤◌, List, [], ◌∷◌, map, fold, Bool, true, false, ◌==◌, if◌then◌else◌, nat_lt, Option}
use Rattle.std.proofs.Common.{Some, None, IfSome, refl, sym, ◌∙◌, ap, subst, arith, mul-le-mul_right, add-one, ltb-true, lt-ltb, eqb-true}
use Rattle.std.specs.Prelude.{slice_get, Contains}
use Rattle.std.proofs.lemmas.Bool.{cond_both, cond-true, cond-false, and_parts, ltb-false}
use Rattle.std.proofs.lemmas.Option.{slice_get-get_or}
use Rattle.lwb_base.specs.Profile.{Numbers}
use Rattle.tick_clock.specs.Clocks.{IsClock}
use Rattle.bus_rules.specs.Cores.{Setup}
use Rattle.radio_model.specs.declared.sending.Sending.{Sending}
use Rattle.scenario_text.specs.ScenarioParts.{ScenarioParts}
use Rattle.scenario_text.specs.ScenarioFacts.{IsSoundScenario}
use Rattle.scenario_text.specs.declared.script.ScriptLine.{ScriptLine}
use Rattle.air_log.specs.declared.entry.HeardEntry.{HeardEntry}
use Rattle.lwb_base.specs.declared.event.Event.TheVariants.{Heard, Sent}
use Rattle.air_log.specs.Devices.{Device, OrderedPacket, event, seen_power}
use Rattle.air_log.proofs.RunningSendings.{of_end, of_running}
use Rattle.air_log.proofs.KeptPower.{event_power, alarmed_power, begun_power}
use Rattle.air_log.specs.ScriptedDevices.{device_after_line}
use Rattle.scenario_text.specs.Setups.{setup_of}
use Rattle.air_log.specs.Trails.{Reception, run_end, frame_start, lines_at, device_after_script, at_frame}
use Rattle.air_log.specs.Trails.{before_tick, device_after_reception, device_after_receptions, ending_at, device_after_end, device_ended_by, alarmed}
use Rattle.air_log.specs.Courses.{CourseState, CourseShows, IsShownEnding, IsSplitByKey, IsSortedByKey, AlarmsEnd, end_of_reception, reception_in}
use Rattle.air_log.specs.Courses.{least_due, before_alarms_in, rest_of_tick}
use Rattle.air_log.proofs.AlarmLoop.{early_in_run}
use Rattle.air_log.proofs.AlarmRuns.{alarms_are_run}
use Rattle.lwb_base.proofs.Elements.{map_from}
use Rattle.air_log.proofs.NextDue.{is_ahead, none_passes, until_next}
use Rattle.air_log.proofs.ShownCourses.{shows_as, shows_later}
use Rattle.air_log.proofs.ListCuts.{cut_later}
use Rattle.air_log.proofs.LeastDue.{IsLeast, is_least, no_earlier}

-- the tick at which a frame starts, as it is computed
pub tick_of : (s : ScenarioParts) (f i j : ℕ) (p : Numbers) → i ≡ f → j ≡ p.frame → p ≡ s.profile → i * j ≡ frame_start s f
tick_of s f i j p frame ticks profile = ap (λ (n : ℕ). n * j) frame ∙ ap (λ (n : ℕ). f * n) (ticks ∙ ap (λ (q : Numbers). q.frame) profile)

-- a frame of a run lies in it
pub in_run : (s : ScenarioParts) (f : ℕ) → f < s.frames → frame_start s (f + 1) ≤ run_end s
in_run s f within = mul-le-mul_right s.profile.frame (omega (arith, within))

pub next_start : (s : ScenarioParts) (f : ℕ) → frame_start s (f + 1) ≡ frame_start s f + s.profile.frame
next_start s f = omega arith

pub start_early : (s : ScenarioParts) (f : ℕ) → IsSoundScenario s → f < s.frames → frame_start s f ≤ 2 ^ 45
start_early s f sound within = early_in_run s (frame_start s f) sound (omega (arith, in_run s f within, next_start s f))

-- a tick changes no power but by its lines
module _ (clock : ℕ → ℕ) (q : Setup) (t : ℕ) where
  hearings_power : (es : List Reception) (d : Device) → seen_power (fold (device_after_reception clock q t) d es).power ≡ seen_power d.power
  hearings_power [] d = refl
  hearings_power (h ∷ es) d = hearings_power es (device_after_reception clock q t d h) ∙ event_power clock q t (Heard h.packet) None d

  end_power : (d : Device) (x : Option Sending) → seen_power (device_ended_by clock q t d x).power ≡ seen_power d.power
  end_power d None = refl
  end_power d (Some x) =
      let y : Device = record d { sending = None } in
      cond_both (x.end == t) (event clock q t Sent (Some x) y) d (λ (e : Device). seen_power e.power ≡ seen_power d.power)
      (λ is. event_power clock q t Sent (Some x) y) (λ is. refl)

  pub tick_power : (es : List Reception) (d : Device) → seen_power (rest_of_tick clock q t es d).power ≡ seen_power d.power
  tick_power es d =
      let d2 = device_after_receptions clock q t es d in
      let d3 = device_after_end clock q t d2 in
      begun_power clock q t (alarmed clock q t d3) ∙ alarmed_power clock q t d3 ∙ end_power d2 d2.sending ∙ hearings_power (ending_at t es) d

module _ (clock : ℕ → ℕ) (s : ScenarioParts) (hs : List HeardEntry) (f : ℕ) where
  abbrev pub rs : List Reception
  rs = map reception_in hs

  -- at a tick of the frame the device has been given its script lines, and at its end not those of the next
  abbrev pub point : ℕ → ℕ → Device
  point v t = if nat_lt t (frame_start s (f + 1)) then device_after_script s v clock t (before_tick s v clock rs t) else before_tick s v clock rs t

  pub record IsAtTick (t k : ℕ) (old now : CourseState) : Type 0 where
    pub from : frame_start s f ≤ t
    pub within : t ≤ frame_start s (f + 1)
    pub cut : IsSplitByKey end_of_reception hs k t
    pub power : seen_power now.device.power ≡ seen_power old.device.power
    pub shows : (v : ℕ) → CourseShows (setup_of s v) (frame_start s f) old (at_frame s v clock rs f) → CourseShows (setup_of s v) t now (point v t)

  pub first_tick : (t k : ℕ) (c : CourseState) → 1 ≤ s.profile.frame → t ≡ frame_start s f → IsSplitByKey end_of_reception hs k (frame_start s f)
      → IsAtTick t k c c
  first_tick t k c some is cut = subst (λ (u : ℕ). IsAtTick u k c c) (sym is) (record {
    from = omega arith;
    within = omega (arith, next_start s f);
    cut = cut;
    power = refl;
    shows = λ v shows. shows_as (setup_of s v) (frame_start s f) c (at_frame s v clock rs f) (point v (frame_start s f)) shows
        (sym (cond-true (nat_lt (frame_start s f) (frame_start s (f + 1))) (at_frame s v clock rs f) (before_tick s v clock rs (frame_start s f))
        (lt-ltb (frame_start s f) (frame_start s (f + 1)) (omega (arith, next_start s f, some)))));
  })

  module _ (sound : IsSoundScenario s) (drifts : IsClock clock) (in_frames : f < s.frames) (t k : ℕ) (old now : CourseState) (at : IsAtTick t k old now)
      (less : t < frame_start s (f + 1)) where
    abbrev told : ℕ → Device
    told v = device_after_script s v clock t (before_tick s v clock rs t)

    point_is : (v : ℕ) → point v t ≡ told v
    point_is v = cond-true (nat_lt t (frame_start s (f + 1))) (told v) (before_tick s v clock rs t) (lt-ltb t (frame_start s (f + 1)) less)

    in_time : t ≤ run_end s
    in_time = omega (arith, less, in_run s f in_frames)

    pub early : t ≤ 2 ^ 45
    early = early_in_run s t sound in_time

    shown_now : (v : ℕ) → CourseShows (setup_of s v) (frame_start s f) old (at_frame s v clock rs f) → CourseShows (setup_of s v) t now (told v)
    shown_now v first = shows_as (setup_of s v) t now (point v t) (told v) (at.shows v first) (point_is v)

    ends_now : (v : ℕ) → AlarmsEnd clock (setup_of s v) t (before_alarms_in clock (setup_of s v) t rs (told v))
    ends_now v = alarms_are_run s v clock rs t sound drifts in_time

    pub alarms_end : (v : ℕ) × CourseShows (setup_of s v) (frame_start s f) old (at_frame s v clock rs f)
        → IsShownEnding clock t (λ q d. before_alarms_in clock q t rs d) now
    alarms_end first = record { setup = setup_of s first.0; device = told first.0; shows = shown_now first.0 first.1; ends = ends_now first.0 }

    -- after the tick, up to the next one at which something is due
    module _ (ascends : IsSortedByKey end_of_reception hs) (next : ℕ) (cut : IsSplitByKey end_of_reception hs next (t + 1)) (last : CourseState)
        (goes : (q : Setup) (d : Device) → CourseShows q t now d → AlarmsEnd clock q t (before_alarms_in clock q t rs d)
        → CourseShows q t last (rest_of_tick clock q t rs d)) where
      abbrev u : ℕ
      u = least_due last.device (slice_get hs next) (frame_start s (f + 1))

      next_is : (v : ℕ) → before_tick s v clock rs (t + 1) ≡ rest_of_tick clock (setup_of s v) t rs (told v)
      unfolding before_tick
      next_is v = rw add-one refl

      shown_next : (v : ℕ) → CourseShows (setup_of s v) (frame_start s f) old (at_frame s v clock rs f)
          → CourseShows (setup_of s v) t last (before_tick s v clock rs (t + 1))
      shown_next v first =
          shows_as (setup_of s v) t last (rest_of_tick clock (setup_of s v) t rs (told v)) (before_tick s v clock rs (t + 1))
          (goes (setup_of s v) (told v) (shown_now v first) (ends_now v)) (sym (next_is v))

      least : IsLeast last.device (slice_get hs next) (frame_start s (f + 1)) u
      least = is_least last.device (slice_get hs next) (frame_start s (f + 1))

      next_late : (o : Option HeardEntry) → slice_get hs next ≡ o → IfSome o (λ x. t + 1 ≤ x.end)
      next_late None is = tt
      next_late (Some h) is = cut.behind next h is (omega arith)

      goes_on : (v : ℕ) → CourseShows (setup_of s v) t last (before_tick s v clock rs (t + 1)) → t + 1 ≤ u
      goes_on v shows =
          let ahead = is_ahead s v clock rs sound drifts (t + 1) (omega (arith, less, in_run s f in_frames)) in
          let d = before_tick s v clock rs (t + 1) in
          no_earlier last.device (slice_get hs next) (frame_start s (f + 1)) (t + 1) (omega (arith, less))
          (subst (λ (o : Option ℕ). IfSome o (λ x. t + 1 ≤ x)) (sym (ap (λ (x : Device). x.alarm) shows.shows.is)) ahead.alarm)
          (subst (λ (o : Option OrderedPacket). IfSome o (λ x. t + 1 ≤ x.tick)) (sym (ap (λ (x : Device). x.ordered) shows.shows.is)) ahead.ordered)
          (of_end (λ n. t + 1 ≤ n) last.device.busy_until last.sent shows.shows.runs
          (subst (λ (o : Option Sending). IfSome o (λ x. t + 1 ≤ x.end)) (sym (ap (λ (x : Device). x.sending) shows.shows.is)) ahead.sending))
          (next_late (slice_get hs next) refl)

      pub later_by : (v : ℕ) × CourseShows (setup_of s v) (frame_start s f) old (at_frame s v clock rs f) → t + 1 ≤ u
      later_by first = goes_on first.0 (shown_next first.0 first.1)

      next_end : (h : HeardEntry) → slice_get hs next ≡ Some h → u ≤ h.end
      next_end h is = subst (λ (o : Option HeardEntry). IfSome o (λ x. u ≤ x.end)) is least.next

      module _ (first : (v : ℕ) × CourseShows (setup_of s v) (frame_start s f) old (at_frame s v clock rs f)) where
        on : t + 1 ≤ u
        on = later_by first

        cut_next : IsSplitByKey end_of_reception hs next u
        cut_next = cut_later end_of_reception hs ascends next (t + 1) u on cut next_end

        heard_apart : (r : Reception) → Contains rs r → (r.end < t + 1) ⊎ (u ≤ r.end)
        heard_apart r there =
            let w = map_from reception_in hs r there in
            let place = w.1 in
            let found : slice_get hs place.0 ≡ Some w.0 = slice_get-get_or hs place.0 w.0 place.1 ∙ ap (λ (h : HeardEntry). Some h) place.2 in
            let end : w.0.end ≡ r.end = ap (λ (x : Reception). x.end) w.2 in
            by (nat_lt place.0 next) place.0 w.0 refl found end
          where
            by : (b : Bool) → (i : ℕ) (h : HeardEntry) → nat_lt i next ≡ b → slice_get hs i ≡ Some h → h.end ≡ r.end → (r.end < t + 1) ⊎ (u ≤ r.end)
            by true i h is found end = inl (let e = cut.before i h found (ltb-true i next is) in omega (arith, e, end))
            by false i h is found end = inr (let e = cut_next.behind i h found (ltb-false i next is) in omega (arith, e, end))

        line_apart : (l : ScriptLine) → (frame_start s l.frame < t + 1) ⊎ (frame_start s (f + 1) ≤ frame_start s l.frame)
        line_apart l = by (nat_lt l.frame (f + 1)) refl
          where
            by : (b : Bool) → nat_lt l.frame (f + 1) ≡ b → (frame_start s l.frame < t + 1) ⊎ (frame_start s (f + 1) ≤ frame_start s l.frame)
            by true is =
                let order : l.frame ≤ f = (let e = ltb-true l.frame (f + 1) is in omega (arith, e)) in
                let times : l.frame * s.profile.frame ≤ f * s.profile.frame = mul-le-mul_right s.profile.frame order in
                inl (omega (arith, times, at.from))
            by false is = inr (mul-le-mul_right s.profile.frame (ltb-false l.frame (f + 1) is))

        quiet_until : (v : ℕ) → CourseShows (setup_of s v) t last (before_tick s v clock rs (t + 1))
            → before_tick s v clock rs u ≡ before_tick s v clock rs (t + 1)
        quiet_until v shows =
            until_next s v clock rs (t + 1) u on (record {
              set = record {
                alarm = subst (λ (o : Option ℕ). IfSome o (λ x. u ≤ x)) (ap (λ (x : Device). x.alarm) shows.shows.is) least.alarm;
                ordered = subst (λ (o : Option OrderedPacket). IfSome o (λ x. u ≤ x.tick)) (ap (λ (x : Device). x.ordered) shows.shows.is) least.ordered;
                sending = subst (λ (o : Option Sending). IfSome o (λ x. u ≤ x.end)) (ap (λ (x : Device). x.sending) shows.shows.is)
                    (of_running (λ n. u ≤ n) last.device.busy_until last.sent shows.shows.runs least.busy);
              };
              hearings = heard_apart;
              lines = λ l there own. elim (line_apart l) [ inl before ↦ inl before | inr behind ↦ inr (omega (arith, behind, least.within)) ];
            })

        no_lines : (v : ℕ) → u < frame_start s (f + 1) → lines_at s v u ≡ []
        no_lines v below = none_passes _ s.script (λ l there is.
            let same = eqb-true (frame_start s l.frame) u (and_parts _ _ is).1 in
            elim (line_apart l) [ inl before ↦ absurd (omega (arith, before, same, on)) | inr behind ↦ absurd (omega (arith, behind, same, below)) ])

        point_then : (v : ℕ) (b : Bool) → nat_lt u (frame_start s (f + 1)) ≡ b
            → before_tick s v clock rs u ≡ (if b then device_after_script s v clock u (before_tick s v clock rs u) else before_tick s v clock rs u)
        point_then v true is =
            sym (ap (fold (device_after_line clock (setup_of s v) u) (before_tick s v clock rs u)) (no_lines v (ltb-true u (frame_start s (f + 1)) is)))
        point_then v false is = refl

        pub next_tick : IsAtTick u next old last
        next_tick = record {
          from = omega (arith, at.from, on);
          within = least.within;
          cut = cut_next;
          power =
              ap (λ (x : Device). seen_power x.power) (goes (setup_of s first.0) (told first.0) (shown_now first.0 first.1) (ends_now first.0)).shows.is
              ∙ tick_power clock (setup_of s first.0) t rs (told first.0)
              ∙ sym (ap (λ (x : Device). seen_power x.power) (shown_now first.0 first.1).shows.is)
              ∙ at.power;
          shows = λ v begins.
              let shows = shown_next v begins in
              shows_as (setup_of s v) u last (before_tick s v clock rs (t + 1)) (point v u)
              (shows_later (setup_of s v) t u last (before_tick s v clock rs (t + 1)) (omega (arith, on)) shows)
              (sym (quiet_until v shows) ∙ point_then v (nat_lt u (frame_start s (f + 1))) refl);
        }

  -- at the end of the frame
  pub frame_over : (t k : ℕ) (old now : CourseState) → IsAtTick t k old now → frame_start s (f + 1) ≤ t → IsAtTick (frame_start s (f + 1)) k old now
  frame_over t k old now at over = subst (λ (w : ℕ). IsAtTick w k old now) (omega (arith, over, at.within)) at

  pub shown_over : (k : ℕ) (old now : CourseState) → IsAtTick (frame_start s (f + 1)) k old now → (v : ℕ)
      → CourseShows (setup_of s v) (frame_start s f) old (at_frame s v clock rs f)
      → CourseShows (setup_of s v) (frame_start s (f + 1)) now (before_tick s v clock rs (frame_start s (f + 1)))
  shown_over k old now at v first =
      let T = frame_start s (f + 1) in
      shows_as (setup_of s v) T now (point v T) (before_tick s v clock rs T) (at.shows v first)
      (cond-false (nat_lt T T) (device_after_script s v clock T (before_tick s v clock rs T)) (before_tick s v clock rs T) (not_below T))
    where
      not_below : (n : ℕ) → nat_lt n n ≡ false
      not_below n = by (nat_lt n n) refl
        where
          by : (b : Bool) → nat_lt n n ≡ b → b ≡ false
          by true is = absurd (let e = ltb-true n n is in omega (arith, e))
          by false is = refl

-- the same with the end of the frame as it was computed
pub record IsInFrame (clock : ℕ → ℕ) (s : ScenarioParts) (hs : List HeardEntry) (f t until k : ℕ) (old now : CourseState) : Type 0 where
  pub at : IsAtTick clock s hs f t k old now
  pub end : until ≡ frame_start s (f + 1)
