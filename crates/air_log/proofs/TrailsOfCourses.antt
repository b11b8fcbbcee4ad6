-- The frames of a run, one after another, and what is given at their end.
use Rattle.std.proofs.Common.{◌≡◌, ℕ, ◌+◌, ◌%◌, ◌^◌, ◌<◌, ◌≤◌, List, [], ◌∷◌, ◌++◌, map, take, drop, fold, Bool, false, cond}
use Rattle.std.proofs.Common.{nat_lt, Option, None, sum_by, count_by, refl, sym, ◌∙◌, ap, subst, arith, lt-ltb, take-append-drop}
use Rattle.std.specs.List.{range_with_len}
use Rattle.std.proofs.lemmas.Bool.{cond-true}
use Rattle.std.proofs.lemmas.List.{map-append}
use Rattle.std.proofs.lemmas.List.Sums.{sum_by-cons, sum_by-append}
use Rattle.tick_clock.specs.Clocks.{IsClock}
use Rattle.bus_rules.specs.Cores.{Setup}
use Rattle.bus_rules.specs.declared.tune.Tune.{Tune}
use Rattle.bus_rules.specs.declared.delivery.Delivery.{Delivery}
use Rattle.radio_model.specs.OnAir.{Sending, Tuning}
use Rattle.scenario_text.specs.ScenarioParts.{ScenarioParts}
use Rattle.scenario_text.specs.ScenarioFacts.{IsSoundScenario, turned}
use Rattle.scenario_text.proofs.BootsTold.{turned_over}
use Rattle.scenario_text.proofs.BootsCounted.{never_less}
use Rattle.air_log.specs.declared.entry.HeardEntry.{HeardEntry}
use Rattle.air_log.specs.Charges.{windows_charge, scanned_frames, scans_with}
use Rattle.air_log.specs.Devices.{Device, seen_power, silenced}
use Rattle.air_log.specs.ScriptedDevices.{device_after_line}
use Rattle.scenario_text.specs.Setups.{setup_of}
use Rattle.air_log.specs.Trails.{Reception, run_end, frame_start, lines_at, at_frame, before_tick, trail, tune_of, tune_at}
use Rattle.air_log.specs.TrailsTold.{TrailTold, trail_told}
use Rattle.scenario_text.specs.AddedLines.{frame_of_line}
use Rattle.air_log.specs.Courses.{CourseState, CourseShows, HasListsOf, Goes, IsSplitByKey, end_of_reception, reception_in}
use Rattle.air_log.proofs.ChargedWindows.{charge_is}
use Rattle.air_log.proofs.ListCuts.{first_cut}
use Rattle.lwb_base.proofs.Lists.{range_next}

module _ (clock : ℕ → ℕ) (s : ScenarioParts) (v : ℕ) (hs : List HeardEntry) where
  abbrev pub rs : List Reception
  rs = map reception_in hs

  abbrev tune : ℕ → Option Tune
  tune f = tune_at s v clock rs f

  abbrev scans : ℕ → Bool
  scans f = scans_with (tune f)

  -- frame f begins
  pub record IsAtFrame (f told next : ℕ) (tunes : List (Option Tune)) (scanned : ℕ) (c : CourseState) : Type 0 where
    pub lines : IsSplitByKey frame_of_line s.script told f
    pub hearings : IsSplitByKey end_of_reception hs next (frame_start s f)
    pub shows : CourseShows (setup_of s v) (frame_start s f) c (before_tick s v clock rs (frame_start s f))
    pub power : seen_power c.device.power ≡ turned v (false, 0) (take told s.script)
    pub tunes_are : tunes ≡ map tune (range_with_len 0 f)
    pub scanned_are : scanned ≡ count_by scans (range_with_len 0 f)
    pub few : scanned ≤ f

  pub tunes_more : (f : ℕ) (tunes : List (Option Tune)) (t : Option Tune) → tunes ≡ map tune (range_with_len 0 f) → t ≡ tune f
      → tunes ++ t ∷ [] ≡ map tune (range_with_len 0 (f + 1))
  tunes_more f tunes t are is =
      ap (λ (xs : List (Option Tune)). xs ++ t ∷ []) are ∙ ap (λ (x : Option Tune). map tune (range_with_len 0 f) ++ x ∷ []) is
      ∙ sym (ap (map tune) (range_next f) ∙ map-append tune (range_with_len 0 f) (f ∷ []))

  pub scanned_more : (f n : ℕ) (t : Option Tune) → n ≡ count_by scans (range_with_len 0 f) → t ≡ tune f
      → n + cond (scans_with t) 1 0 ≡ count_by scans (range_with_len 0 (f + 1))
  scanned_more f n t are is =
      let g : ℕ → ℕ = λ k. cond (scans k) 1 0 in
      let more : count_by scans (range_with_len 0 (f + 1)) ≡ sum_by g (range_with_len 0 f ++ f ∷ []) = ap (count_by scans) (range_next f) in
      let parts = sum_by-append g (range_with_len 0 f) (f ∷ []) in
      let last = sum_by-cons g f [] in
      let so_far : n ≡ sum_by g (range_with_len 0 f) = are in
      let same : n + cond (scans_with t) 1 0 ≡ n + g f = ap (λ (x : Option Tune). n + cond (scans_with x) 1 0) is in
      same ∙ omega (arith, more, parts, last, so_far)

  -- in frame f after its lines
  pub tune_in : (f : ℕ) (c : CourseState) → f < s.frames → CourseShows (setup_of s v) (frame_start s f) c (at_frame s v clock rs f)
      → tune_of c.device.power ≡ tune f
  tune_in f c within shows =
      ap (λ (x : Device). tune_of x.power) shows.shows.is
      ∙ sym (cond-true (nat_lt f s.frames) (tune_of (at_frame s v clock rs f).power) None (lt-ltb f s.frames within))

  first_start : 0 ≡ frame_start s 0
  first_start = omega arith

  -- the first frame, and from one to the next
  pub begins : (c : CourseState) → CourseShows (setup_of s v) 0 c Rattle.air_log.specs.Devices.at_rest → IsAtFrame 0 0 0 [] 0 c
  unfolding before_tick
  begins c shows = record {
    lines = first_cut frame_of_line s.script;
    hearings = subst (λ (t : ℕ). IsSplitByKey end_of_reception hs 0 t) first_start (first_cut end_of_reception hs);
    shows = subst (λ (t : ℕ). CourseShows (setup_of s v) t c (before_tick s v clock rs t)) first_start shows;
    power = ap (λ (x : Device). seen_power x.power) shows.shows.is;
    tunes_are = refl;
    scanned_are = refl;
    few = omega arith;
  }

  pub after_lines_shows : (f told next : ℕ) (tunes : List (Option Tune)) (scanned : ℕ) (c new : CourseState) → IsAtFrame f told next tunes scanned c
      → Goes (frame_start s f) (λ q d. fold (device_after_line clock q (frame_start s f)) d (lines_at s q.id (frame_start s f))) c new
      → CourseShows (setup_of s v) (frame_start s f) new (at_frame s v clock rs f)
  after_lines_shows f told next tunes scanned c new at goes = goes (setup_of s v) (before_tick s v clock rs (frame_start s f)) at.shows

module _ (clock : ℕ → ℕ) (s : ScenarioParts) (v : ℕ) (hs : List HeardEntry) (sound : IsSoundScenario s) (drifts : IsClock clock) where
  few_boots : (told : ℕ) → (turned v (false, 0) (take told s.script)).1 ≤ 200
  few_boots told =
      let over = turned_over v (false, 0) (take told s.script) (drop told s.script) in
      let whole = ap (turned v (false, 0)) (take-append-drop told s.script) in
      let up = never_less v (turned v (false, 0) (take told s.script)) (drop told s.script) in
      let all = ap (λ (b : Bool × ℕ). b.1) (sym over ∙ whole) in
      omega (arith, up, all, sound.few_boots v)

  -- the sum of all windows of a run
  pub windows_are : (told : ℕ) (c : CourseState) (last : CourseState)
      → CourseShows (setup_of s v) (run_end s) c (before_tick s v clock (map reception_in hs) (run_end s))
      → seen_power c.device.power ≡ turned v (false, 0) (take told s.script)
      → HasListsOf (setup_of s v) last (trail s v clock (map reception_in hs))
      → (last.device.windows.earlier + last.device.windows.last) % 2 ^ 64 ≡ windows_charge s (trail s v clock (map reception_in hs))
  windows_are told c last shows power tells =
      let seen = ap (λ (b : Bool × ℕ). b.1) (sym (ap (λ (x : Device). seen_power x.power) shows.shows.is) ∙ power) in
      let less = few_boots told in
      charge_is clock s v (map reception_in hs) sound drifts (omega (arith, seen, less)) last.device.windows tells.counted

-- what is given, part by part
same_told : (a b : List Sending) (c d : List Tuning) (e f : List Delivery) (g h i j : ℕ) (k l : List (Option Tune)) → b ≡ a → d ≡ c → f ≡ e → h ≡ g → j ≡ i
    → l ≡ k
    → ◌≡◌ {A = TrailTold} (record { sent = b; tuned = d; deliveries = f; windows = h; scanned = j; tunes = l })
    (record { sent = a; tuned = c; deliveries = e; windows = g; scanned = i; tunes = k })
same_told a b c d e f g h i j k l p q r s t u =
    ap (λ (x : List Sending). record { sent = x; tuned = d; deliveries = f; windows = h; scanned = j; tunes = l }) p
    ∙ ap (λ (x : List Tuning). record { sent = a; tuned = x; deliveries = f; windows = h; scanned = j; tunes = l }) q
    ∙ ap (λ (x : List Delivery). record { sent = a; tuned = c; deliveries = x; windows = h; scanned = j; tunes = l }) r
    ∙ ap (λ (x : ℕ). record { sent = a; tuned = c; deliveries = e; windows = x; scanned = j; tunes = l }) s
    ∙ ap (λ (x : ℕ). record { sent = a; tuned = c; deliveries = e; windows = g; scanned = x; tunes = l }) t
    ∙ ap (λ (x : List (Option Tune)). record { sent = a; tuned = c; deliveries = e; windows = g; scanned = i; tunes = x }) u

pub told_is : (clock : ℕ → ℕ) (s : ScenarioParts) (v : ℕ) (hs : List HeardEntry) (sound : IsSoundScenario s) (drifts : IsClock clock) (f told next : ℕ)
    (tunes : List (Option Tune)) (scanned : ℕ) (c : CourseState)
    → IsAtFrame clock s v hs f told next tunes scanned c → f ≡ s.frames → (t : ℕ) → t ≡ run_end s → (last : CourseState)
    → ((q : Setup) (d : Device) → CourseShows q t c d → HasListsOf q last (silenced q.id t d))
    → (result : TrailTold) → result ≡ record {
      sent = last.sent;
      tuned = last.tuned;
      deliveries = last.deliveries;
      windows = (last.device.windows.earlier + last.device.windows.last) % 2 ^ 64;
      scanned = scanned;
      tunes = tunes;
    }
    → (taken : List Reception) → map reception_in hs ≡ taken → result ≡ trail_told s v clock taken
told_is clock s v hs sound drifts f told next tunes scanned c at over t end last closes result is taken heard =
    let rs : List Reception = map reception_in hs in
    let shows : CourseShows (setup_of s v) (run_end s) c (before_tick s v clock rs (run_end s)) =
    subst (λ (u : ℕ). CourseShows (setup_of s v) u c (before_tick s v clock rs u)) (ap (frame_start s) over) at.shows in
    let tells : HasListsOf (setup_of s v) last (trail s v clock rs) =
    subst (λ (u : ℕ). (q : Setup) (d : Device) → CourseShows q u c d → HasListsOf q last (silenced q.id u d)) end closes (setup_of s v)
    (before_tick s v clock rs (run_end s)) shows in
    is
    ∙ same_told (trail s v clock rs).made.sent last.sent (trail s v clock rs).made.tuned last.tuned (trail s v clock rs).made.deliveries last.deliveries
    (windows_charge s (trail s v clock rs)) ((last.device.windows.earlier + last.device.windows.last) % 2 ^ 64) (scanned_frames s v clock rs) scanned
    (map (tune_at s v clock rs) (range_with_len 0 s.frames)) tunes
    (sym tells.sent) (sym tells.tuned) (sym tells.deliveries) (windows_are clock s v hs sound drifts told c last shows at.power tells)
    (at.scanned_are ∙ ap (λ (k : ℕ). count_by (λ (n : ℕ). scans_with (tune_at s v clock rs n)) (range_with_len 0 k)) over)
    (at.tunes_are ∙ ap (λ (k : ℕ). map (tune_at s v clock rs) (range_with_len 0 k)) over)
    ∙ ap (trail_told s v clock) heard
