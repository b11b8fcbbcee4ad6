-- A node is on its way through its frame in each phase of each tick of a run.
use Rattle.std.proofs.Common.{◌≡◌, ℕ, zero, suc, ◌/◌, ◌<◌, ◌≤◌, inl, inr, List, [], true, Contains, refl, sym, ◌∙◌, ap, subst, arith, true≢false}
use Rattle.std.proofs.lemmas.Bool.{cases_lt}
use Rattle.lwb_base.specs.declared.limits.TheConstants.{MOST_FRAMES}
use Rattle.scenario_text.specs.ScenarioParts.{ScenarioParts}
use Rattle.scenario_text.specs.ScenarioFacts.{IsSoundScenario}
use Rattle.scenario_text.specs.FloodParts.{knows}
use Rattle.air_log.specs.declared.entry.Entry.{Entry}
use Rattle.air_log.specs.WindowLogs.{WindowLog}
use Rattle.air_log.specs.Devices.{Device, Power, PowerOff, PowerOn, at_rest}
use Rattle.air_log.specs.Lawful.{heard_by}
use Rattle.air_log.specs.Trails.{run_end, before_tick, frame_start, device_after_script}
use Rattle.lwb_base.proofs.Elements.{not_in_none}
use Rattle.law_trails.specs.Phases.{Phase, Lines, Hearings, End, Alarms, Start, Over, device_at, next_phase}
use Rattle.law_trails.specs.TrailLinks.{device_in}
use Rattle.law_trails.specs.Walks.{HasNoWindow, Keeps, Now}
use Rattle.law_trails.proofs.WalkOfRun.{holds_in_tick}
use Rattle.law_safety.specs.Invariant.{IsObedientRun}
use Rattle.law_safety.specs.NodesInOrder.{InOrderBy}
use Rattle.law_safety.specs.Rows.{IsFine, AtTick, AllRows}
use Rattle.law_safety.proofs.FrameStarts.{frame_before, rests_at_start, counts_at_start}
use Rattle.law_safety.proofs.HeardNow.{heard_in_floods}
use Rattle.law_safety.proofs.RunFacts.{frame_begins, frame_ends, frame_in_run, frame_is, frame_lasts}
use Rattle.law_windows.specs.OpenWindows.{AreClosed}
use Rattle.law_windows.specs.WindowSteps.{HasWindows}
use Rattle.law_windows.proofs.PlacesWithout.{by_power, no_window}
use Rattle.law_windows.proofs.RowsOfWindows.{open_first, first_known}
use Rattle.law_windows.proofs.WindowWalk.{P, at_tick, fine_before, keeps, waits, windows_before}
use Rattle.law_terms.specs.FrameCourses.{power_at}
use Rattle.law_windows.proofs.OwnRanks.{IsOwn, own_steps}
use Rattle.law_windows.proofs.CourseSteps.{at_line, closes_in, comes_on, ends_frame, hears_in, joins_in, opens_in, sends_in}
use Rattle.law_windows.proofs.LinkedWindows.{GoOn, HasAdded, IsUnderWay, StandsIn}

module _ (s : ScenarioParts) (clocks : ℕ → ℕ → ℕ) (air : List Entry) (v : ℕ) where
  abbrev pub All : ℕ → Phase → Device → Type 0
  All t phase d = P s clocks air v (λ now taken w. IsOwn s clocks air v w) t phase d × IsUnderWay s clocks air v t phase d

  base : (t : ℕ) (phase : Phase) (d : Device) → Now All s t phase d → Now (P s clocks air v (λ now taken w. IsOwn s clocks air v w)) s t phase d
  base t phase d now = record { in_run = now.in_run; known = now.known; holds = now.holds.0 }

  -- at the first tick of a frame all nodes rest, and those that are on count it
  module _ (run : IsObedientRun s clocks air) (known : knows s.nodes v ≡ true) (t : ℕ)
      (early : t / s.profile.frame ≤ MOST_FRAMES) (start : frame_start s (t / s.profile.frame) ≡ t) where
    none_by : (told : ℕ) (d : Device) (p : Power) → InOrderBy s clocks air v t told d p → HasNoWindow p
    none_by told d (PowerOff boots) is = tt
    none_by told d (PowerOn n) is = no_window n.stage (rests_at_start s clocks v t n start is.frame)

    pub closed_at_start : (told : ℕ) (d : Device) (K : WindowLog → Type 0) → InOrderBy s clocks air v t told d d.power
        → HasWindows s v K t d → AreClosed d.made.windows
    closed_at_start told d K order have = by_power d.made.windows d.power (none_by told d d.power order) have.stand

    pub stands_at_start : (told : ℕ) (d : Device) (p : Power) → power_at s clocks air v (t / s.profile.frame) ≡ p → InOrderBy s clocks air v t told d p
        → GoOn s clocks air v t d.made.windows → StandsIn s clocks air v (t / s.profile.frame) d.made.windows p
    stands_at_start told d p same order on =
        by_cases p same order
      where
        earlier : (x : WindowLog) → Contains d.made.windows x → x.frame < t / s.profile.frame
        earlier x there = (let began = on.begun x there in frame_before s x.frame (t / s.profile.frame) (omega (arith, began, start)))

        by_cases : (q : Power) → power_at s clocks air v (t / s.profile.frame) ≡ q → InOrderBy s clocks air v t told d q
            → StandsIn s clocks air v (t / s.profile.frame) d.made.windows q
        by_cases (PowerOff boots) is order = (is, earlier)
        by_cases (PowerOn n) is order = λ none. inl (
          counts_at_start s clocks v t n start run.driven.sound (run.driven.drift v known) early order.frame,
          inl (record { node = is; rests = rests_at_start s clocks v t n start order.frame; first = earlier }),
        )

  module _ (t : ℕ) (at : AtTick s clocks air v t) where
    early : t / s.profile.frame ≤ MOST_FRAMES
    early = let few = frame_in_run s at.run.driven.sound t at.in_run in omega (arith, few)

    -- after the script lines
    told : (d : Device) → IsFine s clocks air v t Lines d → IsFine s clocks air v t Hearings d → IsUnderWay s clocks air v t Lines d
        → d ≡ device_at s v (clocks v) (heard_by air v) t Hearings → IsUnderWay s clocks air v t Hearings d
    told d fine later is enters = record {
      windows = is.windows;
      stands = λ any. elim (cases_lt (frame_start s (t / s.profile.frame)) t) [
        | inl began ↦ is.stands began
        | inr not_yet ↦ (
            let begins = frame_begins s at.run.driven.sound t in
            let start : frame_start s (t / s.profile.frame) ≡ t = omega (arith, begins, not_yet) in
            let same : power_at s clocks air v (t / s.profile.frame) ≡ d.power =
            ap (λ (u : ℕ). (device_after_script s v (clocks v) u (before_tick s v (clocks v) (heard_by air v) u)).power) start
            ∙ ap (λ (e : Device). e.power) (sym enters) in
            stands_at_start at.run at.known t early start (suc t) d d.power same later.node.by_power is.windows
            )
      ];
    }

    goes_on : (phase : Phase) (d : Device) → IsFine s clocks air v t phase d → IsFine s clocks air v t (next_phase phase) d
        → IsUnderWay s clocks air v t phase d
        → d ≡ device_at s v (clocks v) (heard_by air v) t (next_phase phase) → IsUnderWay s clocks air v t (next_phase phase) d
    goes_on Lines d fine later is enters = told d fine later is enters
    goes_on Hearings d fine later is enters = record { windows = is.windows; stands = is.stands }
    goes_on End d fine later is enters = record { windows = is.windows; stands = is.stands }
    goes_on Alarms d fine later is enters = record { windows = is.windows; stands = is.stands }
    goes_on Start d fine later is enters = record { windows = is.windows; stands = is.stands }
    goes_on Over d fine later is enters = record { windows = is.windows; stands = is.stands }

    -- the next tick may be the first of a frame
    passes : (d : Device) (K : WindowLog → Type 0) → IsFine s clocks air v (suc t) Lines d → HasWindows s v K (suc t) d → IsUnderWay s clocks air v t Over d
        → d ≡ before_tick s v (clocks v) (heard_by air v) (suc t) → IsUnderWay s clocks air v (suc t) Lines d
    passes d K fine have is enters = record {
      windows = record {
        linked = is.windows.linked;
        begun = λ x there. (let began = is.windows.begun x there in omega (arith, began));
        added = λ f past. elim (cases_lt t (frame_start s (suc f))) [
          | inl ends ↦ ended f (omega (arith, past, ends))
          | inr old ↦ is.windows.added f (omega (arith, old))
        ];
      };
      stands = λ began. (
          let g = suc t / s.profile.frame in
          let ends = frame_ends s at.run.driven.sound (suc t) in
          let same : t / s.profile.frame ≡ g = frame_is s g t (omega (arith, began)) (omega (arith, ends)) in
          subst (λ (f : ℕ). StandsIn s clocks air v f d.made.windows d.power) same (is.stands tt)
          );
    }
      where
        ended : (f : ℕ) → frame_start s (suc f) ≡ suc t → HasAdded s clocks air v f d.made.windows
        ended f at_start =
            let lasts = frame_lasts s at.run.driven.sound in
            let now : suc t / s.profile.frame ≡ suc f = frame_is s (suc f) (suc t) (omega (arith, at_start)) (omega (arith, at_start, lasts)) in
            let start : frame_start s (suc t / s.profile.frame) ≡ suc t = ap (frame_start s) now ∙ at_start in
            let few = frame_in_run s at.run.driven.sound t at.in_run in
            let in_frame : t / s.profile.frame ≡ f = frame_is s f t (omega (arith, at_start, lasts)) (omega (arith, at_start)) in
            let same : d ≡ device_in s clocks air v (frame_start s (suc f)) = enters ∙ ap (device_in s clocks air v) (sym at_start) in
            record {
              newer = [];
              is = ap (λ (e : Device). e.made.windows) same;
              later = λ x there. absurd (not_in_none x there);
              closed = subst (λ (e : Device). AreClosed e.made.windows) same
                  (closed_at_start at.run at.known (suc t) (omega (arith, few, in_frame, now)) start (suc t) d K fine.node.by_power have);
            }

    -- each step keeps it
    keeps_all : AllRows → HasWindows s v (IsOwn s clocks air v) t (device_in s clocks air v t) → Keeps All s v (clocks v) (heard_by air v) t
    keeps_all rows before =
        let k = keeps s clocks air v (λ now taken w. IsOwn s clocks air v w) t at rows (own_steps s clocks air v t) before in
        record {
          boot = λ d l count here next act off.
              (k.boot d l count (base t Lines d here) next act off, at_line s clocks air v t at l d _ next (comes_on s clocks air v t at count d) here.holds.1);
          off = λ d l n here next act on. (k.off d l n (base t Lines d here) next act on, at_line s clocks air v t at l d _ next refl here.holds.1);
          streaming = λ d l n here next act on.
              (k.streaming d l n (base t Lines d here) next act on, at_line s clocks air v t at l d _ next refl here.holds.1);
          joining = λ d h n y here next on stage says rank. (
            k.joining d h n y (base t Hearings d here) next on stage says rank,
            joins_in s clocks air v t at d h n y here.holds.0.0 (heard_in_floods s clocks air v t at h d next) on stage here.holds.1,
          );
          hearing = λ d h n j w here next on stage. (
            k.hearing d h n j w (base t Hearings d here) next on stage,
            hears_in s clocks air v t at d h n j w stage (open_first s clocks v (IsOwn s clocks air v) t d n j w on stage here.holds.0.1) here.holds.1,
          );
          sent = λ d x n j w here enters own ends on stage waiting. (
            k.sent d x n j w (base t End d here) enters own ends on stage waiting,
            sends_in s clocks air v t at d x n j w stage (open_first s clocks v (IsOwn s clocks air v) t d n j w on stage here.holds.0.1) here.holds.1,
          );
          late_sent = λ d x n j w here enters own ends on stage idle. (
            k.late_sent d x n j w (base t End d here) enters own ends on stage idle,
            absurd (true≢false (sym (waits s clocks air v t d x n j w here.holds.0.0 own on stage) ∙ idle)),
          );
          sent_elsewhere = λ d x here enters own ends none. (
            k.sent_elsewhere d x (base t End d here) enters own ends none,
            record { windows = here.holds.1.windows; stands = here.holds.1.stands },
          );
          frame_alarm = λ d n here due on awaits. (
            k.frame_alarm d n (base t Alarms d here) due on awaits,
            ends_frame s clocks air v t at d n here.holds.0.0 due.due on awaits here.holds.1,
          );
          opening = λ d n j here due on stage. (
            k.opening d n j (base t Alarms d here) due on stage,
            opens_in s clocks air v t at d n j here.holds.0.0 due.due on stage here.holds.1,
          );
          closing = λ d n j w here due on stage.
              (let open_ = open_first s clocks v (IsOwn s clocks air v) t d n j w on stage here.holds.0.1 in (
                k.closing d n j w (base t Alarms d here) due on stage,
                closes_in s clocks air v t at d n j w here.holds.0.0 on stage open_
                    (first_known s clocks v (IsOwn s clocks air v) t d n j w here.holds.0.1 open_) here.holds.1,
              ));
          alarm_elsewhere = λ d n here due on stage.
              (k.alarm_elsewhere d n (base t Alarms d here) due on stage, record { windows = here.holds.1.windows; stands = here.holds.1.stands });
          beginning = λ d o l here enters order due radio none.
              (k.beginning d o l (base t Start d here) enters order due radio none, record { windows = here.holds.1.windows; stands = here.holds.1.stands });
          missed_start = λ d o here enters order due cannot.
              (k.missed_start d o (base t Start d here) enters order due cannot, record { windows = here.holds.1.windows; stands = here.holds.1.stands });
          onwards = λ phase d here enters known.
              (let later = k.onwards phase d (base t phase d here) enters known in
              (later, goes_on phase d here.holds.0.0 later.0 here.holds.1 enters));
          passing = λ d here is.
              (let later = k.passing d (base t Over d here) is in
              (later, passes d (IsOwn s clocks air v) later.0 later.1 here.holds.1 is));
        }

  -- before the first tick
  at_first : IsSoundScenario s → IsUnderWay s clocks air v 0 Lines at_rest
  at_first sound = record {
    windows = record {
      linked = tt;
      begun = λ x there. absurd (not_in_none x there);
      added = λ f past. absurd (let lasts = frame_lasts s sound in omega (arith, lasts, past));
    };
    stands = λ began. absurd (omega (arith, began));
  }

  module _ (rows : AllRows) (run : IsObedientRun s clocks air) (known : knows s.nodes v ≡ true) where
    in_tick : (t : ℕ) (in_run : t < run_end s) → IsUnderWay s clocks air v t Lines (device_in s clocks air v t)
        → ((phase : Phase) → All t phase (device_at s v (clocks v) (heard_by air v) t phase)) × All (suc t) Lines (device_in s clocks air v (suc t))
    in_tick t in_run is =
        let steps = own_steps s clocks air v in
        let at = at_tick s clocks air v (λ now taken w. IsOwn s clocks air v w) rows run known t in_run in
        let have = windows_before s clocks air v (λ now taken w. IsOwn s clocks air v w) rows run known (λ u now. steps u) t (omega (arith, in_run)) in
        holds_in_tick All s v (clocks v) (heard_by air v) t run.driven.sound (run.driven.drift v known) in_run
        (keeps_all t at rows have)
        ((fine_before s clocks air v t (omega (arith, in_run)) run known at.before, have), is)

    -- before each tick, and as it is over
    pub under_way_before : (t : ℕ) → t ≤ run_end s → IsUnderWay s clocks air v t Lines (device_in s clocks air v t)
    unfolding before_tick
    under_way_before zero within = at_first run.driven.sound
    under_way_before (suc t) within =
        let in_run : t < run_end s = omega (arith, within) in
        (in_tick t in_run (under_way_before t (omega (arith, in_run)))).1.1

    pub under_way_over : (t : ℕ) → t < run_end s → IsUnderWay s clocks air v t Over (device_in s clocks air v (suc t))
    unfolding before_tick
    under_way_over t in_run = ((in_tick t in_run (under_way_before t (omega (arith, in_run)))).0 Over).1
