-- What is known of a node by its place, and of its windows as they open, is known throughout a run.
use Rattle.std.proofs.Common.{◌≡◌, ℕ, zero, suc, ◌+◌, ◌<◌, ◌≤◌, inl, inr, List, ◌∷◌, Bool, nat_lt, if◌then◌else◌, Some, None, Option, Contains}
use Rattle.std.proofs.Common.{true, refl, sym, ◌∙◌, subst, arith, true≢false}
use Rattle.lwb_base.specs.Messages.{Schedule}
use Rattle.lwb_base.specs.declared.event.Event.{Event}
use Rattle.lwb_base.specs.declared.event.Event.TheVariants.{Boot, Alarm, Heard, Sent}
use Rattle.glossy_relay.specs.Relaying.{after_sent}
use Rattle.radio_model.specs.declared.sending.Sending.{Sending}
use Rattle.bus_rules.specs.Tuning.{rank_of}
use Rattle.bus_rules.specs.Cores.{Setup, frame_ended}
use Rattle.bus_rules.specs.States.{core_after_act}
use Rattle.node_core.specs.declared.stage.Stage.TheVariants.{Scanning, AwaitFrame, AwaitSlot, InWindow}
use Rattle.node_core.specs.Windows.{Window}
use Rattle.node_core.specs.Nodes.{Node, rebooted, stopped_frame}
use Rattle.node_core.specs.Rows.{Stepped, boots, frame_alarms, window_opens, window_closes, window_hears, joins, sends, hearing}
use Rattle.scenario_text.specs.ScenarioParts.{ScenarioParts}
use Rattle.scenario_text.specs.FloodParts.{knows}
use Rattle.scenario_text.specs.Setups.{setup_of}
use Rattle.scenario_text.specs.declared.script.ScriptLine.{ScriptLine}
use Rattle.air_log.specs.declared.entry.Entry.{Entry}
use Rattle.air_log.specs.WindowLogs.{WindowLog, Happening, Closing}
use Rattle.air_log.specs.Devices.{Device, Power, PowerOff, PowerOn}
use Rattle.air_log.specs.ScriptedDevices.{device_after_on}
use Rattle.air_log.specs.Lawful.{heard_by}
use Rattle.air_log.specs.Trails.{Reception, run_end, before_tick, frame_start}
use Rattle.lwb_base.proofs.Elements.{not_in_none, contains_head, contains_tail, contains_cases}
use Rattle.law_trails.specs.Phases.{Phase, Lines, Hearings, End, Alarms, Start, Over, device_at, next_phase}
use Rattle.law_trails.specs.Walks.{Now, Keeps, device_after_row}
use Rattle.law_trails.specs.TrailLinks.{device_in}
use Rattle.law_trails.proofs.RowsOfDevices.{row_obeyed, row_power, switched_on_is}
use Rattle.law_trails.proofs.WalkOfRun.{holds_in_tick}
use Rattle.law_safety.specs.CountedFrames.{InFrame}
use Rattle.law_safety.specs.Invariant.{IsObedientRun}
use Rattle.law_safety.specs.KnownInRows.{IsHeardNow}
use Rattle.law_safety.specs.Rows.{AtTick, AllRows, IsFine}
use Rattle.law_safety.proofs.HeardNow.{heard_in_floods}
use Rattle.law_windows.specs.WindowSteps.{HasWindows, begun_log, joined_log}
use Rattle.law_windows.proofs.WindowWalk.{P, keeps, on_in, fine_before, waits, windows_before, at_tick}
use Rattle.law_windows.proofs.PlacesWithout.{awaiting, after_frame, unchanged}
use Rattle.law_windows.proofs.RowsOfWindows.{open_first, begun_after, joined_after, gone_on_after, closed_after}
use Rattle.law_windows.proofs.OpenedByRows.{IsOfRows, Rows, rows_steps}

-- Q is known of the node in each phase, by its power, and W of each window
module _ (s : ScenarioParts) (clocks : ℕ → ℕ → ℕ) (air : List Entry) (v : ℕ) (Q : ℕ → Phase → Power → Type 0) (W : WindowLog → Type 0) where
  abbrev S : Setup
  S = setup_of s v

  abbrev pub OfAll : List WindowLog → Type 0
  OfAll logs = (w : WindowLog) → Contains logs w → W w

  -- each step of tick t that changes the place of the node keeps Q, and W is known of the window that it opens
  pub record KeepsKnown (t : ℕ) : Type 0 where
    pub told : (l : ScriptLine) (n m : Node) → frame_start s l.frame ≡ t → InFrame s clocks v t n → m.frame ≡ n.frame → Q t Lines (PowerOn m)
    pub off : (l : ScriptLine) (boots : ℕ) → frame_start s l.frame ≡ t → Q t Lines (PowerOff boots)
    pub joined : (d : Device) (h : Reception) (n : Node) (y : Schedule) → IsFine s clocks air v t Hearings d → IsHeardNow s clocks air v t h d
        → d.power ≡ PowerOn n → n.stage ≡ Scanning → Q t Hearings (PowerOn n) → W (joined_log (setup_of s v) t (clocks v t) n h.packet y)
    pub hears : (n : Node) (j : ℕ) (w : Window) → n.stage ≡ InWindow j w → Q t Hearings (PowerOn n)
    pub goes_on : (n : Node) (j : ℕ) (w : Window) → n.stage ≡ InWindow j w → Q t Alarms (PowerOn n)
    pub ends_frame : (n : Node) → InFrame s clocks v t n → Q t Alarms (PowerOn (frame_alarms (setup_of s v) n).node)
    pub opened : (d : Device) (n : Node) (j : ℕ) → IsFine s clocks air v t Alarms d → d.alarm ≡ Some t → d.power ≡ PowerOn n → n.stage ≡ AwaitSlot j
        → Q t Alarms (PowerOn n) → W (begun_log (setup_of s v) t n j)
    pub closes : (n : Node) (j : ℕ) (b : Bool) → n.stage ≡ (if b then AwaitSlot (j + 1) else AwaitFrame) → Q t Alarms (PowerOn n)
    -- from phase to phase, and to the next tick
    pub ended : (p : Power) → Q t End p → Q t Alarms p
    pub started : (p : Power) → Q t Start p → Q t Over p
    pub onwards : (phase : Phase) (d : Device) → Q t phase d.power → d ≡ device_at s v (clocks v) (heard_by air v) t (next_phase phase)
        → Q t (next_phase phase) d.power
    pub passes : (p : Power) → Q t Over p → Q (suc t) Lines p

  -- W speaks of how a window opened
  module _ (still : (x : WindowLog) (happenings : List Happening) (last : Window) (closed : Option Closing) → W x
      → W (record x { happenings = happenings; last = last; closed = closed })) where
    abbrev All : ℕ → Phase → Device → Type 0
    All t phase d = P s clocks air v (Rows s clocks v) t phase d × Q t phase d.power × OfAll d.made.windows

    base : (t : ℕ) (phase : Phase) (d : Device) → Now All s t phase d → Now (P s clocks air v (Rows s clocks v)) s t phase d
    base t phase d now = record { in_run = now.in_run; known = now.known; holds = now.holds.0 }

    -- the node after a row, and as it comes on
    by_row : (t : ℕ) (phase : Phase) (e : Event) (x : Option Sending) (d : Device) (n : Node) (r : Stepped) → Q t phase (PowerOn r.node)
        → Q t phase (device_after_row (clocks v) (setup_of s v) t e x d n r).power
    by_row t phase e x d n r is = subst (Q t phase) (sym (row_power (clocks v) S t e x d n r)) is

    comes_on : (t : ℕ) → KeepsKnown t → (count : ℕ) (d : Device) (l : ScriptLine) → frame_start s l.frame ≡ t
        → IsFine s clocks air v t Lines (device_after_on (clocks v) (setup_of s v) t count d)
        → Q t Lines (device_after_on (clocks v) (setup_of s v) t count d).power
    comes_on t steps count d l now fine =
        let e = device_after_on (clocks v) S t count d in
        let n = (boots S (rebooted (count + 1)) (clocks v t)).node in
        let power : e.power ≡ PowerOn n = (switched_on_is (clocks v) S t count d).power in
        subst (Q t Lines) (sym power) (steps.told l n n now (on_in s clocks air v t Lines e n fine power).frame refl)

    -- the windows after a row
    same_logs : (logs logs' : List WindowLog) → logs' ≡ logs → OfAll logs → OfAll logs'
    same_logs logs logs' same known = subst OfAll (sym same) known

    one_more : (logs : List WindowLog) (x : WindowLog) → W x → OfAll logs → OfAll (x ∷ logs)
    one_more logs x is known w there = elim (contains_cases x logs w there) [ inl same ↦ subst W same is | inr old ↦ known w old ]

    goes_still : (x : WindowLog) (earlier : List WindowLog) (happenings : List Happening) (last : Window) (closed : Option Closing) → OfAll (x ∷ earlier)
        → OfAll (record x { happenings = happenings; last = last; closed = closed } ∷ earlier)
    goes_still x earlier happenings last closed known =
        one_more earlier (record x { happenings = happenings; last = last; closed = closed })
        (still x happenings last closed (known x (contains_head x earlier)))
        (λ w there. known w (contains_tail x earlier w there))

    keeps_all : (t : ℕ) → AtTick s clocks air v t → AllRows → HasWindows s v (IsOfRows s clocks v) t (device_in s clocks air v t) → KeepsKnown t
        → Keeps All s v (clocks v) (heard_by air v) t
    keeps_all t at rows before steps =
        let c = clocks v in
        let k = keeps s clocks air v (Rows s clocks v) t at rows (rows_steps s clocks v air t) before in
        record {
          boot = λ d l count here next act off.
              (let later = k.boot d l count (base t Lines d here) next act off in
              let n = rebooted (count + 1) in (
                later,
                comes_on t steps count d l next.now later.0,
                same_logs d.made.windows _ (row_obeyed c S t Boot None (record d { power = PowerOn n }) n (boots S n (c t))).windows here.holds.2,
              ));
          off = λ d l n here next act on. (k.off d l n (base t Lines d here) next act on, steps.off l n.core.boot next.now, here.holds.2);
          streaming = λ d l n here next act on. (
            k.streaming d l n (base t Lines d here) next act on,
            steps.told l n (record n { core = core_after_act l.act n.core }) next.now (on_in s clocks air v t Lines d n here.holds.0.0 on).frame refl,
            here.holds.2,
          );
          joining = λ d h n y here next on stage says rank.
              (let r = joins S n (c t) h.packet y in (
                k.joining d h n y (base t Hearings d here) next on stage says rank,
                by_row t Hearings (Heard h.packet) None d n r (steps.hears r.node _ _ refl),
                same_logs (joined_log S t (c t) n h.packet y ∷ d.made.windows) _
                    ((row_obeyed c S t (Heard h.packet) None d n r).windows ∙ joined_after S (c t) t n h.packet y d.made.windows stage)
                    (one_more d.made.windows (joined_log S t (c t) n h.packet y)
                    (steps.joined d h n y here.holds.0.0 (heard_in_floods s clocks air v t at h d next) on stage
                    (subst (Q t Hearings) on here.holds.1)) here.holds.2),
              ));
          hearing = λ d h n j w here next on stage.
              (let is = open_first s clocks v (IsOfRows s clocks v) t d n j w on stage here.holds.0.1 in
              let r = window_hears S n (c t) j w h.packet in
              let u = hearing s.profile (rank_of n.core.tune) (c t) w h.packet in (
                k.hearing d h n j w (base t Hearings d here) next on stage,
                by_row t Hearings (Heard h.packet) None d n r (steps.hears r.node _ _ refl),
                same_logs _ _ ((row_obeyed c S t (Heard h.packet) None d n r).windows
                    ∙ gone_on_after S (c t) t (Heard h.packet) None n j w u r.node d.made.windows is.first is.earlier stage refl is.is)
                    (goes_still is.first is.earlier _ u is.first.closed (subst OfAll is.is here.holds.2)),
              ));
          sent = λ d x n j w here enters own ends on stage waiting.
              (let is = open_first s clocks v (IsOfRows s clocks v) t d n j w on stage here.holds.0.1 in
              let r = sends n j w in
              let u : Window = record w { flood = after_sent w.flood } in (
                k.sent d x n j w (base t End d here) enters own ends on stage waiting,
                by_row t Alarms Sent (Some x) (record d { sending = None }) n r (steps.goes_on r.node _ _ refl),
                same_logs _ _ ((row_obeyed c S t Sent (Some x) (record d { sending = None }) n r).windows
                    ∙ gone_on_after S (c t) t Sent (Some x) n j w u r.node d.made.windows is.first is.earlier stage refl is.is)
                    (goes_still is.first is.earlier _ u is.first.closed (subst OfAll is.is here.holds.2)),
              ));
          late_sent = λ d x n j w here enters own ends on stage idle.
              absurd (true≢false (sym (waits s clocks air v t d x n j w here.holds.0.0 own on stage) ∙ idle));
          sent_elsewhere = λ d x here enters own ends none.
              (k.sent_elsewhere d x (base t End d here) enters own ends none, steps.ended d.power here.holds.1, here.holds.2);
          frame_alarm = λ d n here due on awaits.
              (let r = frame_alarms S n in
              let core = frame_ended S n.frame n.core in (
                k.frame_alarm d n (base t Alarms d here) due on awaits,
                by_row t Alarms Alarm None (record d { alarm = None }) n r
                    (steps.ends_frame n (on_in s clocks air v t Alarms d n here.holds.0.0 on).frame),
                same_logs d.made.windows _ ((row_obeyed c S t Alarm None (record d { alarm = None }) n r).windows
                    ∙ unchanged t Alarm None n r.node n.stage r.node.stage d.made.windows (awaiting n.stage awaits)
                    (after_frame core.tune (stopped_frame (n.frame + 1)))) here.holds.2,
              ));
          opening = λ d n j here due on stage.
              (let r = window_opens S n j in (
                k.opening d n j (base t Alarms d here) due on stage,
                by_row t Alarms Alarm None (record d { alarm = None }) n r (steps.goes_on r.node _ _ refl),
                same_logs (begun_log S t n j ∷ d.made.windows) _
                    ((row_obeyed c S t Alarm None (record d { alarm = None }) n r).windows ∙ begun_after S (c t) t n j d.made.windows stage)
                    (one_more d.made.windows (begun_log S t n j)
                    (steps.opened d n j here.holds.0.0 due.due on stage (subst (Q t Alarms) on here.holds.1)) here.holds.2),
              ));
          closing = λ d n j w here due on stage.
              (let is = open_first s clocks v (IsOfRows s clocks v) t d n j w on stage here.holds.0.1 in
              let r = window_closes S n j w in (
                k.closing d n j w (base t Alarms d here) due on stage,
                by_row t Alarms Alarm None (record d { alarm = None }) n r (steps.closes r.node j (nat_lt j w.last) refl),
                same_logs _ _ ((row_obeyed c S t Alarm None (record d { alarm = None }) n r).windows
                    ∙ closed_after S (c t) t n j w d.made.windows is.first is.earlier stage is.is)
                    (goes_still is.first is.earlier is.first.happenings is.first.last _ (subst OfAll is.is here.holds.2)),
              ));
          alarm_elsewhere = λ d n here due on stage. (k.alarm_elsewhere d n (base t Alarms d here) due on stage, here.holds.1, here.holds.2);
          beginning = λ d o l here enters order due radio none.
              (k.beginning d o l (base t Start d here) enters order due radio none, steps.started d.power here.holds.1, here.holds.2);
          missed_start = λ d o here enters order due cannot.
              (k.missed_start d o (base t Start d here) enters order due cannot, steps.started d.power here.holds.1, here.holds.2);
          onwards = λ phase d here enters known.
              (k.onwards phase d (base t phase d here) enters known, steps.onwards phase d here.holds.1 enters, here.holds.2);
          passing = λ d here is. (k.passing d (base t Over d here) is, steps.passes d.power here.holds.1, here.holds.2);
        }

    module _ (rows : AllRows) (run : IsObedientRun s clocks air) (known : knows s.nodes v ≡ true) (first : Q 0 Lines (PowerOff 0))
        (steps : (t : ℕ) → AtTick s clocks air v t → KeepsKnown t) where
      -- before each tick
      known_before : (t : ℕ) → t ≤ run_end s → Q t Lines (device_in s clocks air v t).power × OfAll (device_in s clocks air v t).made.windows
      unfolding before_tick
      known_before zero within = (first, λ w there. absurd (not_in_none w there))
      known_before (suc t) within =
          let in_run : t < run_end s = omega (arith, within) in
          let at = at_tick s clocks air v (Rows s clocks v) rows run known t in_run in
          let have = windows_before s clocks air v (Rows s clocks v) rows run known (λ u now. rows_steps s clocks v air u) t (omega (arith, in_run)) in
          let before = known_before t (omega (arith, in_run)) in
          let all = (holds_in_tick All s v (clocks v) (heard_by air v) t run.driven.sound (run.driven.drift v known) in_run
          (keeps_all t at rows have (steps t at))
          ((fine_before s clocks air v t (omega (arith, in_run)) run known at.before, have), before.0, before.1)).1 in
          (all.1, all.2)

      pub all_windows : (t : ℕ) → t ≤ run_end s → (w : WindowLog) → Contains (device_in s clocks air v t).made.windows w → W w
      all_windows t within = (known_before t within).1
