-- What each step keeps of what a node sends in its windows is known throughout a run.
use Rattle.std.proofs.Common.{◌≡◌, ℕ, zero, suc, ◌+◌, ◌<◌, ◌≤◌, List, [], true, Some, None, Option, refl, sym, ◌∙◌, subst, arith, true≢false}
use Rattle.lwb_base.specs.declared.event.Event.TheVariants.{Boot, Alarm, Heard, Sent}
use Rattle.glossy_relay.specs.Relaying.{after_sent}
use Rattle.radio_model.specs.declared.sending.Sending.{Sending}
use Rattle.bus_rules.specs.Tuning.{rank_of}
use Rattle.bus_rules.specs.Cores.{frame_ended}
use Rattle.node_core.specs.declared.stage.Stage.{Stage}
use Rattle.node_core.specs.declared.stage.Stage.TheVariants.{Idle, Scanning, AwaitFrame, AwaitSlot, InWindow}
use Rattle.node_core.specs.Nodes.{Node, rebooted, stopped_frame}
use Rattle.node_core.specs.Rows.{boots, frame_alarms, window_opens, window_closes, window_hears, joins, sends, hearing}
use Rattle.scenario_text.specs.ScenarioParts.{ScenarioParts}
use Rattle.scenario_text.specs.FloodParts.{knows}
use Rattle.scenario_text.specs.declared.script.ScriptLine.{ScriptLine}
use Rattle.air_log.specs.declared.entry.Entry.{Entry}
use Rattle.air_log.specs.WindowLogs.{WindowLog}
use Rattle.air_log.specs.Devices.{Device, Power, PowerOff, PowerOn, OrderedPacket}
use Rattle.air_log.specs.ScriptedDevices.{device_after_on}
use Rattle.air_log.specs.Lawful.{heard_by}
use Rattle.scenario_text.specs.Setups.{setup_of}
use Rattle.air_log.specs.Trails.{run_end, before_tick}
use Rattle.law_trails.specs.Phases.{Phase, Lines, Hearings, End, Alarms, Start, Over, IsNextLineOf}
use Rattle.law_trails.specs.Walks.{Now, Keeps, AwaitsFrame, HasNoWindow, NoWindow, device_after_row}
use Rattle.law_trails.specs.TrailLinks.{device_in}
use Rattle.law_trails.proofs.RowsLeave.{joining_leaves, hearing_leaves, sent_leaves, frame_alarm_leaves, opening_leaves, closing_leaves}
use Rattle.law_trails.proofs.RowsOfDevices.{row_obeyed, switched_on_is}
use Rattle.law_trails.proofs.WalkOfRun.{holds_in_tick}
use Rattle.law_safety.specs.StillDevices.{IsStill}
use Rattle.law_safety.specs.RadiosOn.{RadioFor}
use Rattle.law_safety.specs.Invariant.{IsObedientRun}
use Rattle.law_safety.specs.NodesInOrder.{InOrderBy}
use Rattle.law_safety.specs.Rows.{IsFine, AtTick, AllRows}
use Rattle.law_safety.proofs.HeardNow.{heard_in_floods}
use Rattle.law_safety.proofs.OpenWindows.{not_missed}
use Rattle.law_windows.specs.OpenWindows.{AreClosed, StandAt, StandBy}
use Rattle.law_windows.specs.WindowFloods.{WindowHasFlood}
use Rattle.law_windows.proofs.WindowFloods.{flood_steps}
use Rattle.law_windows.specs.WindowSteps.{HasWindows}
use Rattle.law_windows.specs.SendingSteps.{Of, KeepsSendings}
use Rattle.law_windows.proofs.PlacesWithout.{all_closed, awaiting, after_frame, unchanged}
use Rattle.law_windows.proofs.RowsOfWindows.{open_first, first_known, begun_after, joined_after, gone_on_after, closed_after}
use Rattle.law_windows.proofs.WindowWalk.{P, keeps, on_in, fine_before, told_rests, waits, windows_before, at_tick}

-- what is known of windows: their floods
abbrev Flooded : ScenarioParts → ℕ → ℕ → ℕ → WindowLog → Type 0
Flooded s v now taken w = WindowHasFlood (setup_of s v) w

-- a device that is off or at a place without a window sends nothing
no_sending : {A : Type 0} (o : Option Sending) (x : Sending) → o ≡ None → o ≡ Some x → A
no_sending o x none some = absurd cc

still_at : (n : Node) (d : Device) (st : Stage) → NoWindow st → RadioFor n d st → IsStill d
still_at n d Idle none radio = absurd radio
still_at n d Scanning none radio = radio.1
still_at n d AwaitFrame none radio = radio.1
still_at n d (AwaitSlot j) none radio = radio.1
still_at n d (InWindow j w) none radio = absurd none

module _ (s : ScenarioParts) (clocks : ℕ → ℕ → ℕ) (air : List Entry) (v : ℕ)
    (R : List WindowLog → Option OrderedPacket → Option Sending → List Sending → Type 0) where
  abbrev Has : Device → Type 0
  Has d = Of s clocks air v R d

  abbrev All : ℕ → Phase → Device → Type 0
  All t phase d = P s clocks air v (Flooded s v) t phase d × Of s clocks air v R d

  base : (t : ℕ) (phase : Phase) (d : Device) → Now All s t phase d → Now (P s clocks air v (Flooded s v)) s t phase d
  base t phase d now = record { in_run = now.in_run; known = now.known; holds = now.holds.0 }

  fine : (t : ℕ) (phase : Phase) (d : Device) → Now All s t phase d → Now (IsFine s clocks air v) s t phase d
  fine t phase d now = record { in_run = now.in_run; known = now.known; holds = now.holds.0.0 }

  -- from one device to another, by what R speaks of
  moved_on : (logs : List WindowLog) (o : Option OrderedPacket) (x : Option Sending) (xs : List Sending) (e : Device)
      → e.made.windows ≡ logs → e.ordered ≡ o → e.sending ≡ x → e.made.sent ≡ xs → R logs o x xs → Has e
  moved_on logs o x xs e same_logs same_o same_x same_xs has =
      subst (λ (ls : List WindowLog). R ls e.ordered e.sending e.made.sent) (sym same_logs)
      (subst (λ (p : Option OrderedPacket). R logs p e.sending e.made.sent) (sym same_o)
      (subst (λ (y : Option Sending). R logs o y e.made.sent) (sym same_x)
      (subst (R logs o x) (sym same_xs) has)))

  -- a node that rests has nothing ordered, so going off takes nothing from it
  goes_off : (t : ℕ) → AtTick s clocks air v t → (d : Device) (l : ScriptLine) (n : Node) → Now All s t Lines d
      → IsNextLineOf s v (clocks v) (heard_by air v) t l d → d.power ≡ PowerOn n → R d.made.windows None d.sending d.made.sent
  goes_off t at d l n here next on =
      let still = still_at n d n.stage (told_rests s clocks air v t at d l n here.holds.0.0 next on)
      (on_in s clocks air v t Lines d n here.holds.0.0 on).radio.at in
      subst (λ (o : Option OrderedPacket). R d.made.windows o d.sending d.made.sent) still.ordered here.holds.1

  comes_on : (t count : ℕ) (d : Device) → Has d → Has (device_after_on (clocks v) (setup_of s v) t count d)
  comes_on t count d has =
      let n = rebooted (count + 1) in
      let dd : Device = record d { power = PowerOn n } in
      let r = boots (setup_of s v) n (clocks v t) in
      let e = device_after_on (clocks v) (setup_of s v) t count d in
      let is = switched_on_is (clocks v) (setup_of s v) t count d in
      moved_on d.made.windows d.ordered d.sending d.made.sent e
      (row_obeyed (clocks v) (setup_of s v) t Boot None dd n r).windows is.ordered is.sending is.sent has

  ends_frame : (t : ℕ) (d : Device) (n : Node) → AwaitsFrame n.stage → Has d
      → Has (device_after_row (clocks v) (setup_of s v) t Alarm None (record d { alarm = None }) n (frame_alarms (setup_of s v) n))
  ends_frame t d n awaits has =
      let dd : Device = record d { alarm = None } in
      let r = frame_alarms (setup_of s v) n in
      let e = device_after_row (clocks v) (setup_of s v) t Alarm None dd n r in
      let is = frame_alarm_leaves (clocks v) (setup_of s v) t dd n in
      let core = frame_ended (setup_of s v) n.frame n.core in
      moved_on d.made.windows d.ordered d.sending d.made.sent e
      ((row_obeyed (clocks v) (setup_of s v) t Alarm None dd n r).windows
      ∙ unchanged t Alarm None n r.node n.stage r.node.stage d.made.windows (awaiting n.stage awaits) (after_frame core.tune (stopped_frame (n.frame + 1))))
      is.ordered_is is.sending is.sent has

  -- no window is open where one opens
  none_open : (t : ℕ) (d : Device) (n : Node) (st : Stage) → d.power ≡ PowerOn n → n.stage ≡ st → NoWindow st
      → HasWindows s v (WindowHasFlood (setup_of s v)) t d → AreClosed d.made.windows
  none_open t d n st on stage none have = all_closed d.made.windows n st none
      (subst (StandAt d.made.windows n) stage (subst (StandBy d.made.windows) on have.stand))

  -- a node with no window sends nothing
  silent_by : (t : ℕ) (d : Device) (p : Power) → HasNoWindow p → InOrderBy s clocks air v t (suc t) d p → d.sending ≡ None
  silent_by t d (PowerOff boots) none is = is.0.still.sending
  silent_by t d (PowerOn n) none is = (still_at n d n.stage none is.radio.at).sending

  keeps_all : (t : ℕ) → AtTick s clocks air v t → AllRows → HasWindows s v (WindowHasFlood (setup_of s v)) t (device_in s clocks air v t)
      → KeepsSendings s clocks air v R t
      → Keeps All s v (clocks v) (heard_by air v) t
  keeps_all t at rows before steps =
      let c = clocks v in
      let S = setup_of s v in
      let k = keeps s clocks air v (Flooded s v) t at rows (flood_steps s clocks air v t at) before in
      record {
        boot = λ d l count here next act off. (k.boot d l count (base t Lines d here) next act off, comes_on t count d here.holds.1);
        off = λ d l n here next act on. (k.off d l n (base t Lines d here) next act on, goes_off t at d l n here next on);
        streaming = λ d l n here next act on. (k.streaming d l n (base t Lines d here) next act on, here.holds.1);
        joining = λ d h n y here next on stage says rank. (
          k.joining d h n y (base t Hearings d here) next on stage says rank,
          (let is = joining_leaves c S t d n h.packet y in
              moved_on _ _ _ _ (device_after_row c S t (Heard h.packet) None d n (joins S n (c t) h.packet y))
              ((row_obeyed c S t (Heard h.packet) None d n (joins S n (c t) h.packet y)).windows ∙ joined_after S (c t) t n h.packet y d.made.windows stage)
              is.ordered_is is.sending is.sent
              (steps.joined_kept d h n y (fine t Hearings d here) next (heard_in_floods s clocks air v t at h d next) on stage says rank
              (none_open t d n Scanning on stage tt here.holds.0.1) here.holds.1)),
        );
        hearing = λ d h n j w here next on stage. (
          k.hearing d h n j w (base t Hearings d here) next on stage,
          (let is = hearing_leaves c S t d n j w h.packet in
              let open_ = open_first s clocks v (WindowHasFlood (setup_of s v)) t d n j w on stage here.holds.0.1 in
              let r = window_hears S n (c t) j w h.packet in
              moved_on _ _ _ _ (device_after_row c S t (Heard h.packet) None d n r)
              ((row_obeyed c S t (Heard h.packet) None d n r).windows
              ∙ gone_on_after S (c t) t (Heard h.packet) None n j w
              (hearing s.profile (rank_of n.core.tune) (c t) w h.packet) r.node d.made.windows open_.first open_.earlier stage refl open_.is)
              is.ordered_is is.sending is.sent
              (steps.heard_kept d h n j w (fine t Hearings d here) next (heard_in_floods s clocks air v t at h d next) on stage open_
              (first_known s clocks v (WindowHasFlood (setup_of s v)) t d n j w here.holds.0.1 open_) here.holds.1)),
        );
        sent = λ d x n j w here enters own ends on stage waiting. (
          k.sent d x n j w (base t End d here) enters own ends on stage waiting,
          (let dd : Device = record d { sending = None } in
              let is = sent_leaves c S t dd x n j w in
              let open_ = open_first s clocks v (WindowHasFlood (setup_of s v)) t d n j w on stage here.holds.0.1 in
              let r = sends n j w in
              moved_on _ _ _ _ (device_after_row c S t Sent (Some x) dd n r)
              ((row_obeyed c S t Sent (Some x) dd n r).windows
              ∙ gone_on_after S (c t) t Sent (Some x) n j w
              (record w { flood = after_sent w.flood }) r.node d.made.windows open_.first open_.earlier stage refl open_.is)
              is.ordered_is is.sending is.sent
              (steps.ended_kept d x n j w (fine t End d here) enters own ends on stage open_ here.holds.1)),
        );
        late_sent = λ d x n j w here enters own ends on stage idle. (
          k.late_sent d x n j w (base t End d here) enters own ends on stage idle,
          absurd (true≢false (sym (waits s clocks air v t d x n j w here.holds.0.0 own on stage) ∙ idle)),
        );
        sent_elsewhere = λ d x here enters own ends none. (
          k.sent_elsewhere d x (base t End d here) enters own ends none,
          no_sending d.sending x (silent_by t d d.power none here.holds.0.0.node.by_power) own,
        );
        frame_alarm = λ d n here due on awaits. (k.frame_alarm d n (base t Alarms d here) due on awaits, ends_frame t d n awaits here.holds.1);
        opening = λ d n j here due on stage. (
          k.opening d n j (base t Alarms d here) due on stage,
          (let dd : Device = record d { alarm = None } in
              let is = opening_leaves c S t dd n j in
              let r = window_opens S n j in
              moved_on _ _ _ _ (device_after_row c S t Alarm None dd n r)
              ((row_obeyed c S t Alarm None dd n r).windows ∙ begun_after S (c t) t n j d.made.windows stage)
              is.ordered_is is.sending is.sent
              (steps.opened_kept d n j (fine t Alarms d here) due on stage (none_open t d n (AwaitSlot j) on stage tt here.holds.0.1) here.holds.1)),
        );
        closing = λ d n j w here due on stage. (
          k.closing d n j w (base t Alarms d here) due on stage,
          (let dd : Device = record d { alarm = None } in
              let is = closing_leaves c S t dd n j w in
              let open_ = open_first s clocks v (WindowHasFlood (setup_of s v)) t d n j w on stage here.holds.0.1 in
              let r = window_closes S n j w in
              moved_on _ _ _ _ (device_after_row c S t Alarm None dd n r)
              ((row_obeyed c S t Alarm None dd n r).windows ∙ closed_after S (c t) t n j w d.made.windows open_.first open_.earlier stage open_.is)
              is.ordered_is is.sending is.sent
              (steps.closed_kept d n j w (fine t Alarms d here) due on stage open_ here.holds.1)),
        );
        alarm_elsewhere = λ d n here due on stage. (k.alarm_elsewhere d n (base t Alarms d here) due on stage, here.holds.1);
        beginning = λ d o l here enters order due radio none. (
          k.beginning d o l (base t Start d here) enters order due radio none,
          steps.started_kept d o l (fine t Start d here) enters order due radio none here.holds.0.1.stand here.holds.1,
        );
        missed_start = λ d o here enters order due cannot. (
          k.missed_start d o (base t Start d here) enters order due cannot,
          not_missed s clocks air v t d o order here.holds.0.0 cannot,
        );
        onwards = λ phase d here enters known. (k.onwards phase d (base t phase d here) enters known, here.holds.1);
        passing = λ d here is. (k.passing d (base t Over d here) is, here.holds.1);
      }

  module _ (rows : AllRows) (run : IsObedientRun s clocks air) (known : knows s.nodes v ≡ true) (first : R [] None None [])
      (steps : (t : ℕ) → AtTick s clocks air v t → KeepsSendings s clocks air v R t) where
    -- before each tick
    pub sendings_before : (t : ℕ) → t ≤ run_end s → Of s clocks air v R (device_in s clocks air v t)
    unfolding before_tick
    sendings_before zero within = first
    sendings_before (suc t) within =
        let in_run : t < run_end s = omega (arith, within) in
        let at = at_tick s clocks air v (Flooded s v) rows run known t in_run in
        let have = windows_before s clocks air v (Flooded s v) rows run known (λ u now. flood_steps s clocks air v u now) t (omega (arith, in_run)) in
        (holds_in_tick All s v (clocks v) (heard_by air v) t run.driven.sound (run.driven.drift v known) in_run
        (keeps_all t at rows have (steps t at))
        ((fine_before s clocks air v t (omega (arith, in_run)) run known at.before, have), sendings_before t (omega (arith, in_run)))).1.1
