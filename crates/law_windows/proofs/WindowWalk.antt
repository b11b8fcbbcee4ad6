-- What each step that touches a window keeps is known of all windows of a run.
use Rattle.std.proofs.Common.{◌≡◌, ℕ, zero, suc, ◌+◌, ◌<◌, ◌≤◌, inl, inr, List, true, is_some, Some, None, Option, Contains, refl, sym, ◌∙◌, ap, subst, arith}
use Rattle.std.proofs.Common.{true≢false}
use Rattle.std.specs.Option.{IfSome}
use Rattle.std.proofs.lemmas.Bool.{or_right, cases_lt}
use Rattle.lwb_base.specs.declared.event.Event.TheVariants.{Boot, Alarm}
use Rattle.radio_model.specs.declared.sending.Sending.{Sending}
use Rattle.bus_rules.specs.Cores.{Core, frame_ended}
use Rattle.bus_rules.specs.States.{core_after_act}
use Rattle.node_core.specs.declared.stage.Stage.{Stage}
use Rattle.node_core.specs.declared.stage.Stage.TheVariants.{InWindow}
use Rattle.node_core.specs.Windows.{Window}
use Rattle.node_core.specs.Nodes.{Node, rebooted, stopped_frame}
use Rattle.node_core.specs.Rows.{boots, frame_alarms}
use Rattle.scenario_text.specs.ScenarioParts.{ScenarioParts}
use Rattle.scenario_text.specs.FloodParts.{knows}
use Rattle.scenario_text.specs.declared.script.ScriptLine.{ScriptLine}
use Rattle.air_log.specs.declared.entry.Entry.{Entry}
use Rattle.air_log.specs.WindowLogs.{WindowLog, Closing}
use Rattle.air_log.specs.Devices.{Device, Power, PowerOff, PowerOn}
use Rattle.air_log.specs.ScriptedDevices.{device_after_on, with_new_core}
use Rattle.air_log.specs.Lawful.{heard_by}
use Rattle.scenario_text.specs.Setups.{setup_of}
use Rattle.air_log.specs.Trails.{run_end, before_tick}
use Rattle.lwb_base.proofs.Elements.{not_in_none, contains_head}
use Rattle.law_trails.specs.Phases.{Phase, Lines, Hearings, End, Alarms, Start, Over, IsNextLineOf, device_at, next_phase}
use Rattle.law_trails.specs.Walks.{Now, Keeps, AwaitsFrame, NoWindow, device_after_row}
use Rattle.law_trails.specs.TrailLinks.{device_in}
use Rattle.law_trails.proofs.WalkOfRun.{holds_in_tick}
use Rattle.law_trails.proofs.SentInTrails.{sent_below}
use Rattle.law_safety.specs.NodesInOrder.{IsOn, InOpenWindow, InOrderBy, WindowAt}
use Rattle.law_safety.specs.Invariant.{Invariant, IsObedientRun}
use Rattle.law_safety.specs.Rows.{IsFine, AtTick, AllRows, told_in}
use Rattle.law_safety.proofs.Induction.{rows_suffice}
use Rattle.law_safety.proofs.FrameStarts.{line_starts, rests_at_start}
use Rattle.law_safety.proofs.HeardNow.{heard_in_floods}
use Rattle.law_windows.specs.OpenWindows.{IsOpenFirst, StandBy}
use Rattle.law_windows.specs.WindowSteps.{HaveWindows, HasWindows, KeepsWindows, taken_in}
use Rattle.law_windows.proofs.PlacesWithout.{all_closed, stand_there, no_window, awaiting, after_frame}
use Rattle.law_windows.proofs.RowsOfWindows.{rests_on, begins, joins_in, open_first, first_known, hears_in, sends_in, closes_in}

closed_still : (t : ℕ) (x : WindowLog) (c : Option Closing) → IfSome c (λ c. c.tick ≤ t) → IfSome c (λ c. c.tick ≤ suc t)
closed_still t x None is = tt
closed_still t x (Some c) is = omega (arith, is)

-- a property of a run, and the invariant with it
abbrev pub WithOrder : ScenarioParts → (ℕ → ℕ → ℕ) → List Entry → ℕ → (ℕ → Phase → Device → Type 0) → ℕ → Phase → Device → Type 0
WithOrder s clocks air v Q t phase d = IsFine s clocks air v t phase d × Q t phase d

module _ (s : ScenarioParts) (clocks : ℕ → ℕ → ℕ) (air : List Entry) (v : ℕ) where
  -- what is known of a node that is on, in a phase
  pub on_in : (t : ℕ) (phase : Phase) (d : Device) (n : Node) → IsFine s clocks air v t phase d → d.power ≡ PowerOn n
      → IsOn s clocks air v t (told_in t phase) d n
  on_in t phase d n fine on = subst (λ (p : Power). InOrderBy s clocks air v t (told_in t phase) d p) on fine.node.by_power

  -- the invariant before a tick is that of each device
  pub fine_before : (t : ℕ) → t ≤ run_end s → IsObedientRun s clocks air → knows s.nodes v ≡ true → Invariant s clocks air t
      → IsFine s clocks air v t Lines (device_in s clocks air v t)
  fine_before t within run known inv =
      let there : (x : Sending) → Contains (device_in s clocks air v t).made.sent x
      → _ = λ x in_made. (sent_below s clocks air run.heedful.trails v known t within x).1 in_made in
      record {
        node = inv.nodes v known;
        host = λ rank is. inv.hosts rank v is;
        sent = λ x in_made. let b = there x in_made in inv.sendings x b.there b.below;
        before = λ x in_made. (there x in_made).below;
      }

  -- a node that a script line is given rests
  pub told_rests : (t : ℕ) → AtTick s clocks air v t → (d : Device) (l : ScriptLine) (n : Node) → IsFine s clocks air v t Lines d
      → IsNextLineOf s v (clocks v) (heard_by air v) t l d → d.power ≡ PowerOn n → NoWindow n.stage
  told_rests t at d l n fine next on =
      no_window n.stage (rests_at_start s clocks v t n (line_starts s at.run.driven.sound t l next.now) (on_in t Lines d n fine on).frame)

  -- while an own transmission runs, the flood of the open window waits
  pub waits : (t : ℕ) (d : Device) (x : Sending) (n : Node) (j : ℕ) (w : Window) → IsFine s clocks air v t End d → d.sending ≡ Some x
      → d.power ≡ PowerOn n → n.stage ≡ InWindow j w → w.flood.waiting ≡ true
  waits t d x n j w fine sending on stage =
      let window : InOpenWindow s clocks air v (suc t) n d j w =
      subst (λ (st : Stage). WindowAt s clocks air v (suc t) n d st) stage (on_in t End d n fine on).window in
      window.flood.waits ∙ or_right (is_some d.ordered) (is_some d.sending) (ap (λ (o : Option Sending). is_some o) sending)

  module _ (K : ℕ → ℕ → WindowLog → Type 0) where
    abbrev pub Has : ℕ → Phase → Device → Type 0
    Has t phase d = HasWindows s v (K t (taken_in t phase)) t d

    abbrev pub P : ℕ → Phase → Device → Type 0
    P t phase d = WithOrder s clocks air v Has t phase d

    fine : (t : ℕ) (phase : Phase) (d : Device) → Now P s t phase d → Now (IsFine s clocks air v) s t phase d
    fine t phase d now = record { in_run = now.in_run; known = now.known; holds = now.holds.0 }

    -- nothing is open at a node that is given something
    told_on : (t : ℕ) (d : Device) (n : Node) (core : Core) → NoWindow n.stage → d.power ≡ PowerOn n → Has t Lines d → Has t Lines (with_new_core d n core)
    told_on t d n core none on have = record {
      each = have.each;
      past = have.past;
      apart = have.apart;
      stand = stand_there d.made.windows (record n { core = core }) n.stage none
          (all_closed d.made.windows n n.stage none (subst (StandBy d.made.windows) on have.stand));
      delivered = have.delivered;
    }

    comes_on : (t count : ℕ) (d : Device) → d.power ≡ PowerOff count → Has t Lines d → Has t Lines (device_after_on (clocks v) (setup_of s v) t count d)
    comes_on t count d off have =
        let n = rebooted (count + 1) in
        rests_on s clocks v (K t t) t Boot None (record d { power = PowerOn n }) n (boots (setup_of s v) n (clocks v t)) refl tt tt refl
        (record { each = have.each; past = have.past; apart = have.apart; stand = subst (StandBy d.made.windows) off have.stand; delivered = have.delivered })

    ends_frame : (t : ℕ) (d : Device) (n : Node) → d.power ≡ PowerOn n → AwaitsFrame n.stage → Has t Alarms d
        → Has t Alarms (device_after_row (clocks v) (setup_of s v) t Alarm None (record d { alarm = None }) n (frame_alarms (setup_of s v) n))
    ends_frame t d n on awaits have =
        let core = frame_ended (setup_of s v) n.frame n.core in
        rests_on s clocks v (K t (suc t)) t Alarm None (record d { alarm = None }) n (frame_alarms (setup_of s v) n) on (awaiting n.stage awaits)
        (after_frame core.tune (stopped_frame (n.frame + 1))) refl (record {
          each = have.each;
          past = have.past;
          apart = have.apart;
          stand = have.stand;
          delivered = have.delivered;
        })

    -- what is changed is neither node nor windows
    still : (Q : WindowLog → Type 0) (t : ℕ) (d : Device) → HasWindows s v Q t d → HaveWindows s v Q t d.made.windows d.made.deliveries d.power
    still Q t d have = record { each = have.each; past = have.past; apart = have.apart; stand = have.stand; delivered = have.delivered }

    -- from phase to phase
    goes_on : (t : ℕ) → AtTick s clocks air v t → KeepsWindows s clocks air v K t → HasWindows s v (K t t) t (device_in s clocks air v t)
        → (phase : Phase) (d : Device) → Now P s t phase d → d ≡ device_at s v (clocks v) (heard_by air v) t (next_phase phase) → Has t (next_phase phase) d
    goes_on t at steps before Lines d here enters = here.holds.1
    goes_on t at steps before Hearings d here enters = record {
      each = steps.taken d here.holds.0 enters before here.holds.1;
      past = here.holds.1.past;
      apart = here.holds.1.apart;
      stand = here.holds.1.stand;
      delivered = here.holds.1.delivered;
    }
    goes_on t at steps before End d here enters = here.holds.1
    goes_on t at steps before Alarms d here enters = here.holds.1
    goes_on t at steps before Start d here enters = here.holds.1
    goes_on t at steps before Over d here enters = here.holds.1

    first_there : (d : Device) (n : Node) (j : ℕ) (w : Window) (is : IsOpenFirst d.made.windows n j w) → Contains d.made.windows is.first
    first_there d n j w is = subst (λ (l : List WindowLog). Contains l is.first) (sym is.is) (contains_head is.first is.earlier)

    -- each step keeps it
    pub keeps : (t : ℕ) → AtTick s clocks air v t → AllRows → KeepsWindows s clocks air v K t → HasWindows s v (K t t) t (device_in s clocks air v t)
        → Keeps P s v (clocks v) (heard_by air v) t
    keeps t at rows steps before = record {
      boot = λ d l count here next act off.
          (rows.boot s clocks air v t at d l count (fine t Lines d here) next act off, comes_on t count d off here.holds.1);
      off = λ d l n here next act on. (
        rows.off s clocks air v t at d l n (fine t Lines d here) next act on,
        record {
          each = here.holds.1.each;
          past = here.holds.1.past;
          apart = here.holds.1.apart;
          stand = all_closed d.made.windows n n.stage (told_rests t at d l n here.holds.0 next on) (subst (StandBy d.made.windows) on here.holds.1.stand);
          delivered = here.holds.1.delivered;
        },
      );
      streaming = λ d l n here next act on. (
        rows.streaming s clocks air v t at d l n (fine t Lines d here) next act on,
        told_on t d n (core_after_act l.act n.core) (told_rests t at d l n here.holds.0 next on) on here.holds.1,
      );
      joining = λ d h n y here next on stage says rank. (
        rows.joining s clocks air v t at d h n y (fine t Hearings d here) next on stage says rank,
        joins_in s clocks v (K t t) t d n h.packet y on stage
            (steps.joined d h n y here.holds.0 next (heard_in_floods s clocks air v t at h d next) on stage says rank) here.holds.1,
      );
      hearing = λ d h n j w here next on stage.
          (let is = open_first s clocks v (K t t) t d n j w on stage here.holds.1 in (
            rows.hearing s clocks air v t at d h n j w (fine t Hearings d here) next on stage,
            hears_in s clocks v (K t t) t d n j w h.packet stage is here.holds.1
                (steps.heard d h n j w is.first (fine t Hearings d here) next (heard_in_floods s clocks air v t at h d next) on stage is.now
                (first_there d n j w is) (first_known s clocks v (K t t) t d n j w here.holds.1 is)),
          ));
      sent = λ d x n j w here enters own ends on stage waiting.
          (let is = open_first s clocks v (K t (suc t)) t d n j w on stage here.holds.1 in (
            rows.sent s clocks air v t at d x n j w (fine t End d here) enters own ends on stage waiting,
            sends_in s clocks v (K t (suc t)) t d x n j w stage is here.holds.1
                (steps.sent d x n j w is.first here.holds.0 enters own ends on stage waiting is.now (first_there d n j w is)
                (first_known s clocks v (K t (suc t)) t d n j w here.holds.1 is)),
          ));
      late_sent = λ d x n j w here enters own ends on stage idle.
          absurd (true≢false (sym (waits t d x n j w here.holds.0 own on stage) ∙ idle));
      sent_elsewhere = λ d x here enters own ends none.
          (rows.sent_elsewhere s clocks air v t at d x (fine t End d here) enters own ends none, still _ t d here.holds.1);
      frame_alarm = λ d n here due on awaits.
          (rows.frame_alarm s clocks air v t at d n (fine t Alarms d here) due on awaits, ends_frame t d n on awaits here.holds.1);
      opening = λ d n j here due on stage. (
        rows.opening s clocks air v t at d n j (fine t Alarms d here) due on stage,
        begins s clocks v (K t (suc t)) t d n j on stage (steps.begun d n j here.holds.0 due on stage) here.holds.1,
      );
      closing = λ d n j w here due on stage.
          (let is = open_first s clocks v (K t (suc t)) t d n j w on stage here.holds.1 in (
            rows.closing s clocks air v t at d n j w (fine t Alarms d here) due on stage,
            closes_in s clocks v (K t (suc t)) t d n j w stage is here.holds.1
                (steps.closed d n j w is.first here.holds.0 due on stage is.now (first_known s clocks v (K t (suc t)) t d n j w here.holds.1 is)),
          ));
      alarm_elsewhere = λ d n here due on stage.
          (rows.alarm_elsewhere s clocks air v t at d n (fine t Alarms d here) due on stage, still _ t d here.holds.1);
      beginning = λ d o l here enters order due radio none.
          (rows.beginning s clocks air v t at d o l (fine t Start d here) enters order due radio none, still _ t d here.holds.1);
      missed_start = λ d o here enters order due cannot.
          (rows.missed_start s clocks air v t at d o (fine t Start d here) enters order due cannot, still _ t d here.holds.1);
      onwards = λ phase d here enters known.
          (rows.onwards s clocks air v t at phase d (fine t phase d here) enters known, goes_on t at steps before phase d here enters);
      passing = λ d here is. (
        rows.passing s clocks air v t at d (fine t Over d here) is,
        record {
          each = λ x there. steps.passed x (here.holds.1.each x there);
          past = λ x there. closed_still t x x.closed (here.holds.1.past x there);
          apart = here.holds.1.apart;
          stand = here.holds.1.stand;
          delivered = here.holds.1.delivered;
        },
      );
    }

    -- one tick
    one_tick : AllRows → (t : ℕ) (at : AtTick s clocks air v t) → KeepsWindows s clocks air v K t → HasWindows s v (K t t) t (device_in s clocks air v t)
        → ((phase : Phase) → P t phase (device_at s v (clocks v) (heard_by air v) t phase)) × P (suc t) Lines (device_in s clocks air v (suc t))
    one_tick rows t at steps have =
        let in_run = at.in_run in
        holds_in_tick P s v (clocks v) (heard_by air v) t at.run.driven.sound (at.run.driven.drift v at.known) in_run (keeps t at rows steps have)
        (fine_before t (omega (arith, in_run)) at.run at.known at.before, have)

    module _ (rows : AllRows) (run : IsObedientRun s clocks air) (known : knows s.nodes v ≡ true) where
      pub at_tick : (t : ℕ) → t < run_end s → AtTick s clocks air v t
      at_tick t in_run = record { run = run; known = known; in_run = in_run; before = rows_suffice rows s clocks air run t (omega (arith, in_run)) }

      -- from a tick on
      pub windows_since : (first : ℕ) → ((t : ℕ) → first ≤ t → AtTick s clocks air v t → KeepsWindows s clocks air v K t)
          → HasWindows s v (K first first) first (device_in s clocks air v first)
          → (t : ℕ) → first ≤ t → t ≤ run_end s → HasWindows s v (K t t) t (device_in s clocks air v t)
      windows_since first steps have zero from within = subst (λ (u : ℕ). HasWindows s v (K u u) u (device_in s clocks air v u)) (omega (arith, from)) have
      windows_since first steps have (suc t) from within = elim (cases_lt t first) [
        | inl before ↦ subst (λ (u : ℕ). HasWindows s v (K u u) u (device_in s clocks air v u)) (omega (arith, from, before)) have
        | inr past ↦ (
            let in_run : t < run_end s = omega (arith, within) in
            let at = at_tick t in_run in
            (one_tick rows t at (steps t past at) (windows_since first steps have t past (omega (arith, in_run)))).1.1
            )
      ]

      module _ (steps : (t : ℕ) → AtTick s clocks air v t → KeepsWindows s clocks air v K t) where
        -- before each tick
        pub windows_before : (t : ℕ) → t ≤ run_end s → HasWindows s v (K t t) t (device_in s clocks air v t)
        unfolding before_tick
        windows_before zero within = record {
          each = λ x there. absurd (not_in_none x there);
          past = λ x there. absurd (not_in_none x there);
          apart = tt;
          stand = λ x there. absurd (not_in_none x there);
          delivered = refl;
        }
        windows_before (suc t) within =
            let in_run : t < run_end s = omega (arith, within) in
            let at = at_tick t in_run in
            (one_tick rows t at (steps t at) (windows_before t (omega (arith, in_run)))).1.1

        -- and in each phase of it
        pub windows_in_phase : (t : ℕ) → t < run_end s → (phase : Phase) → IsFine s clocks air v t phase (device_at s v (clocks v) (heard_by air v) t phase)
            × HasWindows s v (K t (taken_in t phase)) t (device_at s v (clocks v) (heard_by air v) t phase)
        windows_in_phase t in_run phase = let at = at_tick t in_run in (one_tick rows t at (steps t at) (windows_before t (omega (arith, in_run)))).0 phase

        -- what is left of a tick
        pub windows_behind : (t : ℕ) → t < run_end s → IsFine s clocks air v t Over (device_in s clocks air v (suc t))
            × HasWindows s v (K t (suc t)) t (device_in s clocks air v (suc t))
        unfolding before_tick
        windows_behind t in_run = windows_in_phase t in_run Over
