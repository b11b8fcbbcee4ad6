-- The windows of a round follow one another throughout a run.
use Rattle.std.proofs.Common.{◌≡◌, ℕ, zero, suc, ◌+◌, ◌<◌, ◌≤◌, inl, inr, List, ◌∷◌, Bool, true, false, nat_lt, if◌then◌else◌, Some, None, refl, sym, ◌∙◌, ap}
use Rattle.std.proofs.Common.{subst, arith, true≢false, lt-ltb}
use Rattle.lwb_base.specs.Messages.{Schedule}
use Rattle.lwb_base.specs.declared.event.Event.TheVariants.{Boot, Alarm, Heard, Sent}
use Rattle.glossy_relay.specs.Relaying.{after_sent}
use Rattle.bus_rules.specs.Tuning.{rank_of}
use Rattle.bus_rules.specs.Cores.{Core, Setup, frame_ended}
use Rattle.bus_rules.specs.States.{core_after_act}
use Rattle.node_core.specs.declared.stage.Stage.{Stage}
use Rattle.node_core.specs.declared.stage.Stage.TheVariants.{Scanning, AwaitFrame, AwaitSlot, InWindow}
use Rattle.node_core.specs.Windows.{Window}
use Rattle.node_core.specs.Nodes.{Node, rebooted, stopped_frame}
use Rattle.node_core.specs.Rows.{accepted_in, boots, frame_alarms, window_opens, window_closes, window_hears, joins, sends, hearing}
use Rattle.scenario_text.specs.ScenarioParts.{ScenarioParts}
use Rattle.scenario_text.specs.FloodParts.{knows}
use Rattle.scenario_text.specs.declared.script.ScriptLine.{ScriptLine}
use Rattle.air_log.specs.declared.entry.Entry.{Entry}
use Rattle.air_log.specs.WindowLogs.{WindowLog, Closing}
use Rattle.air_log.specs.Devices.{Device, Power, PowerOff, PowerOn}
use Rattle.air_log.specs.ScriptedDevices.{device_after_on, with_new_core}
use Rattle.air_log.specs.Lawful.{heard_by}
use Rattle.scenario_text.specs.Setups.{setup_of}
use Rattle.air_log.specs.Trails.{run_end, before_tick}
use Rattle.lwb_base.proofs.Elements.{not_in_none, contains_head, contains_tail}
use Rattle.law_trails.specs.Phases.{Phase, Lines, Hearings, End, Alarms, Start, Over, IsNextLineOf}
use Rattle.law_trails.specs.Walks.{Now, Keeps, AwaitsFrame, device_after_row}
use Rattle.law_trails.specs.TrailLinks.{device_in}
use Rattle.law_trails.proofs.RowsOfDevices.{row_obeyed}
use Rattle.law_trails.proofs.WalkOfRun.{holds_in_tick}
use Rattle.law_safety.specs.SetAlarms.{rank_at}
use Rattle.law_safety.specs.NodesInOrder.{IsOn, InOpenWindow, WindowAt}
use Rattle.law_safety.specs.Invariant.{IsObedientRun}
use Rattle.law_safety.specs.Rows.{IsFine, AtTick, AllRows}
use Rattle.law_safety.proofs.FrameStarts.{line_starts, rests_at_start}
use Rattle.law_windows.specs.OpenWindows.{IsOpenFirst}
use Rattle.law_windows.specs.WindowChains.{IsNextWindow, IsBetween, AwaitsAt, AwaitsBy, IsBetweenWindows, AreChained}
use Rattle.law_windows.specs.WindowSteps.{HasWindows, begun_log, joined_log, log_after_closing}
use Rattle.law_windows.proofs.AcceptedRanks.{closed_rank, accepted_rank}
use Rattle.law_windows.proofs.ChainedWindows.{IsFree, resting_free, awaiting_free, free_awaits, frame_free, followed_on, followed_off, chained_still}
use Rattle.law_windows.proofs.ChainedWindows.{chained_more}
use Rattle.law_windows.proofs.ChainedWindows.{next_kept, chained_on}
use Rattle.law_windows.proofs.OpenedByRows.{IsOfRows, Rows, rows_steps}
use Rattle.law_windows.proofs.PlacesWithout.{awaiting, after_frame, unchanged}
use Rattle.law_windows.proofs.RowsOfWindows.{open_first, begun_after, joined_after, gone_on_after, closed_after}
use Rattle.law_windows.proofs.WindowWalk.{P, keeps, on_in, fine_before, waits, windows_before, at_tick}

module _ (s : ScenarioParts) (clocks : ℕ → ℕ → ℕ) (air : List Entry) (v : ℕ) where
  abbrev S : Setup
  S = setup_of s v

  abbrev Chained : Device → Type 0
  Chained d = AreChained d.made.windows d.power

  abbrev All : ℕ → Phase → Device → Type 0
  All t phase d = P s clocks air v (Rows s clocks v) t phase d × Chained d

  base : (t : ℕ) (phase : Phase) (d : Device) → Now All s t phase d → Now (P s clocks air v (Rows s clocks v)) s t phase d
  base t phase d now = record { in_run = now.in_run; known = now.known; holds = now.holds.0 }

  moved_on : (logs : List WindowLog) (p : Power) (e : Device) → e.made.windows ≡ logs → e.power ≡ p → AreChained logs p → Chained e
  moved_on logs p e same_logs same_p has = subst (λ (ls : List WindowLog). AreChained ls e.power) (sym same_logs) (subst (AreChained logs) (sym same_p) has)

  -- a node that is given something rests
  rests : (t : ℕ) → AtTick s clocks air v t → (d : Device) (l : ScriptLine) (n : Node) → Now All s t Lines d
      → IsNextLineOf s v (clocks v) (heard_by air v) t l d → d.power ≡ PowerOn n → IsFree n.stage
  rests t at d l n here next on =
      resting_free n.stage (rests_at_start s clocks v t n (line_starts s at.run.driven.sound t l next.now)
      (on_in s clocks air v t Lines d n here.holds.0.0 on).frame)

  told : (t : ℕ) → AtTick s clocks air v t → (d : Device) (l : ScriptLine) (n : Node) (core : Core) → Now All s t Lines d
      → IsNextLineOf s v (clocks v) (heard_by air v) t l d → d.power ≡ PowerOn n
      → Chained (with_new_core d n core)
  told t at d l n core here next on =
      let free = rests t at d l n here next on in
      chained_still d.made.windows d.power (PowerOn (record n { core = core })) here.holds.1 (followed_on d.made.windows d.power n here.holds.1 on free)
      (free_awaits d.made.windows (record n { core = core }) n.stage free)

  comes_on : (t count : ℕ) (d : Device) → d.power ≡ PowerOff count → Chained d → Chained (device_after_on (clocks v) (setup_of s v) t count d)
  comes_on t count d off has =
      let n = rebooted (count + 1) in
      let r = boots S n (clocks v t) in
      let is = row_obeyed (clocks v) S t Boot None (record d { power = PowerOn n }) n r in
      moved_on d.made.windows (PowerOn r.node) (device_after_on (clocks v) S t count d) is.windows is.power
      (chained_still d.made.windows d.power (PowerOn r.node) has (followed_off d.made.windows d.power count has off) tt)

  ends_frame : (t : ℕ) (d : Device) (n : Node) → d.power ≡ PowerOn n → AwaitsFrame n.stage → Chained d
      → Chained (device_after_row (clocks v) (setup_of s v) t Alarm None (record d { alarm = None }) n (frame_alarms (setup_of s v) n))
  ends_frame t d n on awaits has =
      let r = frame_alarms S n in
      let is = row_obeyed (clocks v) S t Alarm None (record d { alarm = None }) n r in
      let core = frame_ended S n.frame n.core in
      moved_on d.made.windows (PowerOn r.node) (device_after_row (clocks v) S t Alarm None (record d { alarm = None }) n r)
      (is.windows ∙ unchanged t Alarm None n r.node n.stage r.node.stage d.made.windows (awaiting n.stage awaits)
      (after_frame core.tune (stopped_frame (n.frame + 1)))) is.power
      (chained_still d.made.windows d.power (PowerOn r.node) has (followed_on d.made.windows d.power n has on (awaiting_free n.stage awaits))
      (free_awaits d.made.windows r.node r.node.stage (frame_free core.tune (stopped_frame (n.frame + 1)))))

  joins_so : (t : ℕ) (d : Device) (p : List ℕ) (n : Node) (y : Schedule) → d.power ≡ PowerOn n → n.stage ≡ Scanning → Chained d
      → Chained (device_after_row (clocks v) (setup_of s v) t (Heard p) None d n (joins (setup_of s v) n (clocks v t) p y))
  joins_so t d p n y on stage has =
      let r = joins S n (clocks v t) p y in
      let is = row_obeyed (clocks v) S t (Heard p) None d n r in
      let x = joined_log S t (clocks v t) n p y in
      moved_on (x ∷ d.made.windows) (PowerOn r.node) (device_after_row (clocks v) S t (Heard p) None d n r)
      (is.windows ∙ joined_after S (clocks v t) t n p y d.made.windows stage) is.power
      (chained_more d.made.windows x d.power (PowerOn r.node) has refl (λ alarm. absurd (true≢false (sym alarm)))
      (next_kept d.made.windows x (followed_on d.made.windows d.power n has on (subst IsFree (sym stage) tt))) tt)

  opens_so : (t : ℕ) (d : Device) (n : Node) (j : ℕ) → d.power ≡ PowerOn n → n.stage ≡ AwaitSlot j → Chained d
      → Chained (device_after_row (clocks v) (setup_of s v) t Alarm None (record d { alarm = None }) n (window_opens (setup_of s v) n j))
  opens_so t d n j on stage has =
      let logs = d.made.windows in
      let r = window_opens S n j in
      let is = row_obeyed (clocks v) S t Alarm None (record d { alarm = None }) n r in
      let x = begun_log S t n j in
      moved_on (x ∷ logs) (PowerOn r.node) (device_after_row (clocks v) S t Alarm None (record d { alarm = None }) n r)
      (is.windows ∙ begun_after S (clocks v t) t n j logs stage) is.power
      (chained_more logs x d.power (PowerOn r.node) has refl
      (λ alarm. elim (subst (AwaitsAt logs n) stage (subst (AwaitsBy logs) on has.awaits)) [
        | inl first ↦ inl first
        | inr after ↦ inr (record {
          last = after.last;
          there = contains_tail x logs after.last after.there;
          closing = after.closing;
          closed = after.closed;
          follows = follows t n j after.last after.closing stage after.between;
        })
      ])
      (λ u c there closed more. elim (has.ahead u c there closed more) [
        | inl next ↦ record { next = next.next; there = contains_tail x logs next.next next.there; follows = next.follows }
        | inr waits ↦ (
            let other : d.power ≡ PowerOn waits.node = waits.on in
            let same : waits.node ≡ n = of_power waits.node n (sym other ∙ on) in
            record { next = x; there = contains_head x logs; follows = follows t n j u c stage (subst (IsBetween u c) same waits.between) }
            )
      ]) tt)
    where
      of_power : (n m : Node) → PowerOn n ≡ PowerOn m → n ≡ m
      of_power n m is = cc

      slot_is : (j k : ℕ) → AwaitSlot j ≡ AwaitSlot k → j ≡ k
      slot_is j k is = cc

      follows : (t : ℕ) (n : Node) (j : ℕ) (u : WindowLog) (c : Closing) → n.stage ≡ AwaitSlot j → IsBetween u c n
          → IsNextWindow u c (begun_log (setup_of s v) t n j)
      follows t n j u c stage between = record {
        by_alarm = refl;
        node = sym between.node;
        frame = between.frame;
        rank = between.rank;
        slot = slot_is j (suc u.slot) (sym stage ∙ between.awaits);
      }

  -- what goes on in the open window
  on_so : (t : ℕ) (d e : Device) (n m : Node) (j : ℕ) (w u : Window) (is : IsOpenFirst d.made.windows n j w) (happenings : _) → d.power ≡ PowerOn n
      → n.stage ≡ InWindow j w
      → e.made.windows ≡ record (is.first) { happenings = happenings; last = u } ∷ is.earlier → e.power ≡ PowerOn m → m.stage ≡ InWindow j u
      → Chained d → Chained e
  on_so t d e n m j w u is happenings on stage logs power later has =
      let x = is.first in
      let before : AreChained (x ∷ is.earlier) d.power = subst (λ (l : List WindowLog). AreChained l d.power) is.is has in
      moved_on (record x { happenings = happenings; last = u } ∷ is.earlier) (PowerOn m) e logs power
      (chained_on x is.earlier happenings u x.closed d.power (PowerOn m) before is.now.open_
      (followed_on (x ∷ is.earlier) d.power n before on (subst IsFree (sym stage) tt))
      (λ c closed more. absurd (none_closed c (sym is.now.open_ ∙ closed)))
      (free_awaits (record x { happenings = happenings; last = u } ∷ is.earlier) m m.stage (subst IsFree (sym later) tt)))
    where
      none_closed : (c : Closing) → None ≡ Some c → ⊥
      none_closed c is = cc

  closes_so : (t : ℕ) → AtTick s clocks air v t → (d : Device) (n : Node) (j : ℕ) (w : Window) → IsFine s clocks air v t Alarms d → d.power ≡ PowerOn n
      → n.stage ≡ InWindow j w
      → (is : IsOpenFirst d.made.windows n j w) → Chained d
      → Chained (device_after_row (clocks v) (setup_of s v) t Alarm None (record d { alarm = None }) n (window_closes (setup_of s v) n j w))
  closes_so t at d n j w fine on stage is has =
      let x = is.first in
      let r = window_closes S n j w in
      let c : Closing = record { tick = t; after = r.node } in
      let y = log_after_closing S t n j w x in
      let row = row_obeyed (clocks v) S t Alarm None (record d { alarm = None }) n r in
      let node : IsOn s clocks air v t (suc t) d n = on_in s clocks air v t Alarms d n fine on in
      let window : InOpenWindow s clocks air v (suc t) n d j w = subst (λ (st : Stage). WindowAt s clocks air v (suc t) n d st) stage node.window in
      let rank : rank_at r.node ≡ rank_at n = closed_rank S n.frame w.part w.flood.initiated n.core (accepted_in w)
      (accepted_rank s clocks air v t at n j w window.accepted) in
      let between : nat_lt j w.last ≡ true → IsBetween y c r.node = λ more. record {
        node = refl;
        awaits = ap (λ (b : Bool). if b then AwaitSlot (j + 1) else AwaitFrame) more ∙ ap AwaitSlot (let slot = is.now.slot in omega (arith, slot));
        frame = sym is.now.frame;
        rank = rank ∙ sym is.now.rank;
      } in
      let before : AreChained (x ∷ is.earlier) d.power = subst (λ (l : List WindowLog). AreChained l d.power) is.is has in
      moved_on (y ∷ is.earlier) (PowerOn r.node) (device_after_row (clocks v) S t Alarm None (record d { alarm = None }) n r)
      (row.windows ∙ closed_after S (clocks v t) t n j w d.made.windows x is.earlier stage is.is) row.power
      (chained_on x is.earlier x.happenings x.last (Some c) d.power (PowerOn r.node) before is.now.open_
      (followed_on (x ∷ is.earlier) d.power n before on (subst IsFree (sym stage) tt))
      (λ b closed more. subst (λ (k : Closing). IsBetweenWindows y k (PowerOn r.node)) (same_closing c b closed)
      (record {
        node = r.node;
        on = refl;
        between = between (lt-ltb j w.last (let slot = is.now.slot in let last = ap (λ (u : Window). u.last) is.now.last in omega (arith, slot, last, more)));
      }))
      (awaits_by (nat_lt j w.last) refl y c is.earlier r.node refl between))
    where
      same_closing : (c b : Closing) → Some c ≡ Some b → c ≡ b
      same_closing c b is = cc

      awaits_by : (b : Bool) → nat_lt j w.last ≡ b → (y : WindowLog) (c : Closing) (earlier : List WindowLog) (m : Node) → y.closed ≡ Some c
          → (nat_lt j w.last ≡ true → IsBetween y c m)
          → AwaitsAt (y ∷ earlier) m (if nat_lt j w.last then AwaitSlot (j + 1) else AwaitFrame)
      awaits_by b is y c earlier m closed between = subst (λ (q : Bool). AwaitsAt (y ∷ earlier) m (if q then AwaitSlot (j + 1) else AwaitFrame))
          (sym is) (by_more b is)
        where
          by_more : (b : Bool) → nat_lt j w.last ≡ b → AwaitsAt (y ∷ earlier) m (if b then AwaitSlot (j + 1) else AwaitFrame)
          by_more true is = inr (record { last = y; there = contains_head y earlier; closing = c; closed = closed; between = between is })
          by_more false is = tt

  keeps_all : (t : ℕ) → AtTick s clocks air v t → AllRows → HasWindows s v (IsOfRows s clocks v) t (device_in s clocks air v t)
      → Keeps All s v (clocks v) (heard_by air v) t
  keeps_all t at rows before =
      let c = clocks v in
      let k = keeps s clocks air v (Rows s clocks v) t at rows (rows_steps s clocks v air t) before in
      record {
        boot = λ d l count here next act off. (k.boot d l count (base t Lines d here) next act off, comes_on t count d off here.holds.1);
        off = λ d l n here next act on. (
          k.off d l n (base t Lines d here) next act on,
          chained_still d.made.windows d.power (PowerOff n.core.boot) here.holds.1
              (followed_on d.made.windows d.power n here.holds.1 on (rests t at d l n here next on)) tt,
        );
        streaming = λ d l n here next act on.
            (k.streaming d l n (base t Lines d here) next act on, told t at d l n (core_after_act l.act n.core) here next on);
        joining = λ d h n y here next on stage says rank.
            (k.joining d h n y (base t Hearings d here) next on stage says rank, joins_so t d h.packet n y on stage here.holds.1);
        hearing = λ d h n j w here next on stage. (
          k.hearing d h n j w (base t Hearings d here) next on stage,
          (let is = open_first s clocks v (IsOfRows s clocks v) t d n j w on stage here.holds.0.1 in
              let r = window_hears S n (c t) j w h.packet in
              let u = hearing s.profile (rank_of n.core.tune) (c t) w h.packet in
              let row = row_obeyed c S t (Heard h.packet) None d n r in
              on_so t d (device_after_row c S t (Heard h.packet) None d n r) n r.node j w u is _ on stage
              (row.windows ∙ gone_on_after S (c t) t
              (Heard h.packet) None n j w u r.node d.made.windows is.first is.earlier stage refl is.is) row.power refl here.holds.1),
        );
        sent = λ d x n j w here enters own ends on stage waiting. (
          k.sent d x n j w (base t End d here) enters own ends on stage waiting,
          (let is = open_first s clocks v (IsOfRows s clocks v) t d n j w on stage here.holds.0.1 in
              let dd : Device = record d { sending = None } in
              let r = sends n j w in
              let u : Window = record w { flood = after_sent w.flood } in
              let row = row_obeyed c S t Sent (Some x) dd n r in
              on_so t d (device_after_row c S t Sent (Some x) dd n r) n r.node j w u is _ on stage
              (row.windows ∙ gone_on_after S (c t) t Sent
              (Some x) n j w u r.node d.made.windows is.first is.earlier stage refl is.is) row.power refl here.holds.1),
        );
        late_sent = λ d x n j w here enters own ends on stage idle. (
          k.late_sent d x n j w (base t End d here) enters own ends on stage idle,
          absurd (true≢false (sym (waits s clocks air v t d x n j w here.holds.0.0 own on stage) ∙ idle)),
        );
        sent_elsewhere = λ d x here enters own ends none. (k.sent_elsewhere d x (base t End d here) enters own ends none, here.holds.1);
        frame_alarm = λ d n here due on awaits. (k.frame_alarm d n (base t Alarms d here) due on awaits, ends_frame t d n on awaits here.holds.1);
        opening = λ d n j here due on stage. (k.opening d n j (base t Alarms d here) due on stage, opens_so t d n j on stage here.holds.1);
        closing = λ d n j w here due on stage. (
          k.closing d n j w (base t Alarms d here) due on stage,
          closes_so t at d n j w here.holds.0.0 on stage (open_first s clocks v (IsOfRows s clocks v) t d n j w on stage here.holds.0.1) here.holds.1,
        );
        alarm_elsewhere = λ d n here due on stage. (k.alarm_elsewhere d n (base t Alarms d here) due on stage, here.holds.1);
        beginning = λ d o l here enters order due radio none. (k.beginning d o l (base t Start d here) enters order due radio none, here.holds.1);
        missed_start = λ d o here enters order due cannot. (k.missed_start d o (base t Start d here) enters order due cannot, here.holds.1);
        onwards = λ phase d here enters known. (k.onwards phase d (base t phase d here) enters known, here.holds.1);
        passing = λ d here is. (k.passing d (base t Over d here) is, here.holds.1);
      }

  module _ (rows : AllRows) (run : IsObedientRun s clocks air) (known : knows s.nodes v ≡ true) where
    -- before each tick
    pub chained_before : (t : ℕ) → t ≤ run_end s → Chained (device_in s clocks air v t)
    unfolding before_tick
    chained_before zero within = record {
      behind = λ w there alarm. absurd (not_in_none w there);
      ahead = λ u c there closed more. absurd (not_in_none u there);
      awaits = tt;
    }
    chained_before (suc t) within =
        let in_run : t < run_end s = omega (arith, within) in
        let at = at_tick s clocks air v (Rows s clocks v) rows run known t in_run in
        let have = windows_before s clocks air v (Rows s clocks v) rows run known (λ u now. rows_steps s clocks v air u) t (omega (arith, in_run)) in
        (holds_in_tick All s v (clocks v) (heard_by air v) t run.driven.sound (run.driven.drift v known) in_run
        (keeps_all t at rows have)
        ((fine_before s clocks air v t (omega (arith, in_run)) run known at.before, have), chained_before t (omega (arith, in_run)))).1.1
