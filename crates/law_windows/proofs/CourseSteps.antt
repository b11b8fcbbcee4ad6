-- What each step of a tick makes of a node on its way through its frame.
use Rattle.std.proofs.Common.{◌≡◌, ℕ, suc, ◌+◌, ◌/◌, ◌<◌, ◌⊎◌, inl, inr, List, ◌∷◌, Bool, true, false, if◌then◌else◌, nat_lt, Some, None, Option, Contains}
use Rattle.std.proofs.Common.{refl, sym, ◌∙◌, ap, subst, arith}
use Rattle.lwb_base.specs.Messages.{Schedule}
use Rattle.lwb_base.specs.declared.event.Event.{Event}
use Rattle.lwb_base.specs.declared.event.Event.TheVariants.{Boot, Alarm, Heard, Sent}
use Rattle.glossy_relay.specs.Relaying.{after_sent}
use Rattle.radio_model.specs.declared.sending.Sending.{Sending}
use Rattle.lwb_base.specs.Profile.{Numbers}
use Rattle.bus_rules.specs.Tuning.{next_tune}
use Rattle.bus_rules.specs.Cores.{Core, Setup, as_host, begins_host, frame_ended, is_fresh}
use Rattle.node_core.specs.declared.stage.Stage.{Stage}
use Rattle.node_core.specs.declared.stage.Stage.TheVariants.{Scanning, AwaitFrame, AwaitSlot, InWindow}
use Rattle.node_core.specs.Windows.{Window}
use Rattle.node_core.specs.Nodes.{Node, rebooted, stopped_frame}
use Rattle.node_core.specs.Rows.{Stepped, boots, frame_alarms, window_opens, window_closes, window_hears, joins, sends, hearing}
use Rattle.scenario_text.specs.ScenarioParts.{ScenarioParts}
use Rattle.scenario_text.specs.declared.script.ScriptLine.{ScriptLine}
use Rattle.air_log.specs.declared.entry.Entry.{Entry}
use Rattle.air_log.specs.Lawful.{heard_by}
use Rattle.air_log.specs.WindowLogs.{WindowLog}
use Rattle.air_log.specs.Devices.{Device, Power, PowerOn}
use Rattle.air_log.specs.ScriptedDevices.{device_after_on}
use Rattle.scenario_text.specs.Setups.{setup_of}
use Rattle.air_log.specs.Trails.{Reception}
use Rattle.law_trails.specs.Phases.{Phase, Lines, Hearings, End, Alarms, IsNextLineOf}
use Rattle.law_trails.specs.Walks.{AwaitsFrame, NoWindow, device_after_row}
use Rattle.law_trails.proofs.RowsOfDevices.{row_obeyed, row_power}
use Rattle.law_safety.specs.CountedFrames.{IsResting}
use Rattle.law_safety.specs.SetAlarms.{rank_at}
use Rattle.law_safety.specs.KnownInRows.{IsHeardNow}
use Rattle.law_safety.specs.Rows.{IsFine, AtTick}
use Rattle.law_safety.proofs.AwaitedSlots.{awaits, has_begun, frame_now as opens_in_frame}
use Rattle.law_safety.proofs.FrameStarts.{line_starts}
use Rattle.law_safety.proofs.HeardPlaces.{frame_now, began_now}
use Rattle.law_safety.proofs.NextFrames.{frame_true, next as next_frame}
use Rattle.law_windows.specs.OpenWindows.{IsOpenFirst}
use Rattle.law_windows.specs.WindowSteps.{begun_log, joined_log, heard_log, sent_log, log_after_closing}
use Rattle.law_windows.proofs.PlacesWithout.{awaiting, after_frame, unchanged}
use Rattle.law_windows.proofs.RowsOfWindows.{begun_after, joined_after, gone_on_after, closed_after}
use Rattle.law_windows.proofs.WindowWalk.{on_in}
use Rattle.law_terms.specs.FrameCourses.{power_at}
use Rattle.law_terms.proofs.AlignedSlots.{frame_core}
use Rattle.law_windows.proofs.OwnRanks.{HasOwnFlood, closing_rank}
use Rattle.law_windows.proofs.LinkedWindows.{AreEarlier, AreTold, GoOn, IsLeft, IsUnderWay, IsUntouched, LinksTo, Stands, StandsIn, one_changed, one_more}

-- a place after a window
not_scanning : (st : Stage) (j : ℕ) → st ≡ Scanning → (st ≡ AwaitSlot (suc j)) ⊎ (st ≡ AwaitFrame) → ⊥
not_scanning st j is (inl awaits) = cc
not_scanning st j is (inr rests) = cc

awaited_slot : (st : Stage) (i j : ℕ) → st ≡ AwaitSlot i → (st ≡ AwaitSlot (suc j)) ⊎ (st ≡ AwaitFrame) → i ≡ suc j
awaited_slot st i j is (inl awaits) = cc
awaited_slot st i j is (inr rests) = absurd cc

next_place : (j : ℕ) (b : Bool)
    → ((if b then AwaitSlot (j + 1) else AwaitFrame) ≡ AwaitSlot (suc j)) ⊎ ((if b then AwaitSlot (j + 1) else AwaitFrame) ≡ AwaitFrame)
next_place j true = inl (ap (λ (i : ℕ). AwaitSlot i) (omega arith))
next_place j false = inr refl

-- at the end of a frame nobody is fresh
host_fresh : (p : Numbers) (o : Option ℕ) (c : Core) → (as_host p o c).own_slot ≡ c.own_slot
host_fresh p None c = refl
host_fresh p (Some rank) c = refl

ended_fresh : (s : Setup) (f : ℕ) (c : Core) → (frame_ended s f c).own_slot ≡ None
ended_fresh s f c =
    let tune = next_tune c.tune f (is_fresh c) s.own s.ranks in
    host_fresh s.profile (begins_host c.tune tune) (record c { tune = tune; own_slot = None })

module _ (s : ScenarioParts) (clocks : ℕ → ℕ → ℕ) (air : List Entry) (v t : ℕ) (at : AtTick s clocks air v t) where
  abbrev pub F : ℕ
  F = t / s.profile.frame

  abbrev pub S : Setup
  S = setup_of s v

  abbrev Standing : List WindowLog → Power → Type 0
  Standing logs p = StandsIn s clocks air v F logs p

  -- a device, by its windows and its node
  pub under_way : (phase : Phase) (logs : List WindowLog) (p : Power) (e : Device) → e.made.windows ≡ logs → e.power ≡ p
      → GoOn s clocks air v t logs → (AreTold s clocks air v t phase → Standing logs p) → IsUnderWay s clocks air v t phase e
  under_way phase logs p e same_logs same_power on stands = record {
    windows = subst (GoOn s clocks air v t) (sym same_logs) on;
    stands = λ told. subst (λ (l : List WindowLog). Standing l e.power) (sym same_logs) (subst (Standing logs) (sym same_power) (stands told));
  }

  -- at the first tick of a frame, the script lines are not yet given
  pub at_line : (l : ScriptLine) (d e : Device) → IsNextLineOf s v (clocks v) (heard_by air v) t l d → e.made.windows ≡ d.made.windows
      → IsUnderWay s clocks air v t Lines d → IsUnderWay s clocks air v t Lines e
  at_line l d e next same is =
      let start = line_starts s at.run.driven.sound t l next.now in
      under_way Lines d.made.windows e.power e same refl is.windows (λ told. absurd (omega (arith, start, told)))

  pub comes_on : (count : ℕ) (d : Device) → (device_after_on (clocks v) S t count d).made.windows ≡ d.made.windows
  comes_on count d =
      let n = rebooted (count + 1) in
      (row_obeyed (clocks v) S t Boot None (record d { power = PowerOn n }) n (boots S n (clocks v t))).windows

  -- a node in a window is by that
  in_window : (logs : List WindowLog) (n : Node) (j : ℕ) (w : Window) → n.stage ≡ InWindow j w → Standing logs (PowerOn n)
  in_window logs n j w stage = λ none. absurd (subst NoWindow stage none)

  -- a node of the true frame is in it
  stands_now : (logs : List WindowLog) (n : Node) → NoWindow n.stage → n.frame ≡ F → Standing logs (PowerOn n) → Stands s clocks air v F logs n
  stands_now logs n none now stands =
      elim (stands none) [
        | inl here ↦ here.1
        | inr over ↦ (let ahead = over.0 in absurd (omega (arith, ahead, now)))
      ]

  -- the first window of its frame
  module _ (n : Node) (logs : List WindowLog) (now : n.frame ≡ F) (x : WindowLog)
      (of_frame : x.frame ≡ n.frame) (of_rank : x.rank ≡ rank_at n) (of_node : x.before ≡ n) where
    abbrev Opens : Node → Type 0
    Opens m = ((x.by_alarm ≡ false) × (m.stage ≡ Scanning)) ⊎ ((x.by_alarm ≡ true) × (x.slot ≡ 0) × (m.stage ≡ AwaitSlot 0))

    first_link : (is : IsUntouched s clocks air v F logs n) → Opens n → LinksTo s clocks air v x logs
    first_link is how =
        let frame : x.frame ≡ F = of_frame ∙ now in
        inl (record {
          node = ap (power_at s clocks air v) frame ∙ is.node ∙ ap (λ (m : Node). PowerOn m) (sym of_node);
          of_rank = ap rank_at of_node ∙ sym of_rank;
          how = subst Opens (sym of_node) how;
          first = subst (λ (f : ℕ). AreEarlier s clocks air v f logs) (sym frame) is.first;
        })

    next_link : (is : IsLeft s clocks air v F logs n) → x.by_alarm ≡ true → x.slot ≡ suc is.last.slot → n.stage ≡ AwaitSlot (suc is.last.slot)
        → LinksTo s clocks air v x logs
    next_link is alarm slot stage = inr (record {
      last = is.last;
      earlier = is.earlier;
      is = is.is;
      of_frame = is.frame ∙ sym (of_frame ∙ now);
      of_rank = is.rank ∙ sym of_rank;
      of_slot = slot;
      alarm = alarm;
      closing = is.closing;
      closed = is.closed;
      node = is.node ∙ sym of_node;
      awaited = subst (λ (m : Node). m.stage ≡ AwaitSlot (suc is.last.slot)) (sym of_node) stage;
    })

  -- a scanning node receives a schedule
  joined_link : (d : Device) (h : Reception) (n : Node) (y : Schedule) → n.frame ≡ F → n.stage ≡ Scanning
      → Stands s clocks air v F d.made.windows n → LinksTo s clocks air v (joined_log S t (clocks v t) n h.packet y) d.made.windows
  joined_link d h n y now stage (inl is) = first_link n d.made.windows now (joined_log S t (clocks v t) n h.packet y) refl refl refl is (inl (refl, stage))
  joined_link d h n y now stage (inr is) = absurd (not_scanning n.stage is.last.slot stage is.stage)

  pub joins_in : (d : Device) (h : Reception) (n : Node) (y : Schedule) → IsFine s clocks air v t Hearings d → IsHeardNow s clocks air v t h d
      → d.power ≡ PowerOn n → n.stage ≡ Scanning → IsUnderWay s clocks air v t Hearings d
      → IsUnderWay s clocks air v t Hearings (device_after_row (clocks v) S t (Heard h.packet) None d n (joins S n (clocks v t) h.packet y))
  joins_in d h n y fine heard on stage is =
      let known = on_in s clocks air v t Hearings d n fine on in
      let now : n.frame ≡ F = frame_now s clocks air v t h d heard n known in
      let logs = d.made.windows in
      let r = joins S n (clocks v t) h.packet y in
      let x = joined_log S t (clocks v t) n h.packet y in
      let stands = stands_now logs n (subst NoWindow (sym stage) tt) now (subst (Standing logs) on (is.stands tt)) in
      under_way Hearings (x ∷ logs) (PowerOn r.node) (device_after_row (clocks v) S t (Heard h.packet) None d n r)
      ((row_obeyed (clocks v) S t (Heard h.packet) None d n r).windows ∙ joined_after S (clocks v t) t n h.packet y logs stage)
      (row_power (clocks v) S t (Heard h.packet) None d n r)
      (one_more s clocks air v at.run.driven.sound t logs x is.windows (joined_link d h n y now stage stands) now
      (began_now s clocks air v t h d heard n known))
      (λ told none. absurd none)

  -- the alarm of a slot
  begun_link : (d : Device) (n : Node) (j : ℕ) → n.frame ≡ F → n.stage ≡ AwaitSlot j
      → Stands s clocks air v F d.made.windows n → LinksTo s clocks air v (begun_log S t n j) d.made.windows
  begun_link d n j now stage (inl is) =
      let first : j ≡ 0 = subst IsResting stage is.rests in
      first_link n d.made.windows now (begun_log S t n j) refl refl refl is (inr (refl, first, stage ∙ ap (λ (i : ℕ). AwaitSlot i) first))
  begun_link d n j now stage (inr is) =
      let slot : j ≡ suc is.last.slot = awaited_slot n.stage j is.last.slot stage is.stage in
      next_link n d.made.windows now (begun_log S t n j) refl refl refl is refl slot (stage ∙ ap (λ (i : ℕ). AwaitSlot i) slot)

  pub opens_in : (d : Device) (n : Node) (j : ℕ) → IsFine s clocks air v t Alarms d → d.alarm ≡ Some t
      → d.power ≡ PowerOn n → n.stage ≡ AwaitSlot j → IsUnderWay s clocks air v t Alarms d
      → IsUnderWay s clocks air v t Alarms (device_after_row (clocks v) S t Alarm None (record d { alarm = None }) n (window_opens S n j))
  opens_in d n j fine set on stage is =
      let known = awaits s clocks air v t d n j (on_in s clocks air v t Alarms d n fine on) stage set in
      let now : n.frame ≡ F = opens_in_frame s clocks air v t at d n j known in
      let logs = d.made.windows in
      let r = window_opens S n j in
      let x = begun_log S t n j in
      let dd : Device = record d { alarm = None } in
      let stands = stands_now logs n (subst NoWindow (sym stage) tt) now (subst (Standing logs) on (is.stands tt)) in
      under_way Alarms (x ∷ logs) (PowerOn r.node) (device_after_row (clocks v) S t Alarm None dd n r)
      ((row_obeyed (clocks v) S t Alarm None dd n r).windows ∙ begun_after S (clocks v t) t n j logs stage)
      (row_power (clocks v) S t Alarm None dd n r)
      (one_more s clocks air v at.run.driven.sound t logs x is.windows (begun_link d n j now stage stands) now (has_begun s clocks air v t at d n j known))
      (λ told none. absurd none)

  -- what happens in the open window
  goes_on : (phase : Phase) (e : Event) (y : Option Sending) (d dd : Device) (n : Node) (j : ℕ) (w u : Window) (r : Stepped) (x : WindowLog)
      → dd.made.windows ≡ d.made.windows → n.stage ≡ InWindow j w → r.node.stage ≡ InWindow j u → (open_ : IsOpenFirst d.made.windows n j w)
      → (device_after_row (clocks v) S t e y dd n r).made.windows ≡ x ∷ open_.earlier
      → x.frame ≡ open_.first.frame → (LinksTo s clocks air v open_.first open_.earlier → LinksTo s clocks air v x open_.earlier)
      → IsUnderWay s clocks air v t phase d → IsUnderWay s clocks air v t phase (device_after_row (clocks v) S t e y dd n r)
  goes_on phase e y d dd n j w u r x same stage later open_ windows frame links is =
      under_way phase (x ∷ open_.earlier) (PowerOn r.node) (device_after_row (clocks v) S t e y dd n r) windows
      (row_power (clocks v) S t e y dd n r)
      (one_changed s clocks air v t d.made.windows open_.first open_.earlier x open_.is open_.now.open_ frame links is.windows)
      (λ told. in_window (x ∷ open_.earlier) r.node j u later)

  pub hears_in : (d : Device) (h : Reception) (n : Node) (j : ℕ) (w : Window) → n.stage ≡ InWindow j w → IsOpenFirst d.made.windows n j w
      → IsUnderWay s clocks air v t Hearings d
      → IsUnderWay s clocks air v t Hearings (device_after_row (clocks v) S t (Heard h.packet) None d n (window_hears S n (clocks v t) j w h.packet))
  hears_in d h n j w stage open_ is =
      let u = hearing s.profile (rank_at n) (clocks v t) w h.packet in
      let r = window_hears S n (clocks v t) j w h.packet in
      goes_on Hearings (Heard h.packet) None d d n j w u r (heard_log S t (clocks v t) n w h.packet open_.first) refl stage refl open_
      ((row_obeyed (clocks v) S t (Heard h.packet) None d n r).windows
      ∙ gone_on_after S (clocks v t) t (Heard h.packet) None n j w u r.node d.made.windows open_.first open_.earlier stage refl open_.is)
      refl (λ links. links) is

  pub sends_in : (d : Device) (x : Sending) (n : Node) (j : ℕ) (w : Window) → n.stage ≡ InWindow j w → IsOpenFirst d.made.windows n j w
      → IsUnderWay s clocks air v t End d
      → IsUnderWay s clocks air v t Alarms (device_after_row (clocks v) S t Sent (Some x) (record d { sending = None }) n (sends n j w))
  sends_in d x n j w stage open_ is =
      let u : Window = record w { flood = after_sent w.flood } in
      let r = sends n j w in
      let dd : Device = record d { sending = None } in
      goes_on Alarms Sent (Some x) d dd n j w u r (sent_log t w x.packet open_.first) refl stage refl open_
      ((row_obeyed (clocks v) S t Sent (Some x) dd n r).windows
      ∙ gone_on_after S (clocks v t) t Sent (Some x) n j w u r.node d.made.windows open_.first open_.earlier stage refl open_.is)
      refl (λ links. links) (record { windows = is.windows; stands = λ told. is.stands tt })

  -- a window closes
  pub closes_in : (d : Device) (n : Node) (j : ℕ) (w : Window) → IsFine s clocks air v t Alarms d → d.power ≡ PowerOn n → n.stage ≡ InWindow j w
      → (open_ : IsOpenFirst d.made.windows n j w) → HasOwnFlood open_.first.rank open_.first.last.flood → IsUnderWay s clocks air v t Alarms d
      → IsUnderWay s clocks air v t Alarms (device_after_row (clocks v) S t Alarm None (record d { alarm = None }) n (window_closes S n j w))
  closes_in d n j w fine on stage open_ own is =
      let known = on_in s clocks air v t Alarms d n fine on in
      let now : n.frame ≡ F = elim known.frame.at [ inl same ↦ same | inr over ↦ absurd (subst IsResting stage over.rests) ] in
      let r = window_closes S n j w in
      let dd : Device = record d { alarm = None } in
      let x : WindowLog = log_after_closing S t n j w open_.first in
      let own_here : HasOwnFlood (rank_at n) w.flood =
      subst (λ (k : ℕ). HasOwnFlood k w.flood) open_.now.rank (subst (λ (u : Window). HasOwnFlood open_.first.rank u.flood) open_.now.last own) in
      let left : IsLeft s clocks air v F (x ∷ open_.earlier) r.node = record {
        last = x;
        earlier = open_.earlier;
        is = refl;
        frame = open_.now.frame ∙ now;
        rank = open_.now.rank ∙ sym (closing_rank S n j w own_here);
        closing = record { tick = t; after = r.node };
        closed = refl;
        node = refl;
        stage = subst (λ (i : ℕ). (r.node.stage ≡ AwaitSlot (suc i)) ⊎ (r.node.stage ≡ AwaitFrame)) (sym open_.now.slot) (next_place j (nat_lt j w.last));
      } in
      under_way Alarms (x ∷ open_.earlier) (PowerOn r.node) (device_after_row (clocks v) S t Alarm None dd n r)
      ((row_obeyed (clocks v) S t Alarm None dd n r).windows ∙ closed_after S (clocks v t) t n j w d.made.windows open_.first open_.earlier stage open_.is)
      (row_power (clocks v) S t Alarm None dd n r)
      (one_changed s clocks air v t d.made.windows open_.first open_.earlier x open_.is open_.now.open_ refl (λ links. links) is.windows)
      (λ told none. inl (now, inr left))

  -- the alarm of the frame
  pub ends_frame : (d : Device) (n : Node) → IsFine s clocks air v t Alarms d → d.alarm ≡ Some t → d.power ≡ PowerOn n → AwaitsFrame n.stage
      → IsUnderWay s clocks air v t Alarms d
      → IsUnderWay s clocks air v t Alarms (device_after_row (clocks v) S t Alarm None (record d { alarm = None }) n (frame_alarms S n))
  ends_frame d n fine set on awaited is =
      let known = on_in s clocks air v t Alarms d n fine on in
      let past : (x : Sending) → Contains d.made.sent x → x.start < t = fine.before in
      let now : n.frame ≡ F = frame_true s clocks air v t at d n known awaited set past in
      let ahead : stopped_frame (n.frame + 1) ≡ n.frame + 1 = next_frame s clocks air v t at d n known awaited set past in
      let logs = d.made.windows in
      let r = frame_alarms S n in
      let dd : Device = record d { alarm = None } in
      let stands = stands_now logs n (awaiting n.stage awaited) now (subst (Standing logs) on (is.stands tt)) in
      under_way Alarms logs (PowerOn r.node) (device_after_row (clocks v) S t Alarm None dd n r)
      ((row_obeyed (clocks v) S t Alarm None dd n r).windows
      ∙ unchanged t Alarm None n r.node n.stage r.node.stage logs (awaiting n.stage awaited) (after_frame r.node.core.tune (stopped_frame (n.frame + 1))))
      (row_power (clocks v) S t Alarm None dd n r) is.windows
      (λ told none. inr (
        omega (arith, ahead, now),
        record {
          before = n;
          stands = stands;
          awaited = awaited;
          core = frame_core S n ∙ ap (λ (f : ℕ). frame_ended S f n.core) now;
          place = refl;
          fresh = ended_fresh S n.frame n.core;
        },
      ))
