-- Who has begun a schedule's flood hosts as long as it does not go off, and who hosts sends on the channel of its own rank.
use Rattle.std.proofs.Common.{◌≡◌, ℕ, suc, ◌/◌, ◌<◌, ◌≤◌, inl, inr, List, [], ◌∷◌}
use Rattle.std.proofs.Common.{Bool, true, Some, None, Option, Contains, refl, sym, ◌∙◌, ap, subst, arith}
use Rattle.std.proofs.Common.{true≢false, eqb-true}
use Rattle.std.proofs.lemmas.List.Elements.{Contains-append_left, Contains-append_right, Contains-push_cases}
use Rattle.lwb_base.specs.Messages.{Schedule}
use Rattle.lwb_base.specs.declared.event.Event.{Event}
use Rattle.lwb_base.specs.declared.event.Event.TheVariants.{Alarm, Heard, Sent}
use Rattle.radio_model.specs.declared.sending.Sending.{Sending}
use Rattle.radio_model.specs.Hearing.{frame_of_sending, counter_of_sending, slot_of_sending}
use Rattle.bus_rules.specs.declared.tune.Tune.{Tune}
use Rattle.bus_rules.specs.declared.tune.Tune.TheVariants.{Scan, Hold, Host}
use Rattle.bus_rules.specs.Tuning.{hosts, rank_of}
use Rattle.bus_rules.specs.Cores.{Setup}
use Rattle.bus_rules.specs.States.{core_after_act}
use Rattle.bus_rules.specs.Slots.{ScheduleOf, part_of}
use Rattle.lwb_member.specs.Said.{message_of}
use Rattle.node_core.specs.declared.stage.Stage.TheVariants.{Scanning, InWindow}
use Rattle.node_core.specs.Windows.{Window}
use Rattle.node_core.specs.Nodes.{Node}
use Rattle.node_core.specs.Rows.{Stepped, frame_alarms, window_opens, window_closes, window_hears, joins, sends, accepted_in}
use Rattle.scenario_text.specs.ScenarioParts.{ScenarioParts}
use Rattle.bus_rules.specs.declared.act.Act.TheVariants.{Off}
use Rattle.scenario_text.specs.declared.script.ScriptLine.{ScriptLine}
use Rattle.air_log.specs.declared.entry.Entry.{Entry}
use Rattle.air_log.specs.Devices.{Device, Power, PowerOff, PowerOn, Listening, OrderedPacket, listens_to, moved}
use Rattle.air_log.specs.ScriptedDevices.{device_after_on, device_after_off, with_new_core}
use Rattle.air_log.specs.Lawful.{heard_by}
use Rattle.air_log.specs.Safe.{sender_hosts, is_hosting}
use Rattle.scenario_text.specs.Setups.{setup_of}
use Rattle.air_log.specs.Trails.{sending_from, tune_of}
use Rattle.lwb_base.proofs.Elements.{contains_head}
use Rattle.law_trails.specs.Phases.{Phase, Lines, Hearings, End, Alarms, Start, Over, IsNextLineOf, IsNextAlarm, device_at}
use Rattle.law_trails.specs.Walks.{Now, Keeps, device_after_row, with_start}
use Rattle.law_trails.specs.TrailLinks.{device_in}
use Rattle.law_trails.specs.DeviceRanges.{IsPower}
use Rattle.law_trails.specs.NodeRanges.{IsNodeInRange}
use Rattle.law_trails.specs.Lives.{Life, ByTune, ByPower}
use Rattle.law_trails.proofs.RowsOfDevices.{row_obeyed, row_power, switched_on_is}
use Rattle.law_safety.specs.SentPlans.{IsHostOf, StaysOnUntil}
use Rattle.law_safety.specs.SetAlarms.{rank_at}
use Rattle.law_safety.specs.TunedNodes.{Either, IsMember, IsRoundOf, IsTunedAt, by_hearing, is_last_window}
use Rattle.law_safety.specs.Beginnings.{MaySay}
use Rattle.law_safety.specs.FloodSendings.{IsOfFlood, BeginsFlood}
use Rattle.law_safety.specs.NodesInOrder.{IsOn, InOpenWindow, InOrderBy, WindowAt}
use Rattle.law_safety.specs.QuietHosts.{HostsInOrder, LifeHasSchedule, LivesBy}
use Rattle.law_safety.specs.Rows.{AtTick, AllRows, IsFine, told_in}
use Rattle.law_safety.proofs.RunFacts.{frame_below}
use Rattle.law_safety.proofs.OpenWindows.{IsAbout, where_ordered}
use Rattle.law_safety.proofs.WellSteps.{well_at_alarms}
use Rattle.bus_time.proofs.KeptHosts.{ended_hosts, opened_hosts, closed_hosts, accepts_none, not_scanning, not_by_hearing, otherwise}

abbrev pub HostsBy : Power → Type 0
HostsBy (PowerOff count) = ⊥
HostsBy (PowerOn n) = hosts n.core.tune ≡ true

-- x begins the flood of a schedule
pub record BeginsSchedule (x : Sending) : Type 0 where
  pub first : counter_of_sending x ≡ 0
  pub schedule : Schedule
  pub says : message_of x.packet ≡ Some (ScheduleOf schedule)

module _ (s : ScenarioParts) (clocks : ℕ → ℕ → ℕ) (air : List Entry) (v : ℕ) where
  abbrev S : Setup
  S = setup_of s v

  own_by : (n : Node) (j : ℕ) (last : Bool) (tune : Tune) → hosts tune ≡ true → IsRoundOf s clocks v n j last tune → IsHostOf s (rank_of tune) v
  own_by n j last (Scan r waited) host is = absurd (true≢false (sym host))
  own_by n j last (Hold r due) host is = absurd (true≢false (sym host))
  own_by n j last (Host r due) host is = is.0

  -- next to the invariant, at some moment of tick t
  pub record IsHosting (t : ℕ) (d : Device) : Type 0 where
    pub grows : (x : Sending) → Contains (device_in s clocks air v t).made.sent x → Contains d.made.sent x
    pub on : (x : Sending) → Contains d.made.sent x → BeginsSchedule x → StaysOnUntil s v (frame_of_sending s.profile x) (suc t) → HostsBy d.power
    pub own : (x : Sending) → Contains d.made.sent x → sender_hosts s clocks air x ≡ true → IsHostOf s x.rank v

  abbrev pub All : ℕ → Phase → Device → Type 0
  All t phase d = IsFine s clocks air v t phase d × IsHosting t d

  fine : (t : ℕ) (phase : Phase) (d : Device) → Now All s t phase d → Now (IsFine s clocks air v) s t phase d
  fine t phase d now = record { in_run = now.in_run; known = now.known; holds = now.holds.0 }

  was : (d e : Device) → e.made.sent ≡ d.made.sent → (x : Sending) → Contains e.made.sent x → Contains d.made.sent x
  was d e same x there = subst (λ (xs : List Sending). Contains xs x) same there

  now_there : (d e : Device) → e.made.sent ≡ d.made.sent → (x : Sending) → Contains d.made.sent x → Contains e.made.sent x
  now_there d e same x there = subst (λ (xs : List Sending). Contains xs x) (sym same) there

  -- what has sent the same, and hosts still
  still : (t : ℕ) (d e : Device) → e.made.sent ≡ d.made.sent → (HostsBy d.power → HostsBy e.power) → IsHosting t d → IsHosting t e
  still t d e same power is = record {
    grows = λ x there. now_there d e same x (is.grows x there);
    on = λ x there begins stays. power (is.on x (was d e same x there) begins stays);
    own = λ x there. is.own x (was d e same x there);
  }

  -- and after a row
  after : (t : ℕ) (e : Event) (x : Option Sending) (d : Device) (n : Node) (r : Stepped) → d.power ≡ PowerOn n
      → (hosts n.core.tune ≡ true → hosts r.node.core.tune ≡ true) → IsHosting t d → IsHosting t (device_after_row (clocks v) (setup_of s v) t e x d n r)
  after t e x d n r on keeps is =
      still t d (device_after_row (clocks v) S t e x d n r) (row_obeyed (clocks v) S t e x d n r).sent
      (λ host. subst HostsBy (sym (row_power (clocks v) S t e x d n r)) (keeps (subst HostsBy on host))) is

  told : (t : ℕ) (d : Device) (n : Node) → d.power ≡ PowerOn n → HostsBy d.power → hosts n.core.tune ≡ true
  told t d n on host = subst HostsBy on host

  on_in : (t : ℕ) (phase : Phase) (d : Device) (n : Node) → IsFine s clocks air v t phase d → d.power ≡ PowerOn n
      → IsOn s clocks air v t (told_in t phase) d n
  on_in t phase d n fine on = subst (λ (p : Power). InOrderBy s clocks air v t (told_in t phase) d p) on fine.node.by_power

  -- a line that switches it off is given after all that it sent
  goes_off : (t : ℕ) → AtTick s clocks air v t → (d : Device) (l : ScriptLine) (n : Node) → IsFine s clocks air v t Lines d
      → IsNextLineOf s v (clocks v) (heard_by air v) t l d → l.act ≡ Off → IsHosting t d → IsHosting t (device_after_off v t n d)
  goes_off t at d l n order next act is = record {
    grows = is.grows;
    on = λ x there begins stays. (
        let starts = order.before x there in
        let line = next.now in
        let later : frame_of_sending s.profile x < l.frame = frame_below s at.run.driven.sound l.frame x.start (omega (arith, starts, line)) in
        absurd (stays l next.there next.node later (omega (arith, line)) act)
        );
    own = is.own;
  }

  joins_not : (t : ℕ) (d : Device) (n : Node) → IsFine s clocks air v t Hearings d → d.power ≡ PowerOn n → n.stage ≡ Scanning
      → hosts n.core.tune ≡ true → ⊥
  joins_not t d n order on stage host =
      not_scanning s clocks v n n.core.tune (subst (IsTunedAt s clocks v n) stage (on_in t Hearings d n order on).tune.at) host

  closes_by : (t : ℕ) (at : AtTick s clocks air v t) (d : Device) (n : Node) (j : ℕ) (w : Window) → Now (IsFine s clocks air v) s t Alarms d
      → IsNextAlarm s v (clocks v) (heard_by air v) t d → d.power ≡ PowerOn n → n.stage ≡ InWindow j w
      → hosts n.core.tune ≡ true → hosts (window_closes (setup_of s v) n j w).node.core.tune ≡ true
  closes_by t at d n j w here due power stage host =
      let on = on_in t Alarms d n here.holds power in
      let is : InOpenWindow s clocks air v (suc t) n d j w = subst (WindowAt s clocks air v (suc t) n d) stage on.window in
      let ranged : IsNodeInRange S n = subst (IsPower S) power (well_at_alarms s clocks air v t at d due).power in
      closed_hosts S n.frame w.part w.flood.initiated n.core (accepted_in w)
      (accepts_none S n j w ranged stage (is.flood.own host)) host

  -- ---- a transmission begins

  -- a life that opened or closed in this frame hosts
  by_life : (rank f : ℕ) (y : Schedule) (l : Life) (tune : Tune) → ByTune rank l tune → LifeHasSchedule l f y → l.frame ≤ f → hosts tune ≡ true
  by_life rank f y l (Host r due) by is late = refl
  by_life rank f y l (Hold r due) by is late = absurd (elim is [
    | inl opened ↦ (let past = by.1.openings (record { frame = f; plan = y.plan }) opened.1 in let since = by.0 in omega (arith, past, since, late))
    | inr closed ↦ (let past = by.1.closings (record { frame = f; gap = y.gap; plan = y.plan }) closed in let since = by.0 in omega (arith, past, since, late))
  ])
  by_life rank f y l (Scan r waited) by is late = absurd (elim is [
    | inl opened ↦ (let past = by.1.openings (record { frame = f; plan = y.plan }) opened.1 in let since = by.0 in omega (arith, past, since, late))
    | inr closed ↦ (let past = by.1.closings (record { frame = f; gap = y.gap; plan = y.plan }) closed in let since = by.0 in omega (arith, past, since, late))
  ])

  module _ (t : ℕ) (at : AtTick s clocks air v t) (rows : AllRows) (d : Device) (o : OrderedPacket) (l : Listening)
      (here : Now (IsFine s clocks air v) s t Start d)
      (enters : d ≡ device_at s v (clocks v) (heard_by air v) t Start) (ordered : d.ordered ≡ Some o) (now : o.tick ≡ t)
      (tuned : d.listening ≡ Some l) (free : d.sending ≡ None) where
    abbrev x : Sending
    x = sending_from (setup_of s v) t o.packet l

    about : IsAbout s clocks air v t d o
    about = where_ordered s clocks air v t d o ordered here.holds

    behind : IsFine s clocks air v t Over (with_start d x)
    behind = rows.beginning s clocks air v t at d o l here enters ordered now tuned free

    in_it : Contains (with_start d x).made.sent x
    in_it = Contains-append_right d.made.sent (x ∷ []) x (contains_head x [])

    hosts_now : sender_hosts s clocks air x ≡ hosts about.node.core.tune
    hosts_now =
        ap (λ (y : Device). is_hosting (tune_of y.power)) (sym enters)
        ∙ ap (λ (p : Power). is_hosting (tune_of p)) about.on

    hosts_on : BeginsSchedule x → HostsBy d.power
    hosts_on starts = subst HostsBy (sym about.on) (
        let of_flood : IsOfFlood s clocks air x = behind.sent x in_it in
        let begun : BeginsFlood s clocks air of_flood.zero x = subst (BeginsFlood s clocks air of_flood.zero) (of_flood.itself starts.first) of_flood.begins in
        let y = starts.schedule in
        let host : IsHostOf s x.rank v =
        (subst (MaySay s clocks air v x.rank (frame_of_sending s.profile x) of_flood.zero (slot_of_sending x) (sender_hosts s clocks air x)) starts.says
        begun.start.says).host in
        let h : HostsInOrder s x.rank t (suc t) (with_start d x) = behind.host x.rank host in
        let lives = subst (LivesBy h.life (t / s.profile.frame)) about.on h.lives in
        let stands : ByPower x.rank h.life true = subst (ByPower x.rank h.life) lives.on h.quiet.stands in
        let frame = lives.frame in
        let counted = about.frame in
        ap hosts (sym lives.tune) ∙ by_life x.rank (frame_of_sending s.profile x) y h.life h.life.tune stands (h.sent x y in_it starts.first starts.says)
        (omega (arith, frame, counted))
        )

    own_rank : sender_hosts s clocks air x ≡ true → IsHostOf s x.rank v
    own_rank host =
        let n = about.node in
        let hosting : hosts n.core.tune ≡ true = sym hosts_now ∙ host in
        let place : Either (by_hearing n n.core.tune) _ (IsMember s clocks v n about.slot about.window.last (is_last_window about.slot about.window)) =
        subst (IsTunedAt s clocks v n) about.stage about.is.tune.at in
        let member = otherwise (by_hearing n n.core.tune) _ _ (not_by_hearing n n.core.tune hosting) place in
        let rank : l.rank ≡ rank_at n = eqb-true l.rank (rank_at n) (ap (listens_to (rank_at n)) (sym tuned) ∙ about.listens) in
        subst (λ (r : ℕ). IsHostOf s r v) (sym rank) (own_by n about.slot (is_last_window about.slot about.window) n.core.tune hosting member.round)

    begins_so : IsHosting t d → IsHosting t (with_start d x)
    begins_so is = record {
      grows = λ y there. Contains-append_left d.made.sent (x ∷ []) y (is.grows y there);
      on = λ y there begins stays. elim (Contains-push_cases d.made.sent x y there) [
        | inl old ↦ is.on y old begins stays
        | inr this ↦ hosts_on (subst BeginsSchedule (sym this) begins)
      ];
      own = λ y there host. elim (Contains-push_cases d.made.sent x y there) [
        | inl old ↦ is.own y old host
        | inr this ↦ subst (λ (z : Sending). sender_hosts s clocks air z ≡ true → IsHostOf s z.rank v) this own_rank host
      ];
    }

  pub keeps_all : (t : ℕ) → AtTick s clocks air v t → AllRows → Keeps All s v (clocks v) (heard_by air v) t
  keeps_all t at rows =
      let c = clocks v in
      record {
        boot = λ d l count here next act off. (
          rows.boot s clocks air v t at d l count (fine t Lines d here) next act off,
          still t d (device_after_on c S t count d) (switched_on_is c S t count d).sent (λ host. absurd (subst HostsBy off host)) here.holds.1,
        );
        off = λ d l n here next act on.
            (rows.off s clocks air v t at d l n (fine t Lines d here) next act on, goes_off t at d l n here.holds.0 next act here.holds.1);
        streaming = λ d l n here next act on. (
          rows.streaming s clocks air v t at d l n (fine t Lines d here) next act on,
          still t d (with_new_core d n (core_after_act l.act n.core)) refl (told t d n on) here.holds.1,
        );
        joining = λ d h n y here next on stage says rank. (
          rows.joining s clocks air v t at d h n y (fine t Hearings d here) next on stage says rank,
          after t (Heard h.packet) None d n (joins S n (c t) h.packet y) on (λ host. absurd (joins_not t d n here.holds.0 on stage host)) here.holds.1,
        );
        hearing = λ d h n j w here next on stage. (
          rows.hearing s clocks air v t at d h n j w (fine t Hearings d here) next on stage,
          after t (Heard h.packet) None d n (window_hears S n (c t) j w h.packet) on (λ host. host) here.holds.1,
        );
        sent = λ d x n j w here enters own ends on stage waiting. (
          rows.sent s clocks air v t at d x n j w (fine t End d here) enters own ends on stage waiting,
          after t Sent (Some x) (record d { sending = None }) n (sends n j w) on (λ host. host)
              (still t d (record d { sending = None }) refl (λ host. host) here.holds.1),
        );
        late_sent = λ d x n j w here enters own ends on stage idle. (
          rows.late_sent s clocks air v t at d x n j w (fine t End d here) enters own ends on stage idle,
          still t d (moved t Sent (Some x) (record d { sending = None }) n None) refl (told t d n on) here.holds.1,
        );
        sent_elsewhere = λ d x here enters own ends none. (
          rows.sent_elsewhere s clocks air v t at d x (fine t End d here) enters own ends none,
          still t d (record d { sending = None }) refl (λ host. host) here.holds.1,
        );
        frame_alarm = λ d n here due on awaits. (
          rows.frame_alarm s clocks air v t at d n (fine t Alarms d here) due on awaits,
          after t Alarm None (record d { alarm = None }) n (frame_alarms S n) on (ended_hosts S n.frame n.core)
              (still t d (record d { alarm = None }) refl (λ host. host) here.holds.1),
        );
        opening = λ d n j here due on stage. (
          rows.opening s clocks air v t at d n j (fine t Alarms d here) due on stage,
          after t Alarm None (record d { alarm = None }) n (window_opens S n j) on (opened_hosts S n.frame (part_of n.core.plan j) n.core)
              (still t d (record d { alarm = None }) refl (λ host. host) here.holds.1),
        );
        closing = λ d n j w here due on stage. (
          rows.closing s clocks air v t at d n j w (fine t Alarms d here) due on stage,
          after t Alarm None (record d { alarm = None }) n (window_closes S n j w) on (closes_by t at d n j w (fine t Alarms d here) due on stage)
              (still t d (record d { alarm = None }) refl (λ host. host) here.holds.1),
        );
        alarm_elsewhere = λ d n here due on stage. (
          rows.alarm_elsewhere s clocks air v t at d n (fine t Alarms d here) due on stage,
          still t d (record d { alarm = None }) refl (λ host. host) here.holds.1,
        );
        beginning = λ d o l here enters order due radio none. (
          rows.beginning s clocks air v t at d o l (fine t Start d here) enters order due radio none,
          begins_so t at rows d o l (fine t Start d here) enters order due radio none here.holds.1,
        );
        missed_start = λ d o here enters order due cannot. (
          rows.missed_start s clocks air v t at d o (fine t Start d here) enters order due cannot,
          still t d (record d { ordered = None }) refl (λ host. host) here.holds.1,
        );
        onwards = λ phase d here enters known. (rows.onwards s clocks air v t at phase d (fine t phase d here) enters known, here.holds.1);
        passing = λ d here is. (
          rows.passing s clocks air v t at d (fine t Over d here) is,
          record {
            grows = λ x there. subst (λ (e : Device). Contains e.made.sent x) (sym is) there;
            on = λ x there begins stays. here.holds.1.on x there begins (λ l told node later line. stays l told node later (omega (arith, line)));
            own = here.holds.1.own;
          },
        );
      }
