-- Each step keeps that a node sends what its windows call for.
use Rattle.std.proofs.Common.{◌≡◌, ℕ, suc, ◌+◌, ◌≤◌, inl, inr, List, [], ◌∷◌, ◌++◌, Bool, true, false, ◌||◌, if◌then◌else◌, nat_lt, Some, None}
use Rattle.std.proofs.Common.{Option, is_some, fold, max, refl, sym, ◌∙◌, ap, subst, arith, true≢false, eqb-true}
use Rattle.std.specs.Option.{IfSome}
use Rattle.std.proofs.lemmas.Bool.{and_parts, not-true}
use Rattle.lwb_base.specs.Messages.{Schedule}
use Rattle.lwb_packets.specs.declared.kind.Kind as Kind
use Rattle.tick_clock.specs.Clocks.{IsClock, due}
use Rattle.time_reference.specs.Budgets.{budget_of}
use Rattle.time_reference.specs.Zeros.{closing_offset, starting_offset}
use Rattle.time_reference.specs.Reference.{stopped}
use Rattle.glossy_relay.specs.FloodState.{FloodState, listening}
use Rattle.glossy_relay.specs.Relaying.{reply_to, fits, relay_of, counter_of, slot_of}
use Rattle.glossy_relay.specs.declared.flood.Reply.{Reply}
use Rattle.glossy_relay.specs.declared.flood.Reply.TheVariants.{Relay, Keep, Ignore}
use Rattle.bus_rules.specs.Cores.{Setup}
use Rattle.bus_rules.specs.Slots.{Message, Opened, part_of, opened_slot}
use Rattle.lwb_member.specs.Said.{bytes_of}
use Rattle.node_core.specs.declared.stage.Stage.{Stage}
use Rattle.node_core.specs.declared.stage.Stage.TheVariants.{Scanning, InWindow}
use Rattle.node_core.specs.Windows.{Window}
use Rattle.node_core.specs.Nodes.{Node, starts_at}
use Rattle.node_core.specs.Rows.{reply_by}
use Rattle.scenario_text.specs.ScenarioParts.{ScenarioParts}
use Rattle.radio_model.specs.declared.sending.Sending.{Sending}
use Rattle.air_log.specs.declared.entry.Entry.{Entry}
use Rattle.air_log.specs.Devices.{Device, PowerOn, Listening, OrderedPacket, listens_to}
use Rattle.air_log.specs.Lawful.{heard_by}
use Rattle.scenario_text.specs.Setups.{setup_of}
use Rattle.air_log.specs.Trails.{Reception, sending_from}
use Rattle.air_log.specs.WindowLogs.{WindowLog, HeardAt, Closing}
use Rattle.law_trails.specs.Phases.{Hearings, Alarms, Start, IsNextAlarm}
use Rattle.law_trails.specs.RowEffects.{relayed, said}
use Rattle.law_trails.specs.Walks.{Now}
use Rattle.law_trails.proofs.UnstoppedTimes.{relay_is}
use Rattle.law_safety.specs.KnownInRows.{IsHeardNow}
use Rattle.law_safety.specs.OrderedSendings.{HasOrder}
use Rattle.law_safety.specs.RadiosOn.{RadioFor}
use Rattle.law_safety.specs.SetAlarms.{AlarmFor, rank_at, tick_by}
use Rattle.law_safety.specs.StillDevices.{IsStill}
use Rattle.law_safety.specs.NodesInOrder.{IsOn, InOpenWindow, WindowAt}
use Rattle.law_safety.specs.Rows.{IsFine, AtTick}
use Rattle.law_safety.proofs.RunFacts.{run_fits, tick_in_run}
use Rattle.law_safety.proofs.AwaitedSlots.{Awaits, awaits, starts_then}
use Rattle.law_safety.proofs.OpenWindows.{IsAbout, where_ordered}
use Rattle.law_windows.specs.OpenWindows.{AreClosed, IsOpenFirst, StandAt, StandBy}
use Rattle.law_windows.specs.WindowCalls.{CallsFor, IsStillOrdered, SendsAsCalled}
use Rattle.law_windows.specs.WindowFloods.{WindowHasFlood, after_happening, flood_at_first}
use Rattle.law_windows.specs.WindowSteps.{begun_log, joined_log}
use Rattle.law_windows.specs.WindowTimes.{IsOfSlot}
use Rattle.law_windows.specs.SendingSteps.{KeepsSendings}
use Rattle.law_windows.proofs.AnsweredCalls.{none_some, opens_with, heard_only, heard_relayed, sending_ends, closes, starts}
use Rattle.law_windows.proofs.ListEnds.{nothing_in}
use Rattle.law_windows.proofs.OwnSchedules.{own_channel, not_foreign}
use Rattle.law_windows.proofs.WindowHistory.{own_of_slot}
use Rattle.law_windows.proofs.WindowWalk.{on_in}

-- a relay is of a packet that fits, so the flood did not wait
fits_so : (b c : Bool) (p q : List ℕ) → (if b then (if c then Relay p else Keep) else Ignore) ≡ Relay q → b ≡ true
fits_so true c p q is = refl
fits_so false c p q is = absurd cc

pub relays_idle : (f : FloodState) (p q : List ℕ) → reply_to f p ≡ Relay q → f.waiting ≡ false
relays_idle f p q is =
    let fitting = fits_so (fits f p) (nat_lt (counter_of p) 11) (relay_of p) q is in
    let a = and_parts _ _ fitting in
    let b = and_parts _ _ a.0 in
    let c = and_parts _ _ b.0 in
    let e = and_parts _ _ c.0 in
    not-true f.waiting e.1

idle_none : (o : Option OrderedPacket) (b : Bool) → (is_some o || b) ≡ false → o ≡ None
idle_none None b is = refl
idle_none (Some o) b is = absurd (true≢false is)

module _ (s : ScenarioParts) (clocks : ℕ → ℕ → ℕ) (air : List Entry) (v t : ℕ) (at : AtTick s clocks air v t) where
  abbrev S : Setup
  S = setup_of s v

  abbrev R : List WindowLog → Option OrderedPacket → Option Sending → List Sending → Type 0
  R logs o x sent = SendsAsCalled s clocks v logs o x sent

  own_drifts : IsClock (clocks v)
  own_drifts = at.run.driven.drift v at.known

  relay_at : max (due (clocks v) (stopped (clocks v t + s.profile.turn))) t ≡ due (clocks v) (clocks v t + s.profile.turn)
  relay_at = relay_is s.profile (budget_of s.profile) (run_fits s at.run.driven.sound) (clocks v) own_drifts t
      (tick_in_run s at.run.driven.sound t at.in_run)

  with_none : (logs : List WindowLog) (o : Option OrderedPacket) (x : Option Sending) (sent : List Sending) → o ≡ None → R logs o x sent → R logs None x sent
  with_none logs o x sent none has = subst (λ (p : Option OrderedPacket). R logs p x sent) none has

  -- ---- a window opens by its alarm

  module _ (d : Device) (n : Node) (j : ℕ) (is : Awaits s clocks air v t d n j) where
    abbrev x : WindowLog
    x = begun_log (setup_of s v) t n j

    abbrev spoken : Opened
    spoken = opened_slot (setup_of s v) n.frame (part_of n.core.plan j) n.core

    abbrev start : ℕ
    start = max (due (clocks v) (starts_at s.profile n.zero j)) t

    starts_at_point : start ≡ tick_by s clocks v n (starting_offset s.profile j)
    starts_at_point = starts_then s clocks air v t at d n j is

    calls_none : spoken.message ≡ None → (o : Option OrderedPacket) (tick : ℕ) (packet : List ℕ) → CallsFor s clocks v x tick packet
        → IsStillOrdered s clocks v o x tick packet
    calls_none none o tick packet (inl begins) = absurd (none_some spoken.message begins.message none begins.said)
    calls_none none o tick packet (inr relays) = absurd (nothing_in (HeardAt relays.until relays.heard) relays.earlier relays.later relays.is)

    calls_some : (m : Message) → spoken.message ≡ Some m → (tick : ℕ) (packet : List ℕ) → CallsFor s clocks v x tick packet
        → IsStillOrdered s clocks v (Some (record { tick = start; packet = bytes_of m j })) x tick packet
    calls_some m some tick packet (inl begins) =
        let said : spoken.message ≡ Some begins.message = begins.said in
        let messages : Some m ≡ Some begins.message = sym some ∙ said in
        let same : m ≡ begins.message = cc in
        record {
          open_ = refl;
          is = ap (λ (k : ℕ). Some (record { tick = k; packet = bytes_of m j })) (starts_at_point ∙ sym begins.at)
              ∙ ap (λ (q : List ℕ). Some (record { tick = tick; packet = q })) (ap (λ (u : Message). bytes_of u j) same ∙ sym begins.packet_is);
        }
    calls_some m some tick packet (inr relays) = absurd (nothing_in (HeardAt relays.until relays.heard) relays.earlier relays.later relays.is)

    by_message : AreClosed d.made.windows → R d.made.windows None d.sending d.made.sent → (m : Option Message) → spoken.message ≡ m
        → R (x ∷ d.made.windows) (said (clocks v) (setup_of s v) t n.zero j None m) d.sending d.made.sent
    by_message closed has None none = opens_with s clocks v d.made.windows x None d.sending d.made.sent has closed tt (calls_none none None)
    by_message closed has (Some m) some =
        opens_with s clocks v d.made.windows x (Some (record { tick = start; packet = bytes_of m j })) d.sending d.made.sent has closed
        (refl, inl (record { by_alarm = refl; message = m; said = some; packet_is = refl; at = starts_at_point })) (calls_some m some)

    opens : AreClosed d.made.windows → R d.made.windows d.ordered d.sending d.made.sent
        → R (x ∷ d.made.windows) (said (clocks v) (setup_of s v) t n.zero j d.ordered spoken.message) d.sending d.made.sent
    opens closed has =
        let none = is.still.ordered in
        subst (λ (o : Option OrderedPacket). R (x ∷ d.made.windows) (said (clocks v) S t n.zero j o spoken.message) d.sending d.made.sent) (sym none)
        (by_message closed (with_none d.made.windows d.ordered d.sending d.made.sent none has) spoken.message refl)

  -- ---- something is received in a window that is open

  module _ (h : Reception) (x : WindowLog) (earlier : List WindowLog) (o : Option OrderedPacket) (running : Option Sending) (sent : List Sending) (w u : Window)
      (has : R (x ∷ earlier) o running sent) (open_ : x.closed ≡ None) (closed : AreClosed earlier) (flood : WindowHasFlood (setup_of s v) x)
      (last : x.last ≡ w)
      (idle : w.flood.waiting ≡ false → o ≡ None) where
    from_flood : reply_to (fold after_happening (flood_at_first (setup_of s v) x.by_alarm x) x.happenings) h.packet ≡ reply_to w.flood h.packet
    from_flood = ap (λ (f : FloodState). reply_to f h.packet) (sym flood ∙ ap (λ (y : Window). y.flood) last)

    by_reply : (r : Reply) → reply_to w.flood h.packet ≡ r
        → R (record x { happenings = x.happenings ++ HeardAt t h.packet ∷ []; last = u } ∷ earlier) (relayed (clocks v) (setup_of s v) t o r) running sent
    by_reply (Relay q) is =
        heard_relayed s clocks v x earlier o running sent has open_ closed t h.packet u q (from_flood ∙ is) (idle (relays_idle w.flood h.packet q is))
        (max (due (clocks v) (stopped (clocks v t + s.profile.turn))) t) relay_at
    by_reply Keep is = heard_only s clocks v x earlier o running sent has open_ closed t h.packet u Keep (from_flood ∙ is)
        (λ q same. (let not_same : Keep ≡ Relay q = same in absurd cc))
    by_reply Ignore is = heard_only s clocks v x earlier o running sent has open_ closed t h.packet u Ignore (from_flood ∙ is)
        (λ q same. (let not_same : Ignore ≡ Relay q = same in absurd cc))

  -- ---- at each device

  -- nothing is ordered at a window that closes
  none_left : (o : Option OrderedPacket) (n : Node) (j : ℕ) (w : Window) → IfSome o (HasOrder s clocks air v (suc t) n j w) → IfSome o (λ p. t ≤ p.tick)
      → t ≡ tick_by s clocks v n (closing_offset s.profile j) → o ≡ None
  none_left None n j w order ahead now = refl
  none_left (Some o) n j w order ahead now = absurd (let over = order.over in omega (arith, over, ahead, now))

  has_window : (d : Device) (n : Node) (j : ℕ) (w : Window) → IsOn s clocks air v t (suc t) d n → n.stage ≡ InWindow j w
      → InOpenWindow s clocks air v (suc t) n d j w
  has_window d n j w on stage = subst (λ (st : Stage). WindowAt s clocks air v (suc t) n d st) stage on.window

  R_first : (d : Device) (n : Node) (j : ℕ) (w : Window) (is : IsOpenFirst d.made.windows n j w) → R d.made.windows d.ordered d.sending d.made.sent
      → R (is.first ∷ is.earlier) d.ordered d.sending d.made.sent
  R_first d n j w is has = subst (λ (l : List WindowLog). R l d.ordered d.sending d.made.sent) is.is has

  joins_so : (d : Device) (h : Reception) (n : Node) (y : Schedule) → IsOn s clocks air v t (suc t) d n → n.stage ≡ Scanning → AreClosed d.made.windows
      → R d.made.windows d.ordered d.sending d.made.sent
      → R (joined_log (setup_of s v) t (clocks v t) n h.packet y ∷ d.made.windows)
      (relayed (clocks v) (setup_of s v) t d.ordered (reply_to (listening Kind.TheVariants.Schedule (slot_of h.packet) s.sends) h.packet)) d.sending d.made.sent
  joins_so d h n y on stage closed has =
      let still : IsStill d = (subst (RadioFor n d) stage on.radio.at).1 in
      let full = joined_log S t (clocks v t) n h.packet y in
      let listens : Window = record (full.last) { flood = listening Kind.TheVariants.Schedule (slot_of h.packet) s.sends } in
      let x : WindowLog = record full { happenings = []; last = listens } in
      let first : R (x ∷ d.made.windows) None d.sending d.made.sent =
      opens_with s clocks v d.made.windows x None d.sending d.made.sent (with_none d.made.windows d.ordered d.sending d.made.sent still.ordered has) closed tt
      (λ tick packet call. no_call d h n y None tick packet call) in
      subst (λ (o : Option OrderedPacket). R (full ∷ d.made.windows) (relayed (clocks v) S t o (reply_to listens.flood h.packet)) d.sending d.made.sent)
      (sym still.ordered)
      (by_reply h x d.made.windows None d.sending d.made.sent listens full.last first refl closed refl refl (λ idle. refl)
      (reply_to listens.flood h.packet) refl)
    where
      no_call : (d : Device) (h : Reception) (n : Node) (y : Schedule) (o : Option OrderedPacket) (tick : ℕ) (packet : List ℕ)
          → (let full = joined_log (setup_of s v) t (clocks v t) n h.packet y in
          let x : WindowLog = record full {
            happenings = [];
            last = record (full.last) { flood = listening Kind.TheVariants.Schedule (slot_of h.packet) s.sends };
          } in
          CallsFor s clocks v x tick packet → IsStillOrdered s clocks v o x tick packet)
      no_call d h n y o tick packet (inl begins) = absurd (true≢false (sym begins.by_alarm))
      no_call d h n y o tick packet (inr relays) = absurd (nothing_in (HeardAt relays.until relays.heard) relays.earlier relays.later relays.is)

  heard_so : (d : Device) (h : Reception) (n : Node) (j : ℕ) (w u : Window) → IsOn s clocks air v t (suc t) d n → IsHeardNow s clocks air v t h d
      → n.stage ≡ InWindow j w
      → (is : IsOpenFirst d.made.windows n j w) → WindowHasFlood (setup_of s v) is.first → R d.made.windows d.ordered d.sending d.made.sent
      → R (record (is.first) { happenings = is.first.happenings ++ HeardAt t h.packet ∷ []; last = u } ∷ is.earlier)
      (relayed (clocks v) (setup_of s v) t d.ordered (reply_by (rank_at n) w h.packet)) d.sending d.made.sent
  heard_so d h n j w u on now stage is flood has =
      let window = has_window d n j w on stage in
      let own = own_channel s clocks air v t h d now n j w on stage in
      let reply : reply_to w.flood h.packet ≡ reply_by (rank_at n) w h.packet =
      ap (λ (b : Bool). if b then Ignore else reply_to w.flood h.packet) (sym (not_foreign s clocks air v t h d now n own)) in
      by_reply h is.first is.earlier d.ordered d.sending d.made.sent w u (R_first d n j w is has) is.now.open_ is.closed flood is.now.last
      (λ idle. idle_none d.ordered (is_some d.sending) (sym window.flood.waits ∙ idle)) (reply_by (rank_at n) w h.packet) reply

  closes_so : (d : Device) (n : Node) (j : ℕ) (w : Window) (c : Closing) → Now (IsFine s clocks air v) s t Alarms d
      → IsNextAlarm s v (clocks v) (heard_by air v) t d
      → d.power ≡ PowerOn n → n.stage ≡ InWindow j w → (is : IsOpenFirst d.made.windows n j w) → R d.made.windows d.ordered d.sending d.made.sent
      → R (record (is.first) { closed = Some c } ∷ is.earlier) d.ordered d.sending d.made.sent
  closes_so d n j w c here due on stage is has =
      let node = on_in s clocks air v t Alarms d n here.holds on in
      let window = has_window d n j w node stage in
      let alarm = node.alarm in
      let other : d.alarm ≡ Some alarm.alarm = alarm.set in
      let set : d.alarm ≡ Some t = due.due in
      let same : alarm.alarm ≡ t = cc in
      let now : t ≡ tick_by s clocks v n (closing_offset s.profile j) = sym same ∙ subst (AlarmFor s clocks v n alarm.alarm) stage alarm.at in
      closes s clocks v is.first is.earlier d.ordered d.sending d.made.sent (R_first d n j w is has) is.now.open_ is.closed c
      (none_left d.ordered n j w window.order here.known.ordered now)

  starts_so : (d : Device) (o : OrderedPacket) (l : Listening) → Now (IsFine s clocks air v) s t Start d → d.ordered ≡ Some o → o.tick ≡ t
      → d.listening ≡ Some l → d.sending ≡ None
      → StandBy d.made.windows d.power → R d.made.windows d.ordered d.sending d.made.sent
      → R d.made.windows None (Some (sending_from (setup_of s v) t o.packet l)) (d.made.sent ++ sending_from (setup_of s v) t o.packet l ∷ [])
  starts_so d o l here order due radio free stand has =
      let about : IsAbout s clocks air v t d o = where_ordered s clocks air v t d o order here.holds in
      let n = about.node in
      let j = about.slot in
      let w = about.window in
      let y = sending_from S t o.packet l in
      let is : IsOpenFirst d.made.windows n j w = subst (StandAt d.made.windows n) about.stage (subst (StandBy d.made.windows) about.on stand) in
      let rank : l.rank ≡ rank_at n = eqb-true l.rank (rank_at n) (ap (listens_to (rank_at n)) (sym radio) ∙ about.listens) in
      let of_slot : IsOfSlot s is.first y = record {
        channel = rank ∙ sym is.now.rank;
        frame = about.frame ∙ sym is.now.frame;
        slot = about.order.slot ∙ sym is.now.slot;
      } in
      let ordered : d.ordered ≡ Some (record { tick = t; packet = o.packet }) = order ∙ ap (λ (k : ℕ). Some (record { tick = k; packet = o.packet })) due in
      subst (λ (logs : List WindowLog). R logs None (Some y) (d.made.sent ++ y ∷ [])) (sym is.is)
      (starts s clocks v is.first is.earlier d.ordered d.sending d.made.sent (R_first d n j w is has) is.now.open_ is.closed y ordered free of_slot)

  pub calls_steps : KeepsSendings s clocks air v (SendsAsCalled s clocks v) t
  calls_steps = record {
    opened_kept = λ d n j here due on stage closed has.
        opens d n j (awaits s clocks air v t d n j (on_in s clocks air v t Alarms d n here.holds on) stage due.due) closed has;
    joined_kept = λ d h n y here next now on stage says rank closed has. joins_so d h n y (on_in s clocks air v t Hearings d n here.holds on) stage closed has;
    heard_kept = λ d h n j w here next now on stage is flood has. heard_so d h n j w _
        (on_in s clocks air v t Hearings d n here.holds on) now stage is flood has;
    ended_kept = λ d y n j w here enters own ends on stage is has.
        sending_ends s clocks v is.first is.earlier d.ordered d.sending d.made.sent (R_first d n j w is has) is.now.open_ is.closed t y _ own ends
        (own_of_slot s clocks air v t at d y n j w is.first here.holds enters own ends on stage is.now);
    closed_kept = λ d n j w here due on stage is has. closes_so d n j w _ here due on stage is has;
    started_kept = λ d o l here enters order due radio free stand has. starts_so d o l here order due radio free stand has;
  }
