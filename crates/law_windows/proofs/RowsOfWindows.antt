-- What each row leaves of a node's windows.
use Rattle.std.proofs.Common.{◌≡◌, ℕ, ◌+◌, ◌≤◌, arith, IfSome, inl, inr, List, [], ◌∷◌, ◌++◌, Bool, true, false, if◌then◌else◌, nat_lt, is_some, Some, None}
use Rattle.std.proofs.Common.{Option, Contains, refl, sym, ◌∙◌, ap, subst, option_to_list, option_map, true≢false}
use Rattle.std.proofs.lemmas.List.{append-nil}
use Rattle.lwb_base.specs.Messages.{Schedule}
use Rattle.lwb_base.specs.declared.event.Event.{Event}
use Rattle.lwb_base.specs.declared.event.Event.TheVariants.{Alarm, Heard, Sent}
use Rattle.glossy_relay.specs.Relaying.{slot_of, after_sent}
use Rattle.radio_model.specs.declared.sending.Sending.{Sending}
use Rattle.bus_rules.specs.declared.delivery.Delivery.{Delivery}
use Rattle.bus_rules.specs.Tuning.{rank_of}
use Rattle.bus_rules.specs.Cores.{Core, Setup}
use Rattle.bus_rules.specs.Slots.{part_of, opened_slot, closed_slot, delivery_of}
use Rattle.node_core.specs.declared.stage.Stage.{Stage}
use Rattle.node_core.specs.declared.stage.Stage.TheVariants.{Scanning, AwaitFrame, AwaitSlot, InWindow}
use Rattle.node_core.specs.Windows.{Window}
use Rattle.node_core.specs.Nodes.{Node}
use Rattle.node_core.specs.Rows.{Stepped, window_opens, window_closes, window_hears, joins, sends, hearing, accepted_in}
use Rattle.scenario_text.specs.ScenarioParts.{ScenarioParts}
use Rattle.air_log.specs.WindowLogs.{WindowLog, Closing, happening, windows_after, gone_on}
use Rattle.air_log.specs.Devices.{Device, Power, PowerOn}
use Rattle.scenario_text.specs.Setups.{setup_of}
use Rattle.lwb_base.proofs.Elements.{contains_head, contains_tail, contains_cases}
use Rattle.law_trails.specs.Walks.{device_after_row, NoWindow}
use Rattle.law_trails.proofs.RowsOfDevices.{row_obeyed}
use Rattle.law_safety.specs.SetAlarms.{rank_at}
use Rattle.law_safety.proofs.OpeningRoles.{same_standing, role_of}
use Rattle.law_windows.specs.WindowDeliveries.{delivered_by, delivered_in}
use Rattle.law_windows.specs.OpenWindows.{CloseBeforeNext, AreClosed, ClosedBy, HasClosedBy, IsOpenWindow, IsOpenFirst, StandAt, StandBy}
use Rattle.law_windows.specs.WindowSteps.{begun_window, joined_window, begun_log, joined_log, heard_log, sent_log, log_after_closing, HaveWindows, HasWindows}
use Rattle.law_windows.proofs.PlacesWithout.{all_closed, stand_there, unchanged}

-- the closing of a window, whether the round has more slots or not
more_or_none : (t : ℕ) (n m : Node) (j i : ℕ) (w : Window) (b : Bool) (first : WindowLog) (earlier : List WindowLog)
    → windows_after t Alarm None n m (InWindow j w) (if b then AwaitSlot i else AwaitFrame) (first ∷ earlier)
    ≡ record first { closed = Some (record { tick = t; after = m }) } ∷ earlier
more_or_none t n m j i w true first earlier = refl
more_or_none t n m j i w false first earlier = refl

rests_then : (i : ℕ) (b : Bool) → NoWindow (if b then AwaitSlot i else AwaitFrame)
rests_then i true = tt
rests_then i false = tt

-- what a window delivers as it closes, by what it is of
abbrev delivers : Setup → ℕ → ℕ → ℕ → Core → Window → Option Delivery
delivers s f rank j c w = option_map (delivery_of s.id f rank j) (closed_slot s f w.part w.flood.initiated c (accepted_in w)).delivered

delivers_same : (s : Setup) (n : Node) (j : ℕ) (w : Window) (x : WindowLog) → IsOpenWindow n j w x
    → delivers s n.frame (rank_at n) j n.core w ≡ delivers s x.frame x.rank x.slot x.after.core x.last
delivers_same s n j w x is =
    ap (λ (f : ℕ). delivers s f (rank_at n) j n.core w) (sym is.frame)
    ∙ ap (λ (r : ℕ). delivers s x.frame r j n.core w) (sym is.rank)
    ∙ ap (λ (i : ℕ). delivers s x.frame x.rank i n.core w) (sym is.slot)
    ∙ ap (λ (k : Node). delivers s x.frame x.rank x.slot k.core w) is.node
    ∙ ap (λ (u : Window). delivers s x.frame x.rank x.slot x.after.core u) (sym is.last)

nothing_yet : (s : Setup) (x : WindowLog) (c : Option Closing) → c ≡ None → option_to_list (delivered_by s x c) ≡ []
nothing_yet s x c none = ap (λ (o : Option Closing). option_to_list (delivered_by s x o)) none

-- one that has closed and did not close later
by_then : (t : ℕ) (y : WindowLog) → is_some y.closed ≡ true → ClosedBy t y → HasClosedBy t y
by_then t y closed by = of_closing y.closed refl closed by
  where
    of_closing : (c : Option Closing) → y.closed ≡ c → is_some c ≡ true → IfSome c (λ c. c.tick ≤ t) → HasClosedBy t y
    of_closing None is some by = absurd (true≢false (sym some))
    of_closing (Some c) is some by = record { closing = c; is = is; by = by }

-- what is kept of the windows after each row that touches them
module _ (s : Setup) (now t : ℕ) where
  pub begun_after : (n : Node) (j : ℕ) (logs : List WindowLog) → n.stage ≡ AwaitSlot j
      → windows_after t Alarm None n (window_opens s n j).node n.stage (window_opens s n j).node.stage logs ≡ begun_log s t n j ∷ logs
  begun_after n j logs stage = ap (λ (st : Stage). windows_after t Alarm None n (window_opens s n j).node st (InWindow j (begun_window s n j)) logs) stage

  pub joined_after : (n : Node) (p : List ℕ) (y : Schedule) (logs : List WindowLog) → n.stage ≡ Scanning
      → windows_after t (Heard p) None n (joins s n now p y).node n.stage (joins s n now p y).node.stage logs ≡ joined_log s t now n p y ∷ logs
  joined_after n p y logs stage =
      ap (λ (st : Stage). windows_after t (Heard p) None n (joins s n now p y).node st (InWindow (slot_of p) (joined_window s now p y)) logs) stage

  -- a window that goes on
  pub gone_on_after : (e : Event) (x : Option Sending) (n : Node) (j : ℕ) (w u : Window) (m : Node) (logs : List WindowLog) (first : WindowLog)
      (earlier : List WindowLog)
      → n.stage ≡ InWindow j w → m.stage ≡ InWindow j u → logs ≡ first ∷ earlier
      → windows_after t e x n m n.stage m.stage logs ≡ record first { happenings = first.happenings ++ happening t e x; last = u } ∷ earlier
  gone_on_after e x n j w u m logs first earlier stage later is =
      ap (λ (st : Stage). windows_after t e x n m st m.stage logs) stage
      ∙ ap (λ (st : Stage). windows_after t e x n m (InWindow j w) st logs) later
      ∙ ap (λ (l : List WindowLog). gone_on t e x u l) is

  pub closed_after : (n : Node) (j : ℕ) (w : Window) (logs : List WindowLog) (first : WindowLog) (earlier : List WindowLog)
      → n.stage ≡ InWindow j w → logs ≡ first ∷ earlier
      → windows_after t Alarm None n (window_closes s n j w).node n.stage (window_closes s n j w).node.stage logs ≡ log_after_closing s t n j w first ∷ earlier
  closed_after n j w logs first earlier stage is =
      let m = (window_closes s n j w).node in
      ap (λ (st : Stage). windows_after t Alarm None n m st m.stage logs) stage
      ∙ ap (λ (l : List WindowLog). windows_after t Alarm None n m (InWindow j w) m.stage l) is
      ∙ more_or_none t n m j (j + 1) w (nat_lt j w.last) first earlier

module _ (s : ScenarioParts) (clocks : ℕ → ℕ → ℕ) (v : ℕ) (K : WindowLog → Type 0) (t : ℕ) where
  abbrev S : Setup
  S = setup_of s v

  pub same_windows : (logs logs' : List WindowLog) (ds ds' : List Delivery) (p p' : Power) → logs' ≡ logs → ds' ≡ ds → p' ≡ p
      → HaveWindows s v K t logs ds p → HaveWindows s v K t logs' ds' p'
  same_windows logs logs' ds ds' p p' same_logs same_ds same_p have = record {
    each = λ x there. have.each x (subst (λ (l : List WindowLog). Contains l x) same_logs there);
    past = λ x there. have.past x (subst (λ (l : List WindowLog). Contains l x) same_logs there);
    apart = subst CloseBeforeNext (sym same_logs) have.apart;
    stand = subst (λ (l : List WindowLog). StandBy l p') (sym same_logs) (subst (StandBy logs) (sym same_p) have.stand);
    delivered = same_ds ∙ have.delivered ∙ ap (delivered_in (setup_of s v)) (sym same_logs);
  }

  -- a device after a row, whose windows, deliveries and node are these
  of_row : (e : Event) (x : Option Sending) (d : Device) (n : Node) (r : Stepped) (logs : List WindowLog)
      → windows_after t e x n r.node n.stage r.node.stage d.made.windows ≡ logs
      → HaveWindows s v K t logs (d.made.deliveries ++ option_to_list r.delivery) (PowerOn r.node)
      → HasWindows s v K t (device_after_row (clocks v) (setup_of s v) t e x d n r)
  of_row e x d n r logs is have =
      let all = row_obeyed (clocks v) (setup_of s v) t e x d n r in
      let e' = device_after_row (clocks v) (setup_of s v) t e x d n r in
      same_windows logs e'.made.windows (d.made.deliveries ++ option_to_list r.delivery) e'.made.deliveries (PowerOn r.node) e'.power
      (all.windows ∙ is) all.deliveries all.power have

  -- a node that has no window open before and after
  pub rests_on : (e : Event) (x : Option Sending) (d : Device) (n : Node) (r : Stepped) → d.power ≡ PowerOn n
      → NoWindow n.stage → NoWindow r.node.stage → r.delivery ≡ None → HasWindows s v K t d
      → HasWindows s v K t (device_after_row (clocks v) (setup_of s v) t e x d n r)
  rests_on e x d n r on none later nothing have =
      let logs = d.made.windows in
      let closed = all_closed logs n n.stage none (subst (StandBy logs) on have.stand) in
      of_row e x d n r logs (unchanged t e x n r.node n.stage r.node.stage logs none later) (record {
        each = have.each;
        past = have.past;
        apart = have.apart;
        stand = stand_there logs r.node r.node.stage later closed;
        delivered = ap (λ (o : Option Delivery). d.made.deliveries ++ option_to_list o) nothing ∙ append-nil d.made.deliveries ∙ have.delivered;
      })

  -- a window more
  one_more : (logs : List WindowLog) (ds : List Delivery) (n : Node) (j : ℕ) (w : Window) (x : WindowLog)
      → ((y : WindowLog) → Contains logs y → K y) → K x → AreClosed logs → ds ≡ delivered_in (setup_of s v) logs
      → ((y : WindowLog) → Contains logs y → ClosedBy t y) → CloseBeforeNext (x ∷ logs)
      → n.stage ≡ InWindow j w → IsOpenWindow n j w x
      → HaveWindows s v K t (x ∷ logs) (ds ++ []) (PowerOn n)
  one_more logs ds n j w x each known closed delivered past apart stage is = record {
    each = λ y there. elim (contains_cases x logs y there) [ inl same ↦ subst K same known | inr old ↦ each y old ];
    past = λ y there. elim (contains_cases x logs y there) [
      | inl same ↦ subst (ClosedBy t) same (subst (λ (c : Option Closing). IfSome c (λ c. c.tick ≤ t)) (sym is.open_) tt)
      | inr old ↦ past y old
    ];
    apart = apart;
    stand = subst (StandAt (x ∷ logs) n) (sym stage) (record { first = x; earlier = logs; is = refl; now = is; closed = closed });
    delivered = ap (λ (l : List Delivery). l ++ []) delivered
        ∙ ap (λ (l : List Delivery). delivered_in (setup_of s v) logs ++ l) (sym (nothing_yet (setup_of s v) x x.closed is.open_));
  }

  pub begins : (d : Device) (n : Node) (j : ℕ) → d.power ≡ PowerOn n → n.stage ≡ AwaitSlot j → K (begun_log (setup_of s v) t n j)
      → HasWindows s v K t d
      → HasWindows s v K t (device_after_row (clocks v) (setup_of s v) t Alarm None (record d { alarm = None }) n (window_opens (setup_of s v) n j))
  begins d n j on stage known have =
      let logs = d.made.windows in
      let r = window_opens S n j in
      let closed = all_closed logs n (AwaitSlot j) tt (subst (StandAt logs n) stage (subst (StandBy logs) on have.stand)) in
      let rank = (same_standing S n.frame n.core j (opened_slot S n.frame (part_of n.core.plan j) n.core) (role_of S n.frame n.core j)).rank in
      of_row Alarm None (record d { alarm = None }) n r (begun_log S t n j ∷ logs)
      (begun_after S (clocks v t) t n j logs stage)
      (one_more logs d.made.deliveries r.node j (begun_window S n j) (begun_log S t n j) have.each known closed have.delivered have.past
      (λ y there. by_then t y (closed y there) (have.past y there), have.apart) refl
      (record { slot = refl; last = refl; open_ = refl; node = refl; frame = refl; rank = sym rank }))

  pub joins_in : (d : Device) (n : Node) (p : List ℕ) (y : Schedule) → d.power ≡ PowerOn n → n.stage ≡ Scanning
      → K (joined_log (setup_of s v) t (clocks v t) n p y) → HasWindows s v K t d
      → HasWindows s v K t (device_after_row (clocks v) (setup_of s v) t (Heard p) None d n (joins (setup_of s v) n (clocks v t) p y))
  joins_in d n p y on stage known have =
      let logs = d.made.windows in
      let r = joins S n (clocks v t) p y in
      let w = joined_window S (clocks v t) p y in
      let closed = all_closed logs n Scanning tt (subst (StandAt logs n) stage (subst (StandBy logs) on have.stand)) in
      of_row (Heard p) None d n r (joined_log S t (clocks v t) n p y ∷ logs)
      (joined_after S (clocks v t) t n p y logs stage)
      (one_more logs d.made.deliveries r.node (slot_of p) w (joined_log S t (clocks v t) n p y) have.each known closed have.delivered have.past
      (λ y there. by_then t y (closed y there) (have.past y there), have.apart) refl
      (record { slot = refl; last = refl; open_ = refl; node = refl; frame = refl; rank = refl }))

  -- the open window is found, and it stays open
  pub open_first : (d : Device) (n : Node) (j : ℕ) (w : Window) → d.power ≡ PowerOn n → n.stage ≡ InWindow j w → HasWindows s v K t d
      → IsOpenFirst d.made.windows n j w
  open_first d n j w on stage have = subst (StandAt d.made.windows n) stage (subst (StandBy d.made.windows) on have.stand)

  pub first_known : (d : Device) (n : Node) (j : ℕ) (w : Window) → HasWindows s v K t d → (is : IsOpenFirst d.made.windows n j w) → K is.first
  first_known d n j w have is = have.each is.first (subst (λ (l : List WindowLog). Contains l is.first) (sym is.is) (contains_head is.first is.earlier))

  goes_on : (e : Event) (x : Option Sending) (d : Device) (n : Node) (j : ℕ) (w u : Window) (r : Stepped)
      → n.stage ≡ InWindow j w → r.node ≡ record n { stage = InWindow j u } → r.delivery ≡ None
      → (is : IsOpenFirst d.made.windows n j w) → HasWindows s v K t d
      → K (record (is.first) { happenings = is.first.happenings ++ happening t e x; last = u })
      → HasWindows s v K t (device_after_row (clocks v) (setup_of s v) t e x d n r)
  goes_on e x d n j w u r stage node nothing is have known =
      let logs = d.made.windows in
      let first = is.first in
      let later : WindowLog = record first { happenings = first.happenings ++ happening t e x; last = u } in
      let m : Node = record n { stage = InWindow j u } in
      let before : d.made.deliveries ≡ delivered_in S is.earlier =
      have.delivered ∙ ap (delivered_in S) is.is ∙ ap (λ (l : List Delivery). delivered_in S is.earlier ++ l)
      (nothing_yet S first first.closed is.now.open_) ∙ append-nil (delivered_in S is.earlier) in
      let all = one_more is.earlier d.made.deliveries m j u later
      (λ y there. have.each y (subst (λ (l : List WindowLog). Contains l y) (sym is.is) (contains_tail first is.earlier y there))) known is.closed before
      (λ y there. have.past y (subst (λ (l : List WindowLog). Contains l y) (sym is.is) (contains_tail first is.earlier y there)))
      (subst CloseBeforeNext is.is have.apart) refl
      (record {
        slot = is.now.slot;
        last = refl;
        open_ = is.now.open_;
        node = ap (λ (k : Node). record k { stage = InWindow j u }) is.now.node
            ∙ ap (λ (i : ℕ). record (first.after) { stage = InWindow i u }) (sym is.now.slot);
        frame = is.now.frame;
        rank = is.now.rank;
      }) in
      of_row e x d n r (later ∷ is.earlier)
      (gone_on_after S (clocks v t) t e x n j w u r.node logs first is.earlier stage (ap (λ (k : Node). k.stage) node) is.is)
      (same_windows (later ∷ is.earlier) (later ∷ is.earlier) (d.made.deliveries ++ []) (d.made.deliveries ++ option_to_list r.delivery) (PowerOn m)
      (PowerOn r.node)
      refl (ap (λ (o : Option Delivery). d.made.deliveries ++ option_to_list o) nothing) (ap PowerOn node) all)

  pub hears_in : (d : Device) (n : Node) (j : ℕ) (w : Window) (p : List ℕ) → n.stage ≡ InWindow j w → (is : IsOpenFirst d.made.windows n j w)
      → HasWindows s v K t d → K (heard_log (setup_of s v) t (clocks v t) n w p is.first)
      → HasWindows s v K t (device_after_row (clocks v) (setup_of s v) t (Heard p) None d n (window_hears (setup_of s v) n (clocks v t) j w p))
  hears_in d n j w p stage is have known =
      goes_on (Heard p) None d n j w (hearing s.profile (rank_of n.core.tune) (clocks v t) w p)
      (window_hears S n (clocks v t) j w p) stage refl refl is have known

  pub sends_in : (d : Device) (y : Sending) (n : Node) (j : ℕ) (w : Window) → n.stage ≡ InWindow j w → (is : IsOpenFirst d.made.windows n j w)
      → HasWindows s v K t d → K (sent_log t w y.packet is.first)
      → HasWindows s v K t (device_after_row (clocks v) (setup_of s v) t Sent (Some y) (record d { sending = None }) n (sends n j w))
  sends_in d y n j w stage is have known =
      goes_on Sent (Some y) (record d { sending = None }) n j w (record w { flood = after_sent w.flood }) (sends n j w) stage refl refl is
      (record { each = have.each; past = have.past; apart = have.apart; stand = have.stand; delivered = have.delivered }) known

  pub closes_in : (d : Device) (n : Node) (j : ℕ) (w : Window) → n.stage ≡ InWindow j w → (is : IsOpenFirst d.made.windows n j w)
      → HasWindows s v K t d → K (log_after_closing (setup_of s v) t n j w is.first)
      → HasWindows s v K t (device_after_row (clocks v) (setup_of s v) t Alarm None (record d { alarm = None }) n (window_closes (setup_of s v) n j w))
  closes_in d n j w stage is have known =
      let logs = d.made.windows in
      let first = is.first in
      let r = window_closes S n j w in
      let later : WindowLog = log_after_closing S t n j w first in
      let rests = rests_then (j + 1) (nat_lt j w.last) in
      let before : d.made.deliveries ≡ delivered_in S is.earlier =
      have.delivered ∙ ap (delivered_in S) is.is ∙ ap (λ (l : List Delivery). delivered_in S is.earlier ++ l)
      (nothing_yet S first first.closed is.now.open_) ∙ append-nil (delivered_in S is.earlier) in
      let closed : AreClosed (later ∷ is.earlier) = λ y there. elim (contains_cases later is.earlier y there) [
        | inl same ↦ subst (λ (z : WindowLog). is_some z.closed ≡ true) same refl
        | inr old ↦ is.closed y old
      ] in
      of_row Alarm None (record d { alarm = None }) n r (later ∷ is.earlier)
      (closed_after S (clocks v t) t n j w logs first is.earlier stage is.is)
      (record {
        each = λ y there. elim (contains_cases later is.earlier y there) [
          | inl same ↦ subst K same known
          | inr old ↦ have.each y (subst (λ (l : List WindowLog). Contains l y) (sym is.is) (contains_tail first is.earlier y old))
        ];
        past = λ y there. elim (contains_cases later is.earlier y there) [
          | inl same ↦ subst (ClosedBy t) same (omega arith)
          | inr old ↦ have.past y (subst (λ (l : List WindowLog). Contains l y) (sym is.is) (contains_tail first is.earlier y old))
        ];
        apart = subst CloseBeforeNext is.is have.apart;
        stand = stand_there (later ∷ is.earlier) r.node r.node.stage rests closed;
        delivered =
            ap (λ (l : List Delivery). l ++ option_to_list r.delivery) before
            ∙ ap (λ (o : Option Delivery). delivered_in S is.earlier ++ option_to_list o) (delivers_same S n j w first is.now);
      })
