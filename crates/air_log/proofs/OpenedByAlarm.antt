-- How many windows opened by their alarm, against how far a node is: an event opens at most one, and a node that opens it goes on.
use Rattle.std.proofs.Common.{◌≡◌, ◌⊎◌, inl, inr, ℕ, ◌+◌, ◌*◌, ◌^◌, ◌<◌, ◌≤◌, List, [], ◌∷◌, ◌==◌}
use Rattle.std.proofs.Common.{nat_lt, if◌then◌else◌, fold, Option, Some, None, refl, ap, arith}
use Rattle.std.proofs.lemmas.Bool.{cond_both}
use Rattle.lwb_base.specs.declared.event.Event.{Event}
use Rattle.lwb_base.specs.declared.event.Event.TheVariants.{Alarm, Heard, Sent}
use Rattle.lwb_base.specs.declared.order.Order.{Order}
use Rattle.lwb_base.specs.declared.order.Order.TheVariants.{Listen, Off as Silent, SendAt, Alarm as AlarmAt}
use Rattle.radio_model.specs.OnAir.{Tuning}
use Rattle.radio_model.specs.declared.sending.Sending.{Sending}
use Rattle.bus_rules.specs.Cores.{Setup}
use Rattle.bus_rules.specs.Slots.{Message, ScheduleOf, DataOf, RequestOf}
use Rattle.bus_rules.specs.Tuning.{rank_of}
use Rattle.lwb_member.specs.Said.{message_of}
use Rattle.node_core.specs.Nodes.{Node}
use Rattle.node_core.specs.Rows.{row, joins, scanner_hears, sends, at_alarm, at_heard, at_sent, boots}
use Rattle.node_core.specs.Rows.{node_after, orders_by}
use Rattle.node_core.specs.Windows.{Window}
use Rattle.node_core.specs.declared.stage.Stage.{Stage}
use Rattle.node_core.specs.declared.stage.Stage.TheVariants.{Idle, Scanning, AwaitFrame, AwaitSlot, InWindow}
use Rattle.node_core.proofs.KeptBoots.{boot_kept}
use Rattle.air_log.specs.Devices.{Device, Power, PowerOff, PowerOn, obeyed, moved, stepped, silenced, tunes, listens_to}
use Rattle.air_log.specs.WindowLogs.{WindowLog, is_alarm, gone_on, logs_after_closing, window_of_stage, windows_after, windows_by}
use Rattle.air_log.proofs.AlarmRows.{InRange}
use Rattle.air_log.proofs.KeptPower.{boot_after}

-- how many of these opened by their alarm
abbrev pub by_alarm : List WindowLog → ℕ
by_alarm [] = 0
by_alarm (w ∷ ws) = (if w.by_alarm then 1 else 0) + by_alarm ws

-- how far a node is in its frame, and in all: this never goes back while it is on
abbrev pub place_spent : Stage → ℕ
place_spent Idle = 0
place_spent Scanning = 0
place_spent AwaitFrame = 127
place_spent (AwaitSlot j) = 2 * j
place_spent (InWindow j w) = 2 * j + 1

abbrev pub spent : Node → ℕ
spent n = 128 * n.frame + place_spent n.stage

-- this many windows were opened by their alarm
abbrev pub FewBy : Power → ℕ → Type 0
FewBy (PowerOff boots) k = k ≤ boots * 2 ^ 20
FewBy (PowerOn n) k = k + 2 ^ 20 ≤ n.core.boot * 2 ^ 20 + spent n

abbrev pub Few : Device → Type 0
Few d = FewBy d.power (by_alarm d.made.windows)

-- one event
gone_same : (t : ℕ) (e : Event) (x : Option Sending) (u : Window) (logs : List WindowLog) → by_alarm (gone_on t e x u logs) ≡ by_alarm logs
gone_same t e x u [] = refl
gone_same t e x u (w ∷ ws) = refl

closed_same : (t : ℕ) (m : Node) (logs : List WindowLog) → by_alarm (logs_after_closing t m logs) ≡ by_alarm logs
closed_same t m [] = refl
closed_same t m (w ∷ ws) = refl

-- of a window that was opened by this event
abbrev pub opens : Event → ℕ
opens e = if is_alarm e then 1 else 0

pub one_at_most : (t : ℕ) (e : Event) (x : Option Sending) (n m : Node) (from to : Stage) (logs : List WindowLog)
    → by_alarm (windows_after t e x n m from to logs) ≤ opens e + by_alarm logs
one_at_most t e x n m from to logs = by_windows (window_of_stage from) (window_of_stage to)
  where
    by_windows : (old new : Option (ℕ × Window)) → by_alarm (windows_by t e x n m old new logs) ≤ opens e + by_alarm logs
    by_windows (Some old) (Some new) = omega (arith, gone_same t e x new.1 logs)
    by_windows (Some old) None = omega (arith, closed_same t m logs)
    by_windows None (Some new) = omega arith
    by_windows None None = omega arith

-- power and windows through orders
abbrev Has : Power → List WindowLog → Device → Type 0
Has p ws d = (d.power ≡ p) × (d.made.windows ≡ ws)

on_has : (p : Power) (ws : List WindowLog) (rank t : ℕ) (d : Device) (es : List Tuning) → Has p ws d → Has p ws (tunes rank t d es)
on_has p ws rank t d [] has = has
on_has p ws rank t d (e ∷ es) has = cond_both _ _ _ (Has p ws) (λ same. has) (λ other. has)

order_has : (clock : ℕ → ℕ) (v t : ℕ) (p : Power) (ws : List WindowLog) (d : Device) (o : Order) → Has p ws d → Has p ws (obeyed clock v t d o)
order_has clock v t p ws d (Listen rank) has =
    let x = silenced v t d in
    cond_both (listens_to rank d.listening) d (tunes rank t x x.made.tuned) (Has p ws) (λ on. has) (λ off. on_has p ws rank t x x.made.tuned has)
order_has clock v t p ws d Silent has = has
order_has clock v t p ws d (SendAt local packet) has = has
order_has clock v t p ws d (AlarmAt local) has = has

orders_have : (clock : ℕ → ℕ) (v t : ℕ) (p : Power) (ws : List WindowLog) (os : List Order) (d : Device) → Has p ws d → Has p ws (fold (obeyed clock v t) d os)
orders_have clock v t p ws [] d has = has
orders_have clock v t p ws (o ∷ os) d has = orders_have clock v t p ws os (obeyed clock v t d o) (order_has clock v t p ws d o has)

few_if : (p : Power) (ws : List WindowLog) (d : Device) → Has p ws d → FewBy p (by_alarm ws) → Few d
few_if p ws d has few = rw (has.0, has.1) few

module _ (s : Setup) (L : ℕ → ℕ) (t : ℕ) where
  -- a row that opens no more windows than it goes on
  pub row_few : (e : Event) (x : Option Sending) (d : Device) (n : Node)
      → (let m = node_after n (row s n (L t) e) in
      by_alarm (windows_after t e x n m n.stage m.stage d.made.windows) + spent n ≤ by_alarm d.made.windows + spent m)
      → FewBy (PowerOn n) (by_alarm d.made.windows) → Few (stepped L s t e x d n)
  row_few e x d n goes few =
      let r = row s n (L t) e in
      let m = node_after n r in
      let ws = windows_after t e x n m n.stage m.stage d.made.windows in
      let boot : m.core.boot ≡ n.core.boot = boot_after n r (boot_kept s n (L t) e) in
      let times : m.core.boot * 2 ^ 20 ≡ n.core.boot * 2 ^ 20 = ap (λ (k : ℕ). k * 2 ^ 20) boot in
      few_if (PowerOn m) ws (stepped L s t e x d n) (orders_have L s.id t (PowerOn m) ws (orders_by r) (moved t e x d n r) (refl, refl))
      (omega (arith, goes, few, times))

  -- receptions
  scanner_spent : (n : Node) (p : List ℕ) (m : Option Message) → n.stage ≡ Scanning → spent n ≤ spent (node_after n (scanner_hears s n (L t) p m))
  scanner_spent n p None at = omega arith
  scanner_spent n p (Some (DataOf d)) at = omega arith
  scanner_spent n p (Some (RequestOf r)) at = omega arith
  scanner_spent n p (Some (ScheduleOf x)) at =
      cond_both (x.plan.rank == rank_of n.core.tune) (Some (joins s n (L t) p x)) None (λ r. spent n ≤ spent (node_after n r)) (λ is. rw at (omega arith))
      (λ is. omega arith)

  heard_spent : (n : Node) (p : List ℕ) (stage : Stage) → n.stage ≡ stage → spent n ≤ spent (node_after n (at_heard s n (L t) p stage))
  heard_spent n p Idle at = omega arith
  heard_spent n p Scanning at = scanner_spent n p (message_of p) at
  heard_spent n p AwaitFrame at = omega arith
  heard_spent n p (AwaitSlot j) at = omega arith
  heard_spent n p (InWindow j w) at = rw at (omega arith)

  sent_spent : (n : Node) (stage : Stage) → n.stage ≡ stage → spent n ≤ spent (node_after n (at_sent n stage))
  sent_spent n Idle at = omega arith
  sent_spent n Scanning at = omega arith
  sent_spent n AwaitFrame at = omega arith
  sent_spent n (AwaitSlot j) at = omega arith
  sent_spent n (InWindow j w) at =
      cond_both w.flood.waiting (Some (sends n j w)) None (λ r. spent n ≤ spent (node_after n r)) (λ is. rw at (omega arith)) (λ is. omega arith)

  pub heard_few : (p : List ℕ) (d : Device) (n : Node) → FewBy (PowerOn n) (by_alarm d.made.windows) → Few (stepped L s t (Heard p) None d n)
  heard_few p d n few =
      let m = node_after n (row s n (L t) (Heard p)) in
      row_few (Heard p) None d n (omega (arith, one_at_most t (Heard p) None n m n.stage m.stage d.made.windows, heard_spent n p n.stage refl)) few

  pub sent_few : (x : Option Sending) (d : Device) (n : Node) → FewBy (PowerOn n) (by_alarm d.made.windows) → Few (stepped L s t Sent x d n)
  sent_few x d n few =
      let m = node_after n (row s n (L t) Sent) in
      row_few Sent x d n (omega (arith, one_at_most t Sent x n m n.stage m.stage d.made.windows, sent_spent n n.stage refl)) few

  -- alarms
  alarm_spent : (n : Node) (stage : Stage) → n.stage ≡ stage → InRange stage → n.frame < 2 ^ 23
      → (stage ≡ Idle) ⊎ (spent n + 1 ≤ spent (node_after n (at_alarm s n stage)))
  alarm_spent n Idle at range small = inl refl
  alarm_spent n Scanning at range small = inr (rw at (omega (arith, small)))
  alarm_spent n AwaitFrame at range small = inr (rw at (omega (arith, small)))
  alarm_spent n (AwaitSlot j) at range small = inr (rw at (omega arith))
  alarm_spent n (InWindow j w) at range small =
      inr (rw at (cond_both (nat_lt j w.last) (AwaitSlot (j + 1)) AwaitFrame (λ x. 128 * n.frame + (2 * j + 1) + 1 ≤ 128 * n.frame + place_spent x)
      (λ is. omega arith) (λ is. omega (arith, range.0))))

  pub alarm_few : (d : Device) (n : Node) → InRange n.stage → n.frame < 2 ^ 23 → FewBy (PowerOn n) (by_alarm d.made.windows)
      → Few (stepped L s t Alarm None d n)
  alarm_few d n range small few =
      let m = node_after n (row s n (L t) Alarm) in
      row_few Alarm None d n
      (elim (alarm_spent n n.stage refl range small) [
        | inl idle ↦ rw idle (omega arith)
        | inr rises ↦ omega (arith, one_at_most t Alarm None n m n.stage m.stage d.made.windows, rises)
      ])
      few
