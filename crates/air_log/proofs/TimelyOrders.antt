-- A node whose zero is not past the end of times goes on so, and no time that it orders is.
use Rattle.std.proofs.Common.{ℕ, ◌+◌, ◌*◌, ◌/◌, ◌^◌, ◌<◌, List, [], ◌∷◌, ◌++◌, ◌==◌, nat_lt, if◌then◌else◌, Some, None, Option, arith, All}
use Rattle.std.proofs.lemmas.Bool.{cond_both}
use Rattle.std.proofs.lemmas.List.Elements.{All-cons, All-nil}
use Rattle.lwb_base.specs.Profile.{Numbers}
use Rattle.lwb_base.specs.declared.event.Event.{Event}
use Rattle.lwb_base.specs.declared.event.Event.TheVariants.{Boot, Alarm, Heard, Sent}
use Rattle.lwb_base.specs.declared.order.Order.TheVariants.{Listen, Off, SendAt, Alarm as AlarmAt}
use Rattle.glossy_relay.specs.declared.flood.Reply.{Reply}
use Rattle.glossy_relay.specs.declared.flood.Reply.TheVariants.{Relay, Keep, Ignore}
use Rattle.time_reference.specs.Reference.{stopped}
use Rattle.bus_rules.specs.declared.tune.Tune.{Tune}
use Rattle.bus_rules.specs.declared.tune.Tune.TheVariants.{Scan, Hold, Host}
use Rattle.bus_rules.specs.Cores.{Core, Setup, frame_ended, begins_host}
use Rattle.bus_rules.specs.Slots.{Message, ScheduleOf, DataOf, RequestOf}
use Rattle.bus_rules.specs.Tuning.{rank_of}
use Rattle.node_core.specs.Nodes.{Node, frame_alarm, closes_at, opens_at, stopped_frame}
use Rattle.node_core.specs.Rows.{Stepped, row, at_alarm, at_heard, at_sent, scanner_hears, joins, sends, accepted_in}
use Rattle.node_core.specs.Rows.{orders_for, waits, zero_for, initiating_orders, relaying, zero_by, zero_next}
use Rattle.node_core.specs.declared.stage.Stage.{Stage}
use Rattle.node_core.specs.declared.stage.Stage.TheVariants.{Idle, Scanning, AwaitFrame, AwaitSlot, InWindow}
use Rattle.air_log.specs.DeviceStates.{IsTimely}

abbrev pub IsOfTime : Option Stepped → Type 0
IsOfTime None = Unit {0}
IsOfTime (Some r) = (r.node.zero < 2 ^ 47) × All IsTimely r.orders

stops : (x : ℕ) → stopped x < 2 ^ 47
stops x = omega arith

none : All IsTimely []
none = All-nil IsTimely

alarm_at : (x : ℕ) → x < 2 ^ 47 → All IsTimely (AlarmAt x ∷ [])
alarm_at x small = All-cons IsTimely (AlarmAt x) [] small none

by_tune : (p : Numbers) (tune : Tune) (f z : ℕ) → z < 2 ^ 47 → All IsTimely (orders_for p tune f z)
by_tune p tune f z small = of tune
  where
    waiting : (due : ℕ) → All IsTimely (waits p due f z)
    waiting due =
        let alarm = if due == f then z else frame_alarm p f in
        All-cons IsTimely Off (AlarmAt alarm ∷ []) tt
        (alarm_at alarm (cond_both (due == f) z (frame_alarm p f) (λ (x : ℕ). x < 2 ^ 47) (λ is. small) (λ is. stops _)))

    of : (tune : Tune) → All IsTimely (orders_for p tune f z)
    of (Scan r waited) = All-cons IsTimely (Listen r) (AlarmAt (frame_alarm p f) ∷ []) tt (alarm_at (frame_alarm p f) (stops _))
    of (Hold r due) = waiting due
    of (Host r due) = waiting due

begun_zero : (p : Numbers) (tune : Tune) (began : Option ℕ) (z : ℕ) → z < 2 ^ 47 → zero_for p tune began z < 2 ^ 47
begun_zero p (Scan r waited) began z small = small
begun_zero p (Hold r due) began z small = small
begun_zero p (Host r due) None z small = small
begun_zero p (Host r due) (Some rank) z small = stops _

closed_zero : (p : Numbers) (z : ℕ) (reference : Option ℕ) (m : Option Message) → z < 2 ^ 47 → zero_by p z reference m < 2 ^ 47
closed_zero p z None m small = small
closed_zero p z (Some reference) None small = small
closed_zero p z (Some reference) (Some (DataOf d)) small = small
closed_zero p z (Some reference) (Some (RequestOf a)) small = small
closed_zero p z (Some reference) (Some (ScheduleOf x)) small = stops _

next_zero : (p : Numbers) (z : ℕ) (tune : Tune) → z < 2 ^ 47 → zero_next p z tune < 2 ^ 47
next_zero p z (Scan r waited) small = small
next_zero p z (Hold r due) small = small
next_zero p z (Host r due) small = stops _

-- a first transmission, or a relay, and then an alarm
said_then : (p : Numbers) (z j x : ℕ) (m : Option Message) → x < 2 ^ 47 → All IsTimely (initiating_orders p z j m ++ AlarmAt x ∷ [])
said_then p z j x None small = alarm_at x small
said_then p z j x (Some m) small = All-cons IsTimely (SendAt _ _) (AlarmAt x ∷ []) (stops _) (alarm_at x small)

relayed : (p : Numbers) (now : ℕ) (r : Reply) → All IsTimely (relaying p now r)
relayed p now (Relay q) = All-cons IsTimely (SendAt _ q) [] (stops _) none
relayed p now Keep = none
relayed p now Ignore = none

relayed_then : (p : Numbers) (now x : ℕ) (r : Reply) → x < 2 ^ 47 → All IsTimely (relaying p now r ++ AlarmAt x ∷ [])
relayed_then p now x (Relay q) small = All-cons IsTimely (SendAt _ q) (AlarmAt x ∷ []) (stops _) (alarm_at x small)
relayed_then p now x Keep small = alarm_at x small
relayed_then p now x Ignore small = alarm_at x small

module _ (s : Setup) (n : Node) (small : n.zero < 2 ^ 47) where
  at_frame_end : (core : Core) (f : ℕ) → (zero_for s.profile core.tune (begins_host n.core.tune core.tune) n.zero < 2 ^ 47)
      × All IsTimely (orders_for s.profile core.tune f (zero_for s.profile core.tune (begins_host n.core.tune core.tune) n.zero))
  at_frame_end core f =
      let zero = begun_zero s.profile core.tune (begins_host n.core.tune core.tune) n.zero small in
      (zero, by_tune s.profile core.tune f _ zero)

  by_alarm : (stage : Stage) → IsOfTime (at_alarm s n stage)
  by_alarm Idle = tt
  by_alarm Scanning = at_frame_end (frame_ended s n.frame n.core) (stopped_frame (n.frame + 1))
  by_alarm AwaitFrame = at_frame_end (frame_ended s n.frame n.core) (stopped_frame (n.frame + 1))
  by_alarm (AwaitSlot j) = (small, All-cons IsTimely (Listen _) _ tt (said_then s.profile n.zero j (closes_at s.profile n.zero j) _ (stops _)))
  by_alarm (InWindow j w) =
      let z = zero_by s.profile n.zero w.reference (accepted_in w) in
      let next = opens_at s.profile z (j + 1) in
      let end = frame_alarm s.profile n.frame in
      let alarm = if nat_lt j w.last then next else end in
      let zero = closed_zero s.profile n.zero w.reference (accepted_in w) small in (
        cond_both (nat_lt j w.last) _ _ (λ (z : ℕ). z < 2 ^ 47) (λ is. zero) (λ is. next_zero s.profile _ _ zero),
        All-cons IsTimely Off (AlarmAt alarm ∷ []) tt (alarm_at alarm
            (cond_both (nat_lt j w.last) next end (λ (x : ℕ). x < 2 ^ 47) (λ is. stops (z + (j + 1) * s.profile.slot))
            (λ is. stops (n.frame * s.profile.frame + s.profile.end)))),
      )

  by_schedule : (now : ℕ) (p : List ℕ) (m : Option Message) → now < 2 ^ 47 → IsOfTime (scanner_hears s n now p m)
  by_schedule now p None early = tt
  by_schedule now p (Some (DataOf d)) early = tt
  by_schedule now p (Some (RequestOf a)) early = tt
  by_schedule now p (Some (ScheduleOf x)) early =
      cond_both (x.plan.rank == rank_of n.core.tune) (Some (joins s n now p x)) None IsOfTime
      (λ is. (omega arith, relayed_then s.profile now (closes_at s.profile (joins s n now p x).node.zero _) _ (stops _)))
      (λ is. tt)

  by_hearing : (now : ℕ) (p : List ℕ) (stage : Stage) → now < 2 ^ 47 → IsOfTime (at_heard s n now p stage)
  by_hearing now p Idle early = tt
  by_hearing now p Scanning early = by_schedule now p _ early
  by_hearing now p AwaitFrame early = tt
  by_hearing now p (AwaitSlot j) early = tt
  by_hearing now p (InWindow j w) early = (small, relayed s.profile now _)

  by_sending : (stage : Stage) → IsOfTime (at_sent n stage)
  by_sending Idle = tt
  by_sending Scanning = tt
  by_sending AwaitFrame = tt
  by_sending (AwaitSlot j) = tt
  by_sending (InWindow j w) =
      cond_both w.flood.waiting (Some (sends n j w)) None IsOfTime
      (λ is. (small, cond_both (w.flood.sent + 1 == w.flood.limit) (Off ∷ []) [] (All IsTimely) (λ last. All-cons IsTimely Off [] tt none) (λ last. none)))
      (λ is. tt)

  pub timely : (now : ℕ) (e : Event) → now < 2 ^ 47 → IsOfTime (row s n now e)
  timely now Boot early =
      let f = stopped_frame ((now + s.profile.lead) / s.profile.frame) in (
        omega arith,
        All-cons IsTimely (Listen 0) (AlarmAt (frame_alarm s.profile f) ∷ []) tt
            (alarm_at (frame_alarm s.profile f) (stops (f * s.profile.frame + s.profile.end))),
      )
  timely now Alarm early = by_alarm n.stage
  timely now (Heard p) early = by_hearing now p n.stage early
  timely now Sent early = by_sending n.stage
