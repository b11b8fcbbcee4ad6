-- What each row keeps of a node and its alarm, and that the rows of an alarm go on in frames and slots.
use Rattle.std.proofs.Common.{◌≡◌, ℕ, ◌+◌, ◌*◌, ◌/◌, ◌^◌, ◌<◌, ◌≤◌, max, List, ◌==◌, nat_lt, if◌then◌else◌, fold, Option, Some, None, refl, subst, arith}
use Rattle.std.proofs.Common.{mul-le-mul_left, mul-le-mul_right, add-mul, le-div_iff_mul-le, div-mul-le_self, ltb-true, inl, inr, IfSome}
use Rattle.std.proofs.lemmas.Bool.{cond_both}
use Rattle.lwb_base.specs.declared.limits.TheConstants.{MOST_FRAMES}
use Rattle.lwb_base.specs.Profile.{Numbers, IsProfile}
use Rattle.lwb_base.specs.Messages.{Schedule}
use Rattle.lwb_base.specs.declared.event.Event.TheVariants.{Boot}
use Rattle.lwb_base.specs.declared.order.Order.{Order}
use Rattle.lwb_base.specs.declared.order.Order.TheVariants.{Listen, Off, SendAt, Alarm as AlarmAt}
use Rattle.tick_clock.specs.Clocks.{IsClock, due}
use Rattle.tick_clock.proofs.Readings.{read_in_range}
use Rattle.tick_clock.proofs.DueTicks.{due_iff}
use Rattle.bus_rules.specs.declared.tune.Tune.{Tune}
use Rattle.bus_rules.specs.declared.tune.Tune.TheVariants.{Scan, Hold, Host}
use Rattle.bus_rules.specs.Plans.{last_slot}
use Rattle.bus_rules.specs.Tuning.{rank_of}
use Rattle.bus_rules.specs.Cores.{Setup, frame_ended, begins_host}
use Rattle.bus_rules.specs.Slots.{Message, ScheduleOf, DataOf, RequestOf, part_of}
use Rattle.glossy_relay.specs.Relaying.{slot_of}
use Rattle.lwb_member.specs.Said.{message_of}
use Rattle.node_core.specs.declared.stage.Stage.{Stage}
use Rattle.node_core.specs.declared.stage.Stage.TheVariants.{Idle, Scanning, AwaitFrame, AwaitSlot, InWindow}
use Rattle.node_core.specs.Windows.{Window}
use Rattle.node_core.specs.Nodes.{Node, frame_alarm, stopped_frame}
use Rattle.node_core.specs.Rows.{Stepped, row, stage_for, orders_for, zero_for, frame_alarms, window_opens}
use Rattle.node_core.specs.Rows.{window_closes, joins, scanner_hears, accepted_in, at_alarm, at_heard, at_sent, sends}
use Rattle.node_core.specs.Rows.{node_after, orders_by}
use Rattle.air_log.proofs.SmallPlans.{read_few}
use Rattle.air_log.proofs.SmallCores.{IsSmall, booted_small, frame_small, opened_small, closed_small, accepted_few}

-- frames are long, and rounds lie in them
pub record IsRoomy (p : Numbers) : Type 0 where
  pub long : 2 ^ 23 ≤ p.frame
  pub short : MOST_FRAMES * p.frame ≤ 2 ^ 45
  pub end : p.end ≤ p.frame
  pub lead : p.lead ≤ p.frame
  pub few : p.contend ≤ 4

pub roomy : (p : Numbers) → IsProfile p → IsRoomy p
roomy p (inl is) = rw is (record { long = omega arith; short = omega arith; end = omega arith; lead = omega arith; few = omega arith })
roomy p (inr is) = rw is.0 (record { long = omega arith; short = omega arith; end = omega arith; lead = omega arith; few = is.1 })

abbrev pub InRange : Stage → Type 0
InRange Idle = Unit {0}
InRange Scanning = Unit {0}
InRange AwaitFrame = Unit {0}
InRange (AwaitSlot j) = j ≤ 45
InRange (InWindow j w) = (j ≤ 45) × (w.last ≤ 45)

-- how far it is in its frame, and in all
abbrev pub place_in : Stage → ℕ
place_in Idle = 0
place_in Scanning = 127
place_in AwaitFrame = 127
place_in (AwaitSlot j) = 2 * j
place_in (InWindow j w) = 2 * j + 1

abbrev pub progress : Node → ℕ
progress n = 128 * n.frame + place_in n.stage

module _ (s : Setup) (L : ℕ → ℕ) (t : ℕ) where
  -- a node at tick t
  pub record IsGoing (n : Node) : Type 0 where
    pub small : IsSmall n.core
    pub frame : n.frame * s.profile.frame ≤ L t + s.profile.frame
    pub stage : InRange n.stage

  -- at a place at which it waits for the end of its frame its alarm is not before that
  abbrev pub Waits : ℕ → Stage → Option ℕ → Type 0
  Waits f Idle a = Unit {0}
  Waits f Scanning a = IfSome a (λ w. due L (frame_alarm s.profile f) ≤ w)
  Waits f AwaitFrame a = IfSome a (λ w. due L (frame_alarm s.profile f) ≤ w)
  Waits f (AwaitSlot j) a = Unit {0}
  Waits f (InWindow j w) a = Unit {0}

  abbrev pub alarm_by : Option ℕ → Order → Option ℕ
  alarm_by a (Listen r) = a
  alarm_by a Off = a
  alarm_by a (SendAt local packet) = a
  alarm_by a (AlarmAt local) = Some (max (due L local) t)

  abbrev pub alarm_after : Option ℕ → List Order → Option ℕ
  alarm_after a os = fold alarm_by a os

  abbrev pub Goes : Node → Option ℕ → Type 0
  Goes n a = IsGoing n × Waits n.frame n.stage a

  abbrev pub GoesBy : Node → Option ℕ → Option Stepped → Type 0
  GoesBy n a r = Goes (node_after n r) (alarm_after a (orders_by r))

  module _ (room : IsRoomy s.profile) where
    pub boot_goes : (n : Node) (a : Option ℕ) → GoesBy n a (row s n (L t) Boot)
    boot_goes n a =
        let f = (L t + s.profile.lead) / s.profile.frame in
        let less : f * s.profile.frame ≤ L t + s.profile.lead = div-mul-le_self (L t + s.profile.lead) s.profile.frame in
        let stops : stopped_frame f * s.profile.frame ≤ f * s.profile.frame = mul-le-mul_right s.profile.frame (omega arith) in
        (record { small = booted_small n.core.boot; frame = omega (arith, less, stops, room.lead); stage = tt }, omega arith)

    -- a frame alarm
    after_frame : (tune : Tune) (f z : ℕ) (a : Option ℕ)
        → InRange (stage_for tune f) × Waits f (stage_for tune f) (alarm_after a (orders_for s.profile tune f z))
    after_frame (Scan r waited) f z a = (tt, omega arith)
    after_frame (Hold r due_in) f z a =
        cond_both (due_in == f) (AwaitSlot 0) AwaitFrame (λ (x : Stage). InRange x × Waits f x (alarm_after a (orders_for s.profile (Hold r due_in) f z)))
        (λ is. (omega arith, tt)) (λ is. (tt, rw is (omega arith)))
    after_frame (Host r due_in) f z a =
        cond_both (due_in == f) (AwaitSlot 0) AwaitFrame (λ (x : Stage). InRange x × Waits f x (alarm_after a (orders_for s.profile (Host r due_in) f z)))
        (λ is. (omega arith, tt)) (λ is. (tt, rw is (omega arith)))

    frame_goes : (n : Node) (a : Option ℕ) → IsSmall n.core → n.frame * s.profile.frame ≤ L t → GoesBy n a (Some (frame_alarms s n))
    frame_goes n a small passed =
        let core = frame_ended s n.frame n.core in
        let f = stopped_frame (n.frame + 1) in
        let z = zero_for s.profile core.tune (begins_host n.core.tune core.tune) n.zero in
        let after = after_frame core.tune f z a in
        let stops : f * s.profile.frame ≤ (n.frame + 1) * s.profile.frame = mul-le-mul_right s.profile.frame (omega arith) in
        let next : (n.frame + 1) * s.profile.frame ≡ n.frame * s.profile.frame + 1 * s.profile.frame = add-mul n.frame 1 s.profile.frame in
        (record { small = frame_small s n.frame n.core room.few small; frame = omega (arith, passed, stops, next); stage = after.0 }, after.1)

    -- windows
    opens_goes : (n : Node) (j : ℕ) (a : Option ℕ) → IsSmall n.core → n.frame * s.profile.frame ≤ L t + s.profile.frame → j ≤ 45
        → GoesBy n a (Some (window_opens s n j))
    opens_goes n j a small frame few =
        (record { small = opened_small s n.frame (part_of n.core.plan j) n.core room.few small; frame = frame; stage = (few, small.0) }, tt)

    closes_goes : (n : Node) (j : ℕ) (w : Window) (a : Option ℕ) → IsSmall n.core → n.frame * s.profile.frame ≤ L t + s.profile.frame → j ≤ 45 → w.last ≤ 45
        → GoesBy n a (Some (window_closes s n j w))
    closes_goes n j w a small frame few last = (
      record { small = closed_small s n.frame w.part w.flood.initiated n.core (accepted_in w) (accepted_few w) small; frame = frame; stage = in_range },
      waits,
    )
      where
        in_range : InRange (if nat_lt j w.last then AwaitSlot (j + 1) else AwaitFrame)
        in_range = cond_both (nat_lt j w.last) (AwaitSlot (j + 1)) AwaitFrame InRange (λ is. omega (arith, ltb-true j w.last is, last)) (λ is. tt)

        waits : Waits n.frame (if nat_lt j w.last then AwaitSlot (j + 1) else AwaitFrame) (alarm_after a (orders_by (Some (window_closes s n j w))))
        waits =
            cond_both (nat_lt j w.last) (AwaitSlot (j + 1)) AwaitFrame (λ x. Waits n.frame x (alarm_after a (orders_by (Some (window_closes s n j w)))))
            (λ is. tt) (λ is. rw is (omega arith))

    -- receptions
    joins_goes : (n : Node) (a : Option ℕ) (p : List ℕ) (x : Schedule) → message_of p ≡ Some (ScheduleOf x) → IsGoing n
        → GoesBy n a (Some (joins s n (L t) p x))
    joins_goes n a p x says going =
        let read = read_few p x says in (
          record {
            small = going.small;
            frame = going.frame;
            stage = (read.1, cond_both (x.gap == 0) (last_slot x.plan) (slot_of p) (λ (l : ℕ). l ≤ 45) (λ is. read.0) (λ is. read.1));
          },
          tt,
        )

    scanner_goes : (n : Node) (a : Option ℕ) (p : List ℕ) (m : Option Message) → message_of p ≡ m → Goes n a → GoesBy n a (scanner_hears s n (L t) p m)
    scanner_goes n a p None says goes = goes
    scanner_goes n a p (Some (DataOf d)) says goes = goes
    scanner_goes n a p (Some (RequestOf r)) says goes = goes
    scanner_goes n a p (Some (ScheduleOf x)) says goes =
        cond_both (x.plan.rank == rank_of n.core.tune) (Some (joins s n (L t) p x)) None (λ r. GoesBy n a r) (λ is. joins_goes n a p x says goes.0) (λ is. goes)

    pub heard_goes : (n : Node) (a : Option ℕ) (p : List ℕ) (stage : Stage) → n.stage ≡ stage → Goes n a → GoesBy n a (at_heard s n (L t) p stage)
    heard_goes n a p Idle at goes = goes
    heard_goes n a p Scanning at goes = scanner_goes n a p (message_of p) refl goes
    heard_goes n a p AwaitFrame at goes = goes
    heard_goes n a p (AwaitSlot j) at goes = goes
    heard_goes n a p (InWindow j w) at goes =
        let range : InRange (InWindow j w) = subst InRange at goes.0.stage in
        (record { small = goes.0.small; frame = goes.0.frame; stage = range }, tt)

    pub sent_goes : (n : Node) (a : Option ℕ) (stage : Stage) → n.stage ≡ stage → Goes n a → GoesBy n a (at_sent n stage)
    sent_goes n a Idle at goes = goes
    sent_goes n a Scanning at goes = goes
    sent_goes n a AwaitFrame at goes = goes
    sent_goes n a (AwaitSlot j) at goes = goes
    sent_goes n a (InWindow j w) at goes =
        let range : InRange (InWindow j w) = subst InRange at goes.0.stage in
        cond_both w.flood.waiting (Some (sends n j w)) None (λ r. GoesBy n a r)
        (λ is. (record { small = goes.0.small; frame = goes.0.frame; stage = range }, tt)) (λ is. goes)

    -- how far a node can be
    abbrev pub most : ℕ
    most = 128 * ((L t + s.profile.frame) / s.profile.frame + 1)

    pub in_reach : (n : Node) → IsGoing n → progress n < most
    in_reach n going =
        let f : n.frame ≤ (L t + s.profile.frame) / s.profile.frame = (le-div_iff_mul-le (omega (arith, room.long))).1 going.frame in
        less n.frame ((L t + s.profile.frame) / s.profile.frame) (place_in n.stage) f (in_frame n.stage going.stage)
      where
        less : (f q place : ℕ) → f ≤ q → place ≤ 127 → 128 * f + place < 128 * (q + 1)
        less f q place order few = omega (arith, order, few)

        in_frame : (stage : Stage) → InRange stage → place_in stage ≤ 127
        in_frame Idle range = omega arith
        in_frame Scanning range = omega arith
        in_frame AwaitFrame range = omega arith
        in_frame (AwaitSlot j) range = omega arith
        in_frame (InWindow j w) range = omega (arith, range.0)

    module _ (clock : IsClock L) (early : t ≤ 2 ^ 45) where
      passed : (f : ℕ) → due L (frame_alarm s.profile f) ≤ t → f * s.profile.frame ≤ L t
      passed f less =
          let read : frame_alarm s.profile f ≤ L t = (due_iff L (frame_alarm s.profile f) t clock (omega (arith, early))).0 less in
          omega (arith, read, read_in_range L t clock early)

      few_frames : (f : ℕ) → f * s.profile.frame ≤ L t → f < 2 ^ 23
      few_frames f less =
          let times : f * 2 ^ 23 ≤ f * s.profile.frame = mul-le-mul_left f room.long in
          omega (arith, times, less, read_in_range L t clock early)

      abbrev pub Rises : Node → Stage → Option Stepped → Type 0
      Rises n Idle r = Unit {0}
      Rises n Scanning r = progress n < progress (node_after n r)
      Rises n AwaitFrame r = progress n < progress (node_after n r)
      Rises n (AwaitSlot j) r = progress n < progress (node_after n r)
      Rises n (InWindow j w) r = progress n < progress (node_after n r)

      next_frame : (n : Node) → place_in n.stage ≤ 127 → n.frame * s.profile.frame ≤ L t → progress n < progress (frame_alarms s n).node
      next_frame n place less = omega (arith, place, few_frames n.frame less)

      pub alarm_goes : (n : Node) (stage : Stage) → n.stage ≡ stage → IsGoing n → Waits n.frame stage (Some t)
          → GoesBy n None (at_alarm s n stage) × Rises n stage (at_alarm s n stage)
      alarm_goes n Idle at going fired = ((going, rw at tt), tt)
      alarm_goes n Scanning at going fired = let less = passed n.frame fired in (frame_goes n None going.small less, next_frame n (rw at (omega arith)) less)
      alarm_goes n AwaitFrame at going fired = let less = passed n.frame fired in (frame_goes n None going.small less, next_frame n (rw at (omega arith)) less)
      alarm_goes n (AwaitSlot j) at going fired =
          let range : InRange (AwaitSlot j) = subst InRange at going.stage in
          (opens_goes n j None going.small going.frame range, rw at (omega arith))
      alarm_goes n (InWindow j w) at going fired =
          let range : InRange (InWindow j w) = subst InRange at going.stage in (
            closes_goes n j w None going.small going.frame range.0 range.1,
            rw at (cond_both (nat_lt j w.last) (AwaitSlot (j + 1)) AwaitFrame (λ x. 128 * n.frame + (2 * j + 1) < 128 * n.frame + place_in x)
                (λ is. omega arith) (λ is. omega (arith, range.0))),
          )
