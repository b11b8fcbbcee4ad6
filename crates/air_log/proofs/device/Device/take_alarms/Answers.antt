use Rattle.std.proofs.Common.{◌≡◌, [], Bool, true, false, if◌then◌else◌, None, sym, ◌∙◌, ap, subst, arith, refl, List, ◌++◌}
use Rattle.std.proofs.lemmas.List.{append-nil, append_assoc}
use Rattle.tick_clock.proofs.Readings.{read_in_range}
use Rattle.bus_rules.specs.declared.delivery.Delivery.{Delivery}
use Rattle.air_log.specs.Trails.{alarm_is_due}
use Rattle.air_log.specs.DeviceStates.{DeviceState}
use Rattle.air_log.specs.DeviceChanges.{AreTaken}
use Rattle.air_log.proofs.DeviceChanges.{shown_still}
use Rattle.air_log.proofs.AlarmsTaken.{none_taken, one_more_taken, few_taken, silent_goes}
use Rattle.air_log.proofs.device.Device.take_alarms.Goals as goal

pub loop-init : goal.loop-init
loop-init g c = ([], sym (append-nil c.args.deliveries.now.items), none_taken (g.C.DriftClock.readings c.args.clock.now) c.args.t c.args.self.now, refl)

pub returns-then-not-take_alarm-clause-goes : goal.returns-then-not-take_alarm-clause-goes
returns-then-not-take_alarm-clause-goes g c =
    let i = c.loop.invariant in
    let over : alarm_is_due c.args.t c.loop.self.alarm ≡ false = sym c.take_alarm.ensures.due ∙ c.if-not-take_alarm.true in
    let same : c.take_alarm.new.self ≡ c.loop.self =
    c.take_alarm.ensures.after ∙ ap (λ (b : Bool). record (c.loop.self) { alarm = if b then None else c.loop.self.alarm }) c.if-not-take_alarm.true in
    record {
      count = c.loop.counter;
      deliveries = i.0;
      listed = i.1;
      taken = subst (λ (s : DeviceState). AreTaken (g.C.DriftClock.readings c.args.clock.now) c.args.t c.loop.counter c.args.self.now s i.0)
          (sym same) i.2;
      over = ap (λ (s : DeviceState). alarm_is_due c.args.t s.alarm) same ∙ over;
    }

pub notify-requires-clause-shown : goal.notify-requires-clause-shown
notify-requires-clause-shown g c =
    let first = c.requires.ends in
    let now = shown_still _ _ _ _ _ c.loop.invariant.2.goes
    (record { setup = first.setup; tunings = first.tunings; made = first.made; device = first.device; shows = first.shows }) in
    let is : c.take_alarm.new.self ≡ record (c.loop.self) { alarm = None } =
    c.take_alarm.ensures.after ∙ ap (λ (b : Bool). record (c.loop.self) { alarm = if b then None else c.loop.self.alarm }) c.if-not-take_alarm.false in
    shown_still _ _ _ _ _ (silent_goes c.args.t c.loop.self c.take_alarm.new.self is) now

pub loop-preserved : goal.loop-preserved
loop-preserved g c =
    let clock = g.C.DriftClock.readings c.args.clock.now in
    let i = c.loop.invariant in
    let told = c.in_ok-notify.ensures.goes in
    let is : c.take_alarm.new.self ≡ record (c.loop.self) { alarm = None } =
    c.take_alarm.ensures.after ∙ ap (λ (b : Bool). record (c.loop.self) { alarm = if b then None else c.loop.self.alarm }) c.if-not-take_alarm.false in
    let due : alarm_is_due c.args.t c.loop.self.alarm ≡ true = sym c.take_alarm.ensures.due ∙ c.if-not-take_alarm.false in (
      i.0 ++ told.0,
      told.1 ∙ ap (λ (l : List Delivery). l ++ told.0) i.1 ∙ append_assoc c.args.deliveries.now.items i.0 told.0,
      one_more_taken clock c.args.t c.loop.counter c.args.self.now c.loop.self i.0 i.2 c.take_alarm.new.self c.notify.new.self told.0 due is told.2,
      c.notify.ensures.setup ∙ ap (λ (s : DeviceState). s.setup) is ∙ i.3,
    )

pub unreachable-requires : goal.unreachable-requires
unreachable-requires g c =
    let clock = g.C.DriftClock.readings c.args.clock.now in
    let reads = read_in_range clock c.args.t (g.met.C.DriftClock.keeps_drift_law c.args.clock.now) c.requires.early in
    let few = few_taken clock c.args.t c.loop.counter c.args.self.now c.loop.self c.loop.invariant.0 c.loop.invariant.2 c.requires.ends in
    omega (arith, reads, few, c.loop-test.false)

pub returns-then-not-take_alarm-clause-setup : goal.returns-then-not-take_alarm-clause-setup
returns-then-not-take_alarm-clause-setup g c =
    ap (λ (s : DeviceState). s.setup) c.take_alarm.ensures.after ∙ c.loop.invariant.3

pub returns-in_err-notify-clause-setup : goal.returns-in_err-notify-clause-setup
returns-in_err-notify-clause-setup g c =
    c.notify.ensures.setup ∙ ap (λ (s : DeviceState). s.setup) c.take_alarm.ensures.after ∙ c.loop.invariant.3
