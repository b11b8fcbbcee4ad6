use Rattle.std.proofs.Common.{◌≡◌, ◌≤◌, ◌^◌, ◌++◌, List, [], All, Option, fold, sym, ◌∙◌, ap, subst, option_to_list}
use Rattle.std.specs.Prelude.{option_copied}
use Rattle.lwb_base.specs.Orders.{Told}
use Rattle.lwb_base.specs.declared.order.Order.{Order}
use Rattle.bus_rules.specs.declared.delivery.Delivery.{Delivery}
use Rattle.node_core.specs.Rows.{orders_by}
use Rattle.air_log.specs.Devices.{obeyed}
use Rattle.air_log.specs.DeviceStates.{DeviceState, whole, row_of, made_by, state_after_event, IsTimely}
use Rattle.air_log.specs.DeviceChanges.{DeviceIsShown, DeviceGoes}
use Rattle.air_log.proofs.DeviceNotified.{event_state, few_counted, delivery_listed, event_shown, event_setup, event_goes, delivers}
use Rattle.air_log.proofs.EndsNoticed.{packet_noticed}
use Rattle.air_log.proofs.device.Device.notify.Given.{Over}
use Rattle.air_log.proofs.device.Device.notify.Goals as goal
use Rattle.air_log.proofs.device.Device.notify.Goals.{After-log_delivery}

-- the device after the event, but for its orders
after : (g : Over) (c : After-log_delivery g) → c.log_delivery.new.self
    ≡ state_after_event (g.C.DriftClock.readings c.args.clock.now) c.args.t c.args.notice.now.event.now (option_copied c.args.notice.now.ended) c.args.self.now
after g c =
    let e = c.args.notice.now.event.now in
    let ended = option_copied c.args.notice.now.ended in
    event_state (g.C.DriftClock.readings c.args.clock.now) c.args.t e ended c.args.self.now c.react.new.self c.count.new.self c.log_delivery.new.self
    c.is_in_window-before.result c.is_alarm-by_alarm.result (option_copied c.sent.result) c.react.ensures.after c.count.ensures.after
    c.log_delivery.ensures.device c.is_in_window-before.ensures c.is_alarm-by_alarm.ensures
    (c.sent.ensures ∙ packet_noticed e ended c.args.notice.now.fits)

few : (g : Over) (c : After-log_delivery g) → (state_after_event (g.C.DriftClock.readings c.args.clock.now) c.args.t c.args.notice.now.event.now
    (option_copied c.args.notice.now.ended) c.args.self.now).windows.last ≤ 2 ^ 28
few g c =
    let ended = option_copied c.args.notice.now.ended in
    few_counted (g.C.DriftClock.readings c.args.clock.now) c.args.t c.args.notice.now.event.now ended c.args.self.now c.react.new.self c.count.new.self
    c.log_delivery.new.self c.is_in_window-before.result c.is_alarm-by_alarm.result (option_copied c.sent.result) c.react.ensures.after
    c.count.ensures.after c.log_delivery.ensures.device (after g c) c.count.ensures.small

pub obey_all-requires-clause-shown : goal.obey_all-requires-clause-shown
obey_all-requires-clause-shown g c =
    let at = (goal.at.obey_all-requires-clause-shown g c).After-log_delivery in
    subst (DeviceIsShown c.args.t) (sym (after g at))
    (event_shown (g.C.DriftClock.readings c.args.clock.now) c.args.t c.args.notice.now.event.now (option_copied c.args.notice.now.ended) c.args.self.now
    (few g at) c.requires.shown)

pub obey_all-requires-clause-timely : goal.obey_all-requires-clause-timely
obey_all-requires-clause-timely g c =
    let row = row_of (g.C.DriftClock.readings c.args.clock.now) c.args.t c.args.notice.now.event.now c.args.self.now in
    subst (λ (l : List Order). All IsTimely l)
    (sym (c.react.ensures.orders.given ∙ ap (λ (r : Told). r.given ++ orders_by row) c.clear.ensures)) c.react.ensures.timely

pub returns-clause-goes : goal.returns-clause-goes
returns-clause-goes g c =
    let at = (goal.at.returns-clause-goes g c).After-log_delivery in
    let t = c.args.t in
    let clock = g.C.DriftClock.readings c.args.clock.now in
    let e = c.args.notice.now.event.now in
    let ended = option_copied c.args.notice.now.ended in
    let old = c.args.self.now in
    let row = row_of clock t e old in
    let ordered = c.react.ensures.orders.given ∙ ap (λ (r : Told). r.given ++ orders_by row) c.clear.ensures in
    let goes = subst (λ (s : DeviceState). DeviceGoes t (λ q d. fold (obeyed clock q.id t) d (orders_by row)) s c.obey_all.new.self [])
    (after g at)
    (subst (λ (l : List Order). DeviceGoes t (λ q d. fold (obeyed clock q.id t) d l) c.log_delivery.new.self c.obey_all.new.self []) ordered
    c.obey_all.ensures) in (
      delivers clock t e ended old,
      c.in_ok-log_delivery.ensures.deliveries ∙ ap (λ (o : Option Delivery). c.args.deliveries.now.items ++ option_to_list o)
          (delivery_listed clock t e ended old c.react.new.self c.count.new.self c.log_delivery.new.self c.is_in_window-before.result
          c.is_alarm-by_alarm.result (option_copied c.sent.result) c.react.ensures.after c.count.ensures.after c.log_delivery.ensures.device),
      event_goes clock t e ended old (few g at) c.requires.shown.shows.taken
          (λ x made. c.react.ensures.whole x made ended ∙ ap (λ (s : DeviceState). fold (obeyed clock old.setup.id t)
          (whole s x (made_by t e ended old.power row made)) (orders_by row)) c.react.ensures.after)
          c.obey_all.new.self goes,
    )

pub returns-clause-setup : goal.returns-clause-setup
returns-clause-setup g c =
    c.obey_all.ensures.setup ∙ ap (λ (s : DeviceState). s.setup) (after g (goal.at.returns-clause-setup g c).After-log_delivery)
    ∙ event_setup (g.C.DriftClock.readings c.args.clock.now) c.args.t c.args.notice.now.event.now (option_copied c.args.notice.now.ended) c.args.self.now

pub returns-in_err-log_delivery-clause-setup : goal.returns-in_err-log_delivery-clause-setup
returns-in_err-log_delivery-clause-setup g c =
    ap (λ (s : DeviceState). s.setup) (after g (goal.at.returns-in_err-log_delivery-clause-setup g c).After-log_delivery)
    ∙ event_setup (g.C.DriftClock.readings c.args.clock.now) c.args.t c.args.notice.now.event.now (option_copied c.args.notice.now.ended) c.args.self.now
