use Rattle.std.proofs.Common.{[], Option, Some, None, sym, ap, subst, ℕ}
use Rattle.lwb_base.specs.declared.order.Order.{Order}
use Rattle.air_log.specs.Devices.{obeyed}
use Rattle.air_log.specs.DeviceStates.{DeviceState}
use Rattle.air_log.specs.DeviceChanges.{DeviceGoes}
use Rattle.air_log.specs.EventOrders.{order_of}
use Rattle.air_log.proofs.DeviceOrders.{listen_goes, off_goes}
use Rattle.air_log.proofs.device.Device.obey.Goals as goal

pub returns-in-Listen : goal.returns-in-Listen
returns-in-Listen g c =
    let clock = g.C.DriftClock.readings c.args.clock.now in
    let t = c.args.t in
    let old = c.args.self.now in
    let rank = c.in-Listen.rank in
    subst (λ (s : DeviceState). DeviceGoes t (λ q d. obeyed clock q.id t d (order_of c.args.order)) old s [])
    (ap (λ (s : DeviceState). record s { channel = Some rank }) (sym c.self.view_is))
    (subst (λ (o : Order). DeviceGoes t (λ q d. obeyed clock q.id t d o) old (record old { channel = Some rank }) []) (sym (ap order_of c.in-Listen.is))
    (listen_goes clock t rank old))

pub returns-in-Off : goal.returns-in-Off
returns-in-Off g c =
    let clock = g.C.DriftClock.readings c.args.clock.now in
    let t = c.args.t in
    let old = c.args.self.now in
    let none : Option ℕ = None in
    subst (λ (s : DeviceState). DeviceGoes t (λ q d. obeyed clock q.id t d (order_of c.args.order)) old s [])
    (ap (λ (s : DeviceState). record s { channel = none }) (sym c.self-in-Off.view_is))
    (subst (λ (o : Order). DeviceGoes t (λ q d. obeyed clock q.id t d o) old (record old { channel = none }) []) (sym (ap order_of c.in-Off.is))
    (off_goes clock t old))
