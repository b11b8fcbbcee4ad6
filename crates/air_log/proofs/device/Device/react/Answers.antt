use Rattle.std.proofs.Common.{sym, ap, ◌∙◌, arith, ◌<◌, ◌^◌}
use Rattle.bus_rules.specs.Cores.{Setup}
use Rattle.tick_clock.proofs.Readings.{read_in_range}
use Rattle.node_core.proofs.KeptBoots.{boot_kept}
use Rattle.air_log.proofs.TimelyOrders.{timely}
use Rattle.air_log.proofs.DeviceEvents.{followed_boot, followed_zero, timely_orders}
use Rattle.air_log.proofs.device.Device.react.Goals as goal

pub invariant_of-self : goal.invariant_of-self
invariant_of-self g c =
    let same = sym c.handle.ensures.setup in
    let old = c.self.inside.core in
    let row = c.handle.ensures.row in
    let reads = read_in_range (g.C.DriftClock.readings c.args.clock.now) c.args.t (g.met.C.DriftClock.keeps_drift_law c.args.clock.now) c.requires.early in
    let now : c.new.result < 2 ^ 47 = omega (arith, c.new.ensures, reads) in
    let kept = boot_kept old.setup old.node c.new.result c.args.event.now in
    record {
      id = c.self.invariant.id ∙ ap (λ (s : Setup). s.id) same;
      numbers = c.self.invariant.numbers ∙ ap (λ (s : Setup). s.profile) same;
      boot = λ on. followed_boot _ _ _ _ _ kept row ∙ c.self.invariant.boot on;
      early = followed_zero _ _ _ _ _ c.self.invariant.early (timely old.setup old.node c.self.invariant.early c.new.result c.args.event.now now) row;
    }

pub returns-then-self-clause-timely : goal.returns-then-self-clause-timely
returns-then-self-clause-timely g c =
    let clock = g.C.DriftClock.readings c.args.clock.now in
    let reads = read_in_range clock c.args.t (g.met.C.DriftClock.keeps_drift_law c.args.clock.now) c.requires.early in
    let d = c.self.inside in
    let orders = timely_orders clock c.args.t c.args.event.now d.core.setup d.on d.boots d.core.node c.self.invariant.early (omega (arith, reads)) in
    rw (← c.self.view_is) orders
