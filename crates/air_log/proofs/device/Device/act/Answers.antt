use Rattle.std.proofs.Common.{◌≡◌, [], Some, sym, ◌∙◌, ap, subst}
use Rattle.std.proofs.lemmas.List.{append-nil}
use Rattle.bus_rules.specs.declared.act.Act.{Act}
use Rattle.bus_rules.specs.declared.act.Act.TheVariants.{On, Off}
use Rattle.bus_rules.specs.declared.act.Switch.{Switch}
use Rattle.bus_rules.proofs.Switches.{switches_on, switches_off}
use Rattle.air_log.specs.ScriptedDevices.{device_after_act}
use Rattle.air_log.specs.DeviceStates.{whole}
use Rattle.air_log.specs.DeviceChanges.{Delivers}
use Rattle.air_log.proofs.DeviceChanges.{step_goes, set_goes}
use Rattle.air_log.proofs.device.Device.act.Goals as goal

pub returns-in_ok-boot-in-Some-On-clause-goes : goal.returns-in_ok-boot-in-Some-On-clause-goes
returns-in_ok-boot-in-Some-On-clause-goes g c =
    let clock = g.C.DriftClock.readings c.args.clock.now in
    let act : c.args.line.now.act ≡ On =
    switches_on c.args.line.now.act (sym c.switch.ensures ∙ c.in-Some-On.is ∙ ap (λ (w : Switch). Some w) c.in-Some-On.field-0-is) in
    subst (λ (a : Act). Delivers c.args.t (λ q d. device_after_act clock q c.args.t d a d.power) c.args.self.now c.boot.new.self
    c.args.deliveries.now.items c.boot.new.deliveries.items) (sym act) c.in_ok-boot-in-Some-On.ensures.goes

pub returns-in-Some-Off-clause-goes : goal.returns-in-Some-Off-clause-goes
returns-in-Some-Off-clause-goes g c =
    let clock = g.C.DriftClock.readings c.args.clock.now in
    let t = c.args.t in
    let old = c.args.self.now in
    let x = c.switch_off in
    let act : c.args.line.now.act ≡ Off =
    switches_off c.args.line.now.act (sym c.switch.ensures ∙ c.in-Some-Off.is ∙ ap (λ (w : Switch). Some w) c.in-Some-Off.field-0-is) in (
      [],
      sym (append-nil c.args.deliveries.now.items),
      step_goes t (λ q d. device_after_act clock q t d c.args.line.now.act d.power) old x.new.self (record {
        comes = λ y made on. ap (λ (a : Act). device_after_act clock old.setup t (whole old y made) a old.power) act ∙ x.ensures.whole clock t y made on;
        node = x.ensures.node;
        busy = x.ensures.busy;
      }),
    )

pub returns-in-None-clause-goes : goal.returns-in-None-clause-goes
returns-in-None-clause-goes g c =
    let clock = g.C.DriftClock.readings c.args.clock.now in
    let t = c.args.t in
    let x = c.tell in (
      [],
      sym (append-nil c.args.deliveries.now.items),
      set_goes t (λ q d. device_after_act clock q t d c.args.line.now.act d.power) c.args.self.now x.new.self (x.ensures.whole clock t) x.ensures.node
          x.ensures.channel x.ensures.busy,
    )
