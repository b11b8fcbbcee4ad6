use Rattle.std.proofs.Common.{◌≡◌, [], Bool, if◌then◌else◌, None, refl, sym, ◌∙◌, ap, subst}
use Rattle.std.proofs.lemmas.List.{append-nil}
use Rattle.std.proofs.lemmas.Result.{on_ok_weaker}
use Rattle.bus_rules.specs.declared.act.Act.TheVariants.{On}
use Rattle.lwb_base.specs.declared.event.Event.TheVariants.{Boot}
use Rattle.air_log.specs.Devices.{Made, event}
use Rattle.air_log.specs.ScriptedDevices.{device_after_act}
use Rattle.air_log.specs.DeviceStates.{DeviceState, whole}
use Rattle.air_log.specs.Tunings.{Tunings}
use Rattle.air_log.specs.DeviceChanges.{DeviceGoes}
use Rattle.air_log.proofs.DeviceChanges.{set_goes}
use Rattle.air_log.proofs.DeviceScript.{boot_shown, boot_goes}
use Rattle.air_log.proofs.device.Device.boot.Goals as goal

pub returns-then-not-switch_on-clause-goes : goal.returns-then-not-switch_on-clause-goes
returns-then-not-switch_on-clause-goes g c =
    let t = c.args.t in
    let clock = g.C.DriftClock.readings c.args.clock.now in
    let old = c.args.self.now in
    let x = c.switch_on.new.self in
    let on : DeviceState = record old { core = x.core; power = x.power; delivery = None } in
    let same : x ≡ old = c.switch_on.ensures.after ∙ ap (λ (b : Bool). if b then on else old) c.if-not-switch_on.true in (
      [],
      sym (append-nil c.args.deliveries.now.items),
      subst (λ (s : DeviceState). DeviceGoes t (λ q d. device_after_act clock q t d On d.power) old s []) (sym same)
          (set_goes t (λ q d. device_after_act clock q t d On d.power) old old
          (λ y made. c.switch_on.ensures.whole clock t y made
          ∙ ap (λ (b : Bool). if b then event clock old.setup t Boot None (whole x y made) else whole x y made) c.if-not-switch_on.true
          ∙ ap (λ (s : DeviceState). whole s y made) same)
          (record { setup = refl; delivery = refl; windows = refl }) refl refl),
    )

pub notify-requires-clause-shown : goal.notify-requires-clause-shown
notify-requires-clause-shown g c =
    let old = c.args.self.now in
    let x = c.switch_on.new.self in
    let on : DeviceState = record old { core = x.core; power = x.power; delivery = None } in
    let is : x ≡ on = c.switch_on.ensures.after ∙ ap (λ (b : Bool). if b then on else old) c.if-not-switch_on.false in
    boot_shown (g.C.DriftClock.readings c.args.clock.now) c.args.t old x c.requires.shown.shows.taken is c.requires.shown

pub returns-clause-goes : goal.returns-clause-goes
returns-clause-goes g c =
    let t = c.args.t in
    let clock = g.C.DriftClock.readings c.args.clock.now in
    let old = c.args.self.now in
    let x = c.switch_on.new.self in
    let on : DeviceState = record old { core = x.core; power = x.power; delivery = None } in
    let is : x ≡ on = c.switch_on.ensures.after ∙ ap (λ (b : Bool). if b then on else old) c.if-not-switch_on.false in
    let boots : (y : Tunings) (made : Made) → device_after_act clock old.setup t (whole old y made) On old.power
    ≡ event clock old.setup t Boot None (whole x y made) =
    λ y made. c.switch_on.ensures.whole clock t y made
    ∙ ap (λ (b : Bool). if b then event clock old.setup t Boot None (whole x y made) else whole x y made) c.if-not-switch_on.false in
    on_ok_weaker c.notify.result (λ told. (
      told.0,
      told.1,
      boot_goes clock t old x c.requires.shown.shows.taken is c.notify.new.self told.0 boots told.2,
    ))
    c.notify.ensures.goes
