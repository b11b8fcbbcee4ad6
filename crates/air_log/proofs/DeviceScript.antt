-- What an act of a script line is to a device.
use Rattle.std.proofs.Common.{◌≡◌, ℕ, List, [], None, sym, ◌∙◌, ap}
use Rattle.lwb_base.specs.declared.event.Event.TheVariants.{Boot}
use Rattle.bus_rules.specs.Cores.{Setup}
use Rattle.bus_rules.specs.declared.act.Act.TheVariants.{On}
use Rattle.bus_rules.specs.declared.delivery.Delivery.{Delivery}
use Rattle.air_log.specs.Devices.{Device, Made, event}
use Rattle.air_log.specs.ScriptedDevices.{device_after_act}
use Rattle.air_log.specs.DeviceStates.{DeviceState, whole}
use Rattle.air_log.specs.Tunings.{Tunings}
use Rattle.air_log.specs.DeviceChanges.{DeviceIsShown, DeviceGoes}
use Rattle.air_log.proofs.DeviceChanges.{set_goes, goes_then, goes_as, same_shown, shown_still}

-- power comes on, and with it the boot is an event
module _ (clock : ℕ → ℕ) (t : ℕ) (old mid : DeviceState) (taken : old.delivery ≡ None)
    (changed : mid ≡ record old { core = mid.core; power = mid.power; delivery = None }) where
  turned_goes : DeviceGoes t (λ q d. record d { power = mid.power }) old mid []
  turned_goes =
      set_goes t (λ q d. record d { power = mid.power }) old mid (λ x made. ap (λ (s : DeviceState). whole s x made) (sym changed))
      (record {
        setup = ap (λ (s : DeviceState). s.setup) changed;
        delivery = ap (λ (s : DeviceState). s.delivery) changed ∙ sym taken;
        windows = ap (λ (s : DeviceState). s.windows) changed;
      })
      (ap (λ (s : DeviceState). s.channel) changed) (ap (λ (s : DeviceState). s.busy_until) changed)

  pub boot_shown : DeviceIsShown t old → DeviceIsShown t mid
  boot_shown = shown_still t (λ q d. record d { power = mid.power }) old mid [] turned_goes

  pub boot_goes : (new : DeviceState) (ds : List Delivery)
      → ((x : Tunings) (made : Made) → device_after_act clock old.setup t (whole old x made) On old.power
      ≡ event clock old.setup t Boot None (whole mid x made))
      → DeviceGoes t (λ q d. event clock q t Boot None d) mid new ds
      → DeviceGoes t (λ q d. device_after_act clock q t d On d.power) old new ds
  boot_goes new ds boots goes =
      let on : Setup → Device → Device = λ q d. event clock q t Boot None (record d { power = mid.power }) in
      let act : Setup → Device → Device = λ q d. device_after_act clock q t d On d.power in
      goes_as t on act old new ds
      (same_shown t on act old
      (λ x made. ap (λ (s : DeviceState). event clock old.setup t Boot None (whole s x made)) (sym changed) ∙ sym (boots x made)))
      (goes_then t (λ q d. record d { power = mid.power }) (λ q d. event clock q t Boot None d) old mid new [] ds turned_goes goes)
