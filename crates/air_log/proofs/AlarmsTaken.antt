-- The alarms of a device that are due at a tick, taken one after another.
use Rattle.std.proofs.Common.{◌≡◌, ℕ, ◌+◌, ◌≤◌, List, [], ◌++◌, true, Option, None, refl, sym, ◌∙◌, ap, subst, arith, add-one, inl, inr}
use Rattle.std.proofs.lemmas.Bool.{cases_order}
use Rattle.lwb_base.specs.declared.event.Event.TheVariants.{Alarm}
use Rattle.bus_rules.specs.Cores.{Setup}
use Rattle.bus_rules.specs.declared.delivery.Delivery.{Delivery}
use Rattle.radio_model.specs.OnAir.{Sending}
use Rattle.air_log.specs.Devices.{Device, Made, event}
use Rattle.air_log.specs.Trails.{alarm_is_due, alarm_limit, alarmed}
use Rattle.air_log.specs.AlarmRuns.{after_alarms, IsAlarmRun}
use Rattle.air_log.specs.DeviceStates.{DeviceState, whole}
use Rattle.air_log.specs.Tunings.{Tunings}
use Rattle.air_log.specs.DeviceChanges.{DeviceShows, DeviceGoes, DeviceIsEnding, AreTaken, TakesAlarms}
use Rattle.air_log.proofs.AlarmRuns.{runs_agree, are_fewer}
use Rattle.air_log.proofs.DeviceChanges.{goes_nothing, goes_then, set_goes}

-- an alarm that is due is not set any more
pub silent_goes : (t : ℕ) (old new : DeviceState) → new ≡ record old { alarm = None } → DeviceGoes t (λ q d. record d { alarm = None }) old new []
silent_goes t old new is =
    set_goes t (λ q d. record d { alarm = None }) old new (λ x made. ap (λ (s : DeviceState). whole s x made) (sym is))
    (record {
      setup = ap (λ (s : DeviceState). s.setup) is;
      delivery = ap (λ (s : DeviceState). s.delivery) is;
      windows = ap (λ (s : DeviceState). s.windows) is;
    })
    (ap (λ (s : DeviceState). s.channel) is) (ap (λ (s : DeviceState). s.busy_until) is)

module _ (clock : ℕ → ℕ) (t : ℕ) where
  pub none_taken : (s : DeviceState) → AreTaken clock t 0 s s []
  none_taken s = record { goes = goes_nothing t s; due = λ q x made d sh j less. absurd (omega (arith, less)) }

  module _ (k : ℕ) (old now : DeviceState) (ds : List Delivery) (taken : AreTaken clock t k old now ds) where
    alarm_shown : (q : Setup) (x : Tunings) (made : Made) (d : Device) → DeviceShows q t old x made d → now.alarm ≡ (after_alarms clock q t k d).alarm
    alarm_shown q x made d sh = ap (λ (e : Device). e.alarm) (taken.goes.shows q x made d sh).1.is

    pub one_more_taken : (silent last : DeviceState) (es : List Delivery) → alarm_is_due t now.alarm ≡ true
        → silent ≡ record now { alarm = None }
        → (let none : Option Sending = None in DeviceGoes t (λ q d. event clock q t Alarm none d) silent last es)
        → AreTaken clock t (k + 1) old last (ds ++ es)
    one_more_taken silent last es due is rest = record {
      goes = subst (λ (n : ℕ). DeviceGoes t (λ q d. after_alarms clock q t n d) old last (ds ++ es)) (sym (add-one k))
          (goes_then t (λ q d. after_alarms clock q t k d) (λ q d. let none : Option Sending = None in event clock q t Alarm none (record d { alarm = None }))
          old now last ds es taken.goes
          (goes_then t (λ q d. record d { alarm = None }) (λ q d. let none : Option Sending = None in event clock q t Alarm none d) now silent last [] es
          (silent_goes t now silent is) rest));
      due = λ q x made d sh j less. elim (cases_order j k) [
        | inl is ↦ ap (λ (n : ℕ). alarm_is_due t (after_alarms clock q t n d).alarm) is ∙ ap (alarm_is_due t) (sym (alarm_shown q x made d sh)) ∙ due
        | inr (inl before) ↦ taken.due q x made d sh j before
        | inr (inr behind) ↦ absurd (omega (arith, less, behind))
      ];
    }

    pub few_taken : DeviceIsEnding clock t old → k ≤ alarm_limit clock t
    few_taken ending = are_fewer clock ending.setup t ending.device k ending.ends (taken.due ending.setup ending.tunings ending.made ending.device ending.shows)

-- where they end, the device is that of the trail after them
pub all_taken : (clock : ℕ → ℕ) (t : ℕ) (old new : DeviceState) (before after : List Delivery)
    → (takes : TakesAlarms clock t old new before after) → (q : Setup) (x : Tunings) (made : Made) (d : Device) → DeviceShows q t old x made d
    → IsAlarmRun clock q t d (alarmed clock q t d) → after_alarms clock q t takes.count d ≡ alarmed clock q t d
all_taken clock t old new before after takes q x made d sh runs =
    runs_agree clock q t d (after_alarms clock q t takes.count d) (alarmed clock q t d)
    (record {
      count = takes.count;
      is = refl;
      due = takes.taken.due q x made d sh;
      over = ap (alarm_is_due t) (sym (alarm_shown clock t takes.count old new takes.deliveries takes.taken q x made d sh)) ∙ takes.over;
    })
    runs
