-- From class to class within a tick.
use Rattle.std.proofs.Common.{◌≡◌, ℕ, zero, suc, ◌+◌, ◌<◌, ◌≤◌, List, false, Some, None, Option, option_map, inl, inr, refl, sym, ◌∙◌, ap, subst, arith}
use Rattle.std.proofs.Common.{true≢false}
use Rattle.std.specs.Option.{IfSome}
use Rattle.std.proofs.lemmas.Bool.{ne_eqb, eq-eqb}
use Rattle.std.proofs.lemmas.Option.{same_Some}
use Rattle.tick_clock.specs.Clocks.{IsClock}
use Rattle.radio_model.specs.declared.sending.Sending.{Sending}
use Rattle.event_calendar.specs.declared.class.Class.{Class}
use Rattle.event_calendar.specs.declared.class.Class.TheVariants.{SendingEnd, Alarm, SendingStart}
use Rattle.event_calendar.specs.Orders.{tick_of, rank}
use Rattle.scenario_text.specs.ScenarioParts.{ScenarioParts}
use Rattle.scenario_text.specs.ScenarioFacts.{IsSoundScenario}
use Rattle.bus_rules.specs.Cores.{Setup}
use Rattle.air_log.specs.Devices.{Device, OrderedPacket}
use Rattle.scenario_text.specs.Setups.{setup_of}
use Rattle.air_log.specs.Trails.{Reception, run_end, device_after_script, device_after_receptions, device_after_end, alarm_is_due, alarmed}
use Rattle.air_log.specs.Trails.{device_after_start, before_alarms, before_start, before_tick}
use Rattle.air_log.specs.AlarmRuns.{IsAlarmRun}
use Rattle.air_log.specs.QuietTicks.{ends_at, ordered_starts_at}
use Rattle.air_log.specs.Ahead.{IsAhead}
use Rattle.air_log.proofs.AlarmLoop.{no_alarm_left}
use Rattle.air_log.proofs.AlarmRuns.{alarms_are_run}
use Rattle.air_log.proofs.NextDue.{is_ahead}
use Rattle.world_engine.specs.Moments.{At, IsAtMoment, after_point}
use Rattle.world_engine.specs.Runs.{standing}
use Rattle.air_log.proofs.OwnSendings.{none_ends, none_ends_later}
use Rattle.air_log.proofs.QuietTicks.{no_end, no_start, no_alarm}
use Rattle.air_log.specs.DeviceStates.{sending_end}
use Rattle.air_log.specs.DeviceStates.{tick_of_ordered as start_of}

-- no order of the class is at the tick
abbrev pub IsOver : Class → ℕ → Device → Type 0
IsOver c t d = tick_of c (standing d) ≡ Some t → ⊥

no_end_at : (t : ℕ) (x : Option Sending) → (option_map sending_end x ≡ Some t → ⊥) → ends_at t x ≡ false
no_end_at t None none = refl
no_end_at t (Some x) none = ne_eqb x.end t (λ is. none (ap (λ (n : ℕ). Some n) is))

no_alarm_at : (t : ℕ) (a : Option ℕ) → (a ≡ Some t → ⊥) → alarm_is_due t a ≡ false
no_alarm_at t None none = refl
no_alarm_at t (Some tick) none = ne_eqb tick t (λ is. none (ap (λ (n : ℕ). Some n) is))

no_start_at : (t : ℕ) (o : Option OrderedPacket) → (option_map start_of o ≡ Some t → ⊥) → ordered_starts_at t o ≡ false
no_start_at t None none = refl
no_start_at t (Some o) none = ne_eqb o.tick t (λ is. none (ap (λ (n : ℕ). Some n) is))

pub end_at : (t : ℕ) (x : Option Sending) → ends_at t x ≡ false → option_map sending_end x ≡ Some t → ⊥
end_at t None none is = cc
end_at t (Some x) none is = true≢false (sym (eq-eqb x.end t (same_Some x.end t is)) ∙ none)

pub alarm_at : (t : ℕ) (a : Option ℕ) → alarm_is_due t a ≡ false → a ≡ Some t → ⊥
alarm_at t None none is = cc
alarm_at t (Some tick) none is = true≢false (sym (eq-eqb tick t (same_Some tick t is)) ∙ none)

-- where nothing is due, a phase changes nothing
pub ends_nothing : (clock : ℕ → ℕ) (s : Setup) (t : ℕ) (d : Device) → IsOver SendingEnd t d → device_after_end clock s t d ≡ d
ends_nothing clock s t d over = no_end clock s t d d.sending (no_end_at t d.sending over)

pub alarms_nothing : (clock : ℕ → ℕ) (s : Setup) (t : ℕ) (d : Device) → alarm_is_due t d.alarm ≡ false → alarmed clock s t d ≡ d
alarms_nothing clock s t d none = no_alarm clock s t (clock t + 300) d (alarm_is_due t d.alarm) none

pub starts_nothing : (s : Setup) (t : ℕ) (d : Device) → IsOver SendingStart t d → device_after_start s t d ≡ d
starts_nothing s t d over = no_start s t d d.ordered (no_start_at t d.ordered over)

-- what lies ahead does not be before
pub not_yet : (c : Class) (t u : ℕ) (d : Device) → u < t → IsAhead t d → IsOver c u d
not_yet SendingEnd t u d less ahead is = by d.sending ahead.sending is
  where
    by : (x : Option Sending) → IfSome x (λ y. t ≤ y.end) → option_map sending_end x ≡ Some u → ⊥
    by None after at = cc
    by (Some x) after at = omega (arith, less, after, same_Some x.end u at)
not_yet Alarm t u d less ahead is = by d.alarm ahead.alarm is
  where
    by : (a : Option ℕ) → IfSome a (λ tick. t ≤ tick) → a ≡ Some u → ⊥
    by None after at = cc
    by (Some tick) after at = omega (arith, less, after, same_Some tick u at)
not_yet SendingStart t u d less ahead is = by d.ordered ahead.ordered is
  where
    by : (o : Option OrderedPacket) → IfSome o (λ x. t ≤ x.tick) → option_map start_of o ≡ Some u → ⊥
    by None after at = cc
    by (Some o) after at = omega (arith, less, after, same_Some o.tick u at)

module _ (s : ScenarioParts) (v : ℕ) (clock : ℕ → ℕ) (hs : List Reception) (t : ℕ) where
  abbrev before : Device
  before = before_tick s v clock hs t

  whole_tick : before_tick s v clock hs (suc t) ≡ device_after_start (setup_of s v) t (before_start s v clock hs t before)
  unfolding before_tick
  whole_tick = refl

  -- once no order of the class is at the tick, all of the class has happened
  pub passed_class : (c : Class) (d : Device) → IsAtMoment s clock hs v t (At c) d → IsOver c t d → d ≡ after_point s v clock hs t c
  passed_class SendingEnd d (inl at) over = sym (ends_nothing clock (setup_of s v) t d over) ∙ ap (device_after_end clock (setup_of s v) t) at
  passed_class Alarm d (inl at) over = sym (alarms_nothing clock (setup_of s v) t d (no_alarm_at t d.alarm over)) ∙ ap (alarmed clock (setup_of s v) t) at
  passed_class SendingStart d (inl at) over = sym (starts_nothing (setup_of s v) t d over) ∙ ap (device_after_start (setup_of s v) t) at ∙ sym whole_tick
  passed_class SendingEnd d (inr at) over = at
  passed_class Alarm d (inr at) over = at
  passed_class SendingStart d (inr at) over = at

  -- to a later class
  pub to_class : (c k : Class) (d : Device) → rank c ≤ rank k → IsAtMoment s clock hs v t (At c) d → ((j : Class) → rank j < rank k → IsOver j t d)
      → IsAtMoment s clock hs v t (At k) d
  to_class SendingEnd SendingEnd d up at over = at
  to_class SendingEnd Alarm d up at over = inl (passed_class SendingEnd d at (over SendingEnd (omega arith)))
  to_class SendingEnd SendingStart d up at over =
      let alarms : IsAtMoment s clock hs v t (At Alarm) d = inl (passed_class SendingEnd d at (over SendingEnd (omega arith))) in
      inl (passed_class Alarm d alarms (over Alarm (omega arith)))
  to_class Alarm SendingEnd d up at over = absurd (omega (arith, up))
  to_class Alarm Alarm d up at over = at
  to_class Alarm SendingStart d up at over = inl (passed_class Alarm d at (over Alarm (omega arith)))
  to_class SendingStart SendingEnd d up at over = absurd (omega (arith, up))
  to_class SendingStart Alarm d up at over = absurd (omega (arith, up))
  to_class SendingStart SendingStart d up at over = at

  -- to the end of the tick
  pub passed_tick : (c : Class) (d : Device) → IsAtMoment s clock hs v t (At c) d → ((j : Class) → IsOver j t d) → d ≡ before_tick s v clock hs (suc t)
  passed_tick SendingEnd d at over = passed_class SendingStart d (to_class SendingEnd SendingStart d (omega arith) at (λ j less. over j)) (over SendingStart)
  passed_tick Alarm d at over = passed_class SendingStart d (to_class Alarm SendingStart d (omega arith) at (λ j less. over j)) (over SendingStart)
  passed_tick SendingStart d at over = passed_class SendingStart d at (over SendingStart)

  module _ (sound : IsSoundScenario s) (drifts : IsClock clock) (within : t < run_end s) where
    none_due : alarm_is_due t (before_start s v clock hs t before).alarm ≡ false
    none_due = no_alarm_left s v clock hs t sound drifts (omega (arith, within))

    after_tick : (c : Class) → IsOver c t (before_tick s v clock hs (suc t))
    after_tick c = not_yet c (suc t) t (before_tick s v clock hs (suc t)) (omega arith) (is_ahead s v clock hs sound drifts (suc t) (omega (arith, within)))

    -- the orders of earlier classes are over
    pub earlier_over : (c j : Class) (d : Device) → rank j < rank c → IsAtMoment s clock hs v t (At c) d → IsOver j t d
    earlier_over SendingEnd SendingEnd d less at = absurd (omega (arith, less))
    earlier_over SendingEnd Alarm d less at = absurd (omega (arith, less))
    earlier_over SendingEnd SendingStart d less at = absurd (omega (arith, less))
    earlier_over Alarm SendingEnd d less (inl at) = subst (IsOver SendingEnd t) (sym at)
        (end_at t _ (none_ends clock (setup_of s v) t (device_after_receptions clock (setup_of s v) t hs (device_after_script s v clock t before))))
    earlier_over Alarm SendingEnd d less (inr at) =
        let e = before_alarms s v clock hs t before in
        subst (IsOver SendingEnd t) (sym at)
        (end_at t _ (none_ends_later clock (setup_of s v) t e
        (none_ends clock (setup_of s v) t (device_after_receptions clock (setup_of s v) t hs (device_after_script s v clock t before)))))
    earlier_over Alarm Alarm d less at = absurd (omega (arith, less))
    earlier_over Alarm SendingStart d less at = absurd (omega (arith, less))
    earlier_over SendingStart SendingEnd d less (inl at) =
        let e = before_alarms s v clock hs t before in
        subst (IsOver SendingEnd t) (sym at)
        (end_at t _ (none_ends_later clock (setup_of s v) t e
        (none_ends clock (setup_of s v) t (device_after_receptions clock (setup_of s v) t hs (device_after_script s v clock t before)))))
    earlier_over SendingStart Alarm d less (inl at) = subst (IsOver Alarm t) (sym at) (alarm_at t _ none_due)
    earlier_over SendingStart SendingStart d less at = absurd (omega (arith, less))
    earlier_over SendingStart SendingEnd d less (inr at) = subst (IsOver SendingEnd t) (sym at) (after_tick SendingEnd)
    earlier_over SendingStart Alarm d less (inr at) = subst (IsOver Alarm t) (sym at) (after_tick Alarm)

    -- the alarms of the tick
    pub alarm_run : (d : Device) → IsAtMoment s clock hs v t (At Alarm) d → IsAlarmRun clock (setup_of s v) t d (alarmed clock (setup_of s v) t d)
    alarm_run d (inl at) =
        subst (λ (e : Device). IsAlarmRun clock (setup_of s v) t e (alarmed clock (setup_of s v) t e)) (sym at)
        (alarms_are_run s v clock hs t sound drifts (omega (arith, within)))
    alarm_run d (inr at) =
        let e = before_start s v clock hs t before in
        let none = none_due in
        subst (λ (e : Device). IsAlarmRun clock (setup_of s v) t e (alarmed clock (setup_of s v) t e)) (sym at)
        (record {
          count = zero;
          is = alarms_nothing clock (setup_of s v) t e none;
          due = λ j less. absurd (omega (arith, less));
          over = subst (λ (x : Device). alarm_is_due t x.alarm ≡ false) (sym (alarms_nothing clock (setup_of s v) t e none)) none;
        })

    pub alarmed_at : (d : Device) → IsAtMoment s clock hs v t (At Alarm) d → IsAtMoment s clock hs v t (At Alarm) (alarmed clock (setup_of s v) t d)
    alarmed_at d (inl at) = inr (ap (alarmed clock (setup_of s v) t) at)
    alarmed_at d (inr at) = inr (ap (alarmed clock (setup_of s v) t) at ∙ alarms_nothing clock (setup_of s v) t (before_start s v clock hs t before) none_due)

    -- the start of the ordered transmission
    pub begun_at : (d : Device) → IsAtMoment s clock hs v t (At SendingStart) d
        → IsAtMoment s clock hs v t (At SendingStart) (device_after_start (setup_of s v) t d)
    begun_at d (inl at) = inr (ap (device_after_start (setup_of s v) t) at ∙ sym whole_tick)
    begun_at d (inr at) =
        inr (ap (device_after_start (setup_of s v) t) at ∙ starts_nothing (setup_of s v) t (before_tick s v clock hs (suc t)) (after_tick SendingStart))
