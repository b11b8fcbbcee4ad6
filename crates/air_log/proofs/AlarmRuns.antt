-- The alarms of a tick are those that are due one after another, until none is.
use Rattle.std.proofs.Common.{◌≡◌, ℕ, zero, suc, ◌<◌, ◌≤◌, List, Bool, true, false, refl, ◌∙◌, ap, subst, sym, arith, true≢false, inl, inr}
use Rattle.std.proofs.lemmas.Bool.{cases_order}
use Rattle.tick_clock.specs.Clocks.{IsClock}
use Rattle.scenario_text.specs.ScenarioParts.{ScenarioParts}
use Rattle.scenario_text.specs.ScenarioFacts.{IsSoundScenario}
use Rattle.bus_rules.specs.Cores.{Setup}
use Rattle.air_log.specs.Devices.{Device}
use Rattle.scenario_text.specs.Setups.{setup_of}
use Rattle.air_log.specs.Trails.{Reception, run_end, alarm_is_due, one_alarm, alarms, before_alarms, before_start, before_tick, alarm_limit, alarmed}
use Rattle.air_log.specs.AlarmRuns.{after_alarms, IsAlarmRun}
use Rattle.air_log.proofs.AlarmLoop.{no_alarm_left}

module _ (clock : ℕ → ℕ) (s : Setup) (t : ℕ) where
  first_of : (k : ℕ) (d : Device) → after_alarms clock s t k (one_alarm clock s t d) ≡ after_alarms clock s t (suc k) d
  first_of zero d = refl
  first_of (suc k) d = ap (one_alarm clock s t) (first_of k d)

  -- one alarm, and a run after it
  with_first : (d e : Device) → alarm_is_due t d.alarm ≡ true → IsAlarmRun clock s t (one_alarm clock s t d) e → IsAlarmRun clock s t d e
  with_first d e due run = record { count = suc run.count; is = run.is ∙ first_of run.count d; due = each; over = run.over }
    where
      each : (j : ℕ) → j < suc run.count → alarm_is_due t (after_alarms clock s t j d).alarm ≡ true
      each zero less = due
      each (suc j) less = subst (λ (x : Device). alarm_is_due t x.alarm ≡ true) (first_of j d) (run.due j (omega (arith, less)))

  pub is_run : (b : Bool) (more : ℕ) (d : Device) → alarm_is_due t d.alarm ≡ b → alarm_is_due t (alarms clock s t b more d).alarm ≡ false
      → IsAlarmRun clock s t d (alarms clock s t b more d)
  unfolding alarms
  is_run false more d due over = record { count = zero; is = refl; due = λ j less. absurd (omega (arith, less)); over = over }
  is_run true zero d due over = record { count = zero; is = refl; due = λ j less. absurd (omega (arith, less)); over = over }
  is_run true (suc more) d due over = let e = one_alarm clock s t d in with_first d _ due (is_run (alarm_is_due t e.alarm) more e refl over)

  -- there are no more of them than the trail takes at most
  due_still : (more : ℕ) (d : Device) (b : Bool) → alarm_is_due t d.alarm ≡ b → ((j : ℕ) → j ≤ more → alarm_is_due t (after_alarms clock s t j d).alarm ≡ true)
      → alarm_is_due t (alarms clock s t b more d).alarm ≡ true
  unfolding alarms
  due_still more d false is due = absurd (true≢false (sym (due 0 (omega arith)) ∙ is))
  due_still zero d true is due = is
  due_still (suc more) d true is due =
      due_still more (one_alarm clock s t d) (alarm_is_due t (one_alarm clock s t d).alarm) refl
      (λ j less. ap (λ (x : Device). alarm_is_due t x.alarm) (first_of j d) ∙ due (suc j) (omega (arith, less)))

  pub are_fewer : (d : Device) (k : ℕ) → IsAlarmRun clock s t d (alarmed clock s t d)
      → ((j : ℕ) → j < k → alarm_is_due t (after_alarms clock s t j d).alarm ≡ true) → k ≤ alarm_limit clock t
  are_fewer d k run due = elim (cases_order k (alarm_limit clock t)) [
    | inl is ↦ omega (arith, is)
    | inr (inl less) ↦ omega (arith, less)
    | inr (inr more) ↦ absurd
        (true≢false (sym (due_still (alarm_limit clock t) d (alarm_is_due t d.alarm) refl (λ j less. due j (omega (arith, less, more)))) ∙ run.over))
  ]

pub alarms_are_run : (s : ScenarioParts) (v : ℕ) (clock : ℕ → ℕ) (hs : List Reception) (t : ℕ) → IsSoundScenario s → IsClock clock → t ≤ run_end s
    → IsAlarmRun clock (setup_of s v) t (before_alarms s v clock hs t (before_tick s v clock hs t)) (before_start s v clock hs t (before_tick s v clock hs t))
alarms_are_run s v clock hs t sound drifts within =
    let d = before_alarms s v clock hs t (before_tick s v clock hs t) in
    is_run clock (setup_of s v) t (alarm_is_due t d.alarm) (alarm_limit clock t) d refl (no_alarm_left s v clock hs t sound drifts within)

-- a run that is over is as long as any other
module _ (clock : ℕ → ℕ) (s : Setup) (t : ℕ) (d : Device) where
  no_shorter : (e f : Device) (x : IsAlarmRun clock s t d e) (y : IsAlarmRun clock s t d f) → x.count < y.count → ⊥
  no_shorter e f x y less = true≢false (sym (y.due x.count less) ∙ ap (λ (z : Device). alarm_is_due t z.alarm) (sym x.is) ∙ x.over)

  pub runs_agree : (e f : Device) → IsAlarmRun clock s t d e → IsAlarmRun clock s t d f → e ≡ f
  runs_agree e f x y = x.is ∙ ap (λ (k : ℕ). after_alarms clock s t k d) same ∙ sym y.is
    where
      same : x.count ≡ y.count
      same =
          elim (cases_order x.count y.count) [
            | inl is ↦ is
            | inr (inl less) ↦ absurd (no_shorter e f x y less)
            | inr (inr more) ↦ absurd (no_shorter f e y x more)
          ]
