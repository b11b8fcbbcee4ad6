-- What the windows of a trail count, from what is counted of them.
use Rattle.std.proofs.Common.{◌≡◌, ℕ, ◌+◌, ◌*◌, ◌%◌, ◌^◌, ◌<◌, ◌≤◌, List, [], ◌∷◌, Bool, true, false, if◌then◌else◌, sum_by, refl, ◌∙◌, arith, mul-le-mul_right}
use Rattle.std.proofs.Math.Nat.{mod-eq_of_lt}
use Rattle.std.proofs.lemmas.List.Sums.{sum_by-cons}
use Rattle.lwb_base.specs.Profile.{Numbers}
use Rattle.tick_clock.specs.Clocks.{IsClock}
use Rattle.scenario_text.specs.ScenarioParts.{ScenarioParts}
use Rattle.scenario_text.specs.ScenarioFacts.{IsSoundScenario}
use Rattle.air_log.specs.Charges.{windows_charge}
use Rattle.air_log.specs.Devices.{Power, PowerOff, PowerOn, seen_power}
use Rattle.air_log.specs.Trails.{Reception, run_end, before_tick, trail}
use Rattle.air_log.specs.WindowLogs.{WindowLog}
use Rattle.air_log.specs.WindowSums.{WindowSum, charge_by, AreSmall, IsCounted}
use Rattle.air_log.proofs.OpenedByAlarm.{by_alarm}
use Rattle.air_log.proofs.FewWindows.{few_windows, boots_of}
use Rattle.air_log.proofs.CountedWindows.{total}

-- what all windows count
counts_few : (p : Numbers) (n : ℕ) (ws : List WindowLog) → AreSmall p n ws → sum_by (charge_by p n) ws ≤ 2 ^ 28 * by_alarm ws
counts_few p n [] small = omega arith
counts_few p n (w ∷ ws) small =
    let rest = counts_few p n ws small.1 in
    let all = sum_by-cons (charge_by p n) w ws in
    omega (arith, rest, all, one w small.0)
  where
    one : (w : WindowLog) → charge_by p n w ≤ 2 ^ 28 → charge_by p n w ≤ 2 ^ 28 * (if w.by_alarm then 1 else 0)
    one w less = by w.by_alarm less
      where
        by : (b : Bool) → (if b then Rattle.air_log.specs.Charges.charge_by_last p
            (Rattle.bus_rules.specs.Charges.last_if_all_sent n (Rattle.air_log.specs.Charges.sent_packets w)) else 0) ≤ 2 ^ 28
            → (if b then Rattle.air_log.specs.Charges.charge_by_last p
            (Rattle.bus_rules.specs.Charges.last_if_all_sent n (Rattle.air_log.specs.Charges.sent_packets w)) else 0)
            ≤ 2 ^ 28 * (if b then 1 else 0)
        by true less = omega (arith, less)
        by false less = omega arith

module _ (clock : ℕ → ℕ) (s : ScenarioParts) (v : ℕ) (hs : List Reception) (sound : IsSoundScenario s) (drifts : IsClock clock) where
  boots_by : (power : Power) → boots_of s v clock hs sound drifts power ≡ (seen_power power).1
  boots_by (PowerOff boots) = refl
  boots_by (PowerOn n) = refl

  -- all windows of a run together, of a node that boots as often as a scenario may say
  pub charge_is : (seen_power (before_tick s v clock hs (run_end s)).power).1 ≤ 200 → (x : WindowSum)
      → IsCounted s.profile s.sends (trail s v clock hs).made.windows x → (x.earlier + x.last) % 2 ^ 64 ≡ windows_charge s (trail s v clock hs)
  charge_is less x counted =
      let t = trail s v clock hs in
      let sum = total s.profile s.sends sound.few_sends t.made.windows x counted in
      let few = few_windows s v clock hs sound drifts in
      let same = boots_by (before_tick s v clock hs (run_end s)).power in
      let boots : boots_of s v clock hs sound drifts (before_tick s v clock hs (run_end s)).power ≤ 200 = omega (arith, same, less) in
      let small = counts_few s.profile s.sends t.made.windows counted.small in
      let times = mul-le-mul_right (2 ^ 20) boots in
      let below : windows_charge s t < 2 ^ 64 = omega (arith, small, few, times) in
      sum ∙ mod-eq_of_lt below
