-- Each node costs the same by two valid logs.
use Rattle.std.proofs.Common.{◌≡◌, ℕ, ◌≤◌, List, [], Bool, true, false, nat_lt, if◌then◌else◌, None, count_by, sum_by}
use Rattle.std.proofs.Common.{refl, sym, ◌∙◌, ap, arith, ltb-true, mul-le-mul_right}
use Rattle.std.specs.declared.option.Option.{Option}
use Rattle.std.specs.List.{range_with_len}
use Rattle.std.proofs.Math.Path.{fun_ext}
use Rattle.std.proofs.lemmas.List.Sorted.{sum_by-IsPermutation}
use Rattle.bus_rules.specs.declared.tune.Tune.{Tune}
use Rattle.scenario_text.specs.ScenarioParts.{ScenarioParts}
use Rattle.scenario_text.specs.ScenarioFacts.{IsSoundScenario}
use Rattle.scenario_text.specs.FloodParts.{knows}
use Rattle.air_log.specs.declared.entry.Entry.{Entry}
use Rattle.air_log.specs.Charges.{windows_charge, scanned_frames, scans_with}
use Rattle.air_log.specs.Devices.{Device}
use Rattle.air_log.specs.Lawful.{Lawful, heard_by, sent_by, tuned_by, trail_in}
use Rattle.air_log.specs.Trails.{run_end, frame_start, device_after_script, tune_of, tune_at}
use Rattle.air_log.specs.Energies.{energy_of, sending_time, tuning_time, costs}
use Rattle.law_one_log.specs.OneLog.{OneCostLaw}
use Rattle.law_one_log.proofs.SameBefore.{alike_before, same_device, same_trail, one_scenario}

module _ (s : ScenarioParts) (clocks : ℕ → ℕ → ℕ) (sound : IsSoundScenario s) (a b : List Entry) (of_a : Lawful s clocks a) (of_b : Lawful s clocks b)
    (v : ℕ) where
  trails : trail_in s clocks a v ≡ trail_in s clocks b v
  trails = same_trail s clocks sound a b of_a of_b v

  sent : sum_by sending_time (sent_by a v) ≡ sum_by sending_time (sent_by b v)
  sent =
      sum_by-IsPermutation sending_time _ (sent_by a v) (of_a.trails.sent v)
      ∙ ap (λ (d : Device). sum_by sending_time (if knows s.nodes v then d.made.sent else [])) trails
      ∙ sym (sum_by-IsPermutation sending_time _ (sent_by b v) (of_b.trails.sent v))

  tuned : sum_by tuning_time (tuned_by a v) ≡ sum_by tuning_time (tuned_by b v)
  tuned =
      sum_by-IsPermutation tuning_time _ (tuned_by a v) (of_a.trails.tuned v)
      ∙ ap (λ (d : Device). sum_by tuning_time (if knows s.nodes v then d.made.tuned else [])) trails
      ∙ sym (sum_by-IsPermutation tuning_time _ (tuned_by b v) (of_b.trails.tuned v))

  same_tune : (f : ℕ) → tune_at s v (clocks v) (heard_by a v) f ≡ tune_at s v (clocks v) (heard_by b v) f
  same_tune f = by_test (nat_lt f s.frames) refl
    where
      by_test : (c : Bool) → nat_lt f s.frames ≡ c → tune_at s v (clocks v) (heard_by a v) f ≡ tune_at s v (clocks v) (heard_by b v) f
      by_test true is =
          let twins = one_scenario s clocks sound a b of_a of_b in
          let t = frame_start s f in
          let within : t ≤ run_end s = mul-le-mul_right s.profile.frame (let less = ltb-true f s.frames is in omega (arith, less)) in
          ap (λ (d : Device). if nat_lt f s.frames then tune_of (device_after_script s v (clocks v) t d).power else None)
          (same_device s clocks (run_end s) s.script s.script a b twins t v within
          (alike_before s clocks (run_end s) s.script s.script a b twins t within within))
      by_test false is = rw is refl

  scanned : scanned_frames s v (clocks v) (heard_by a v) ≡ scanned_frames s v (clocks v) (heard_by b v)
  scanned = ap (λ (tune : ℕ → Option Tune). count_by (λ f. scans_with (tune f)) (range_with_len 0 s.frames)) (fun_ext same_tune)

  pub same_cost : energy_of s clocks a v ≡ energy_of s clocks b v
  same_cost =
      let windows = ap (windows_charge s) trails in
      let e = energy_of s clocks a v in
      let f = energy_of s clocks b v in
      ap (λ (n : ℕ). costs n e.windows e.scanned e.on) sent
      ∙ ap (λ (n : ℕ). costs f.sent n e.scanned e.on) windows
      ∙ ap (λ (n : ℕ). costs f.sent f.windows n e.on) scanned
      ∙ ap (λ (n : ℕ). costs f.sent f.windows f.scanned n) tuned

pub one_cost : OneCostLaw
one_cost s clocks a b of_a of_b v = same_cost s clocks of_a.sound a b of_a.lawful of_b.lawful v
