-- The end of a run: what was counted of each node is what its trail comes to.
use Rattle.std.proofs.Common.{◌≡◌, ℕ, ◌+◌, ◌%◌, ◌^◌, List, length, Bool, count_by, Option, Some, sym, ◌∙◌, ap, subst, arith}
use Rattle.std.specs.Prelude.{slice_get}
use Rattle.std.specs.List.{range_with_len}
use Rattle.std.specs.Option.{option_map}
use Rattle.std.proofs.lemmas.List.{length-map}
use Rattle.std.proofs.lemmas.Option.{slice_get-map}
use Rattle.scenario_text.specs.ScenarioParts.{ScenarioParts}
use Rattle.scenario_text.specs.ScenarioFacts.{IsSoundScenario}
use Rattle.scenario_text.specs.declared.lines.NodeLine.{NodeLine}
use Rattle.event_calendar.specs.Orders.{Due}
use Rattle.air_log.specs.declared.charge.NodeCharge.{NodeCharge}
use Rattle.air_log.specs.Charges.{windows_charge, scans_with}
use Rattle.air_log.specs.Devices.{Device, seen_power}
use Rattle.air_log.specs.Lawful.{heard_by, trail_in}
use Rattle.air_log.specs.NodeCharges.{charge_in, charges_in}
use Rattle.scenario_text.specs.Setups.{setup_of}
use Rattle.air_log.specs.Trails.{Reception, run_end, before_tick, tune_at}
use Rattle.air_log.specs.WindowLogs.{WindowLog}
use Rattle.air_log.specs.WindowSums.{WindowSum, IsCounted}
use Rattle.air_log.proofs.ChargedWindows.{charge_is}
use Rattle.world_engine.specs.Counting.{scans_before, all_scans_before, AreCharges}
use Rattle.world_engine.specs.Fields.{FieldState, sums_of, windows_of}
use Rattle.world_engine.specs.FieldSteps.{IsClosed}
use Rattle.world_engine.specs.Moments.{Before}
use Rattle.world_engine.specs.Running.{IsRunning}
use Rattle.world_engine.proofs.OrdersOver.{each_place}
use Rattle.world_engine.proofs.TrailsGoOn.{AreClocks}
use Rattle.world_engine.proofs.TrailsOver.{at_place, same_heard}

module _ (s : ScenarioParts) (clocks : ℕ → ℕ → ℕ) (w : FieldState) (due : List Due) (closed : FieldState) (sound : IsSoundScenario s)
    (drifts : AreClocks clocks) (running : IsRunning s clocks s.script (run_end s) Before w due) (over : IsClosed (run_end s) w due closed) where
  -- what the windows of a node count
  record HasCharge (p v : ℕ) : Type 0 where
    pub sum : WindowSum
    pub there : slice_get (sums_of closed) p ≡ Some sum
    pub is : (sum.earlier + sum.last) % 2 ^ 64 ≡ windows_charge s (trail_in s clocks closed.air v)

  has_charge : (p : ℕ) (n : NodeLine) → slice_get s.nodes p ≡ Some n → HasCharge p n.node
  has_charge p n at =
      let v = n.node in
      let end = at_place s clocks w due closed running over p n at in
      let state = end.shows.state in
      let windows : end.shows.made.windows ≡ (trail_in s clocks closed.air v).made.windows = ap (λ (d : Device). d.made.windows) end.shows.shows.is
      ∙ ap (λ (d : Device). d.made.windows) (sym end.is) in
      let counted : IsCounted s.profile s.sends (trail_in s clocks closed.air v).made.windows state.windows =
      subst (λ (ws : List WindowLog). IsCounted s.profile s.sends ws state.windows) windows end.shows.shows.counted in
      let power : (before_tick s v (clocks v) (heard_by closed.air v) (run_end s)).power ≡ end.device.power = ap (λ (d : Device). d.power) end.is in
      let boots = ap (λ (b : Bool × ℕ). b.1) (ap seen_power power ∙ running.script.power (setup_of s v) p end.device end.shows) in
      let few = sound.few_boots v in
      record {
        sum = state.windows;
        there = ap (λ (l : List WindowSum). slice_get l p) over.sums ∙ slice_get-map windows_of w.devices p ∙ ap (option_map windows_of) end.shows.there;
        is = charge_is (clocks v) s v (heard_by closed.air v) sound (drifts v) (omega (arith, boots, few)) state.windows counted;
      }

  pub charges_over : (scanned : List ℕ) (charges : List NodeCharge) → scanned ≡ all_scans_before s clocks w.air s.frames
      → AreCharges (sums_of closed) scanned charges → charges ≡ charges_in s clocks closed.air
  charges_over scanned charges are is = each_place (charge_in s clocks closed.air) s.nodes charges
      (is.long ∙ ap length are ∙ length-map s.nodes (scans_before s clocks w.air s.frames)) one
    where
      one : (p : ℕ) (n : NodeLine) → slice_get s.nodes p ≡ Some n → slice_get charges p ≡ Some (charge_in s clocks closed.air n)
      one p n at =
          let v = n.node in
          let has = has_charge p n at in
          let frames : slice_get scanned p ≡ Some (scans_before s clocks w.air s.frames n) =
          ap (λ (l : List ℕ). slice_get l p) are ∙ slice_get-map (scans_before s clocks w.air s.frames) s.nodes p
          ∙ ap (option_map (scans_before s clocks w.air s.frames)) at in
          is.each p has.sum (scans_before s clocks w.air s.frames n) has.there frames
          ∙ ap (λ (k : ℕ). let o : Option NodeCharge = Some (record { windows = k; scanned = scans_before s clocks w.air s.frames n }) in o) has.is
          ∙ ap (λ (hs : List Reception). let o : Option NodeCharge =
          Some (record {
            windows = windows_charge s (trail_in s clocks closed.air v);
            scanned = count_by (λ (g : ℕ). scans_with (tune_at s v (clocks v) hs g)) (range_with_len 0 s.frames);
          }) in o)
          (sym (same_heard s clocks w due closed running over v))
