-- A run of a world: how it begins, and what it leaves.
use Rattle.std.proofs.Common.{◌≡◌, ℕ, ◌<◌, List, [], map, length, sym, subst, ap, ◌∙◌}
use Rattle.std.proofs.lemmas.Simd.{map-map}
use Rattle.scenario_text.specs.ScenarioParts.{ScenarioParts}
use Rattle.scenario_text.specs.ScenarioFacts.{IsSoundScenario}
use Rattle.event_calendar.specs.Orders.{Due}
use Rattle.bus_rules.specs.declared.delivery.Delivery.{Delivery}
use Rattle.air_log.specs.declared.entry.Entry.{Entry}
use Rattle.air_log.specs.Trails.{run_end}
use Rattle.air_log.specs.Deliveries.{delivery_comes_before}
use Rattle.lwb_base.specs.Sorting.{in_order}
use Rattle.air_log.specs.ClockLists.{clocks_by}
use Rattle.air_log.specs.DeviceStates.{core_in}
use Rattle.air_log.specs.declared.charge.NodeCharge.{NodeCharge}
use Rattle.air_log.specs.NodeCharges.{charges_in}
use Rattle.world_engine.specs.Counting.{all_scans_before, AreCharges}
use Rattle.world_engine.specs.Fields.{FieldState, FieldIsShown, sums_of}
use Rattle.world_engine.specs.FieldSteps.{IsClosed}
use Rattle.air_log.specs.Idling.{all_idle}
use Rattle.world_engine.specs.Moments.{Before}
use Rattle.world_engine.specs.Running.{IsRunning, setup_by}
use Rattle.world_engine.specs.Runs.{IsEngineRun, orders_left}
use Rattle.world_engine.specs.Worlds.{WorldState, HasEngineRun, core_of, core_setup}
use Rattle.air_log.specs.declared.idle.Idle.{Idle}
use Rattle.world_engine.proofs.ChargesOver.{charges_over}
use Rattle.world_engine.proofs.IdleNodes.{heard_alike}
use Rattle.world_engine.proofs.KnownAtPlaces.{shown_within}
use Rattle.world_engine.proofs.RunOver.{run_over}
use Rattle.world_engine.proofs.RunsOnAir.{hearing_followed}
use Rattle.world_engine.proofs.TrailsGoOn.{AreClocks}
use Rattle.world_engine.proofs.TrailsOver.{same_heard}

module _ (s : ScenarioParts) (sound : IsSoundScenario s) (clocks : ℕ → ℕ → ℕ) (w : FieldState) (due : List Due)
    (run : IsRunning s clocks s.script (run_end s) Before w due) where
  -- all tunings end at tick t, which is the end of the run
  module _ (t : ℕ) (end : t ≡ run_end s) (closed : FieldState)
      (closes : (orders : List Due) → ((q : ℕ) → q < length w.devices → FieldIsShown t w orders q) → IsClosed t w orders closed) where
    over : IsClosed (run_end s) w due closed
    over = subst (λ (u : ℕ). IsClosed u w due closed) end
        (closes due (λ q within. subst (λ (u : ℕ). FieldIsShown u w due q) (sym end)
        (shown_within s clocks (run_end s) Before w due run.places run.trails q within)))

    -- the field without its deliveries, and these in order
    pub run_left : AreClocks clocks → (left : FieldState) → left ≡ record closed { deliveries = [] } → (made : List Delivery)
        → made ≡ in_order delivery_comes_before closed.deliveries
        → IsEngineRun s clocks left.air made left.drops (core_of (map core_in left.devices)) × (due ≡ orders_left s clocks left.air)
    run_left drifts left rest made taken =
        let is = run_over s clocks w due closed sound drifts run over (hearing_followed s clocks s.script w due run run.places.field closed over) in
        subst (λ (l : FieldState). IsEngineRun s clocks l.air made l.drops (core_of (map core_in l.devices)) × (due ≡ orders_left s clocks l.air)) (sym rest)
        (subst (λ (ds : List Delivery). IsEngineRun s clocks closed.air ds closed.drops (core_of (map core_in closed.devices))) (sym taken) is.0, is.1)

    -- what was counted of its nodes
    pub charges_left : AreClocks clocks → (left : FieldState) → left ≡ record closed { deliveries = [] } → (scanned : List ℕ)
        → scanned ≡ all_scans_before s clocks w.air s.frames → (charges : List NodeCharge) → AreCharges (sums_of left) scanned charges
        → charges ≡ charges_in s clocks left.air
    charges_left drifts left rest scanned counted charges are =
        charges_over s clocks w due closed sound drifts run over scanned charges counted
        (subst (λ (l : FieldState). AreCharges (sums_of l) scanned charges) rest are)
        ∙ ap (λ (l : FieldState). charges_in s clocks l.air) (sym rest)

    -- where they were idle
    pub idle_left : (left : FieldState) → left ≡ record closed { deliveries = [] } → (idle : List Idle) → idle ≡ all_idle s clocks w.air
        → idle ≡ all_idle s clocks left.air
    idle_left left rest idle are =
        are
        ∙ heard_alike s clocks w.air closed.air (same_heard s clocks w due closed run over)
        ∙ ap (λ (l : FieldState). all_idle s clocks l.air) (sym rest)

    -- and the set-ups of its cores
    pub cores_left : (left : FieldState) → left ≡ record closed { deliveries = [] } → map core_setup (map core_in left.devices) ≡ map (setup_by s) s.nodes
    cores_left left rest =
        ap (λ (l : FieldState). map core_setup (map core_in l.devices)) rest ∙ map-map core_setup core_in closed.devices ∙ over.setups ∙ run.places.setups

-- what is said of the world before the run, once it is known what that world is
module _ {C : Type 0} (R : C → ℕ → ℕ) (before old : WorldState × List C) (same : before ≡ old) where
  pub has_run : (new : WorldState) → HasEngineRun (clocks_by R before.0.scenario.nodes before.1) before.0 new
      → HasEngineRun (clocks_by R old.0.scenario.nodes old.1) old.0 new
  has_run new is = subst (λ (w : WorldState × List C). HasEngineRun (clocks_by R w.0.scenario.nodes w.1) w.0 new) same is

  pub has_left : (air : List Entry) (due : List Due) → due ≡ orders_left before.0.scenario (clocks_by R before.0.scenario.nodes before.1) air
      → due ≡ orders_left old.0.scenario (clocks_by R old.0.scenario.nodes old.1) air
  has_left air due is = subst (λ (w : WorldState × List C). due ≡ orders_left w.0.scenario (clocks_by R w.0.scenario.nodes w.1) air) same is
