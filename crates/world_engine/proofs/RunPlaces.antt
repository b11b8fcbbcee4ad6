-- The places of a run: those at which something is in the queue, and the nodes of its trail.
use Rattle.std.proofs.Common.{◌≡◌, ℕ, zero, suc, ◌<◌, List, [], ◌∷◌, map, length, Some, refl, sym, ap, ◌∙◌, arith}
use Rattle.scenario_text.specs.ScenarioParts.{ScenarioParts}
use Rattle.scenario_text.specs.FloodParts.{IsSealed}
use Rattle.scenario_text.specs.declared.lines.NodeLine.{NodeLine}
use Rattle.link_trace.specs.Sealed.{Traced}
use Rattle.radio_model.specs.Stations.{nodes_of}
use Rattle.event_calendar.specs.declared.class.Class.{Class}
use Rattle.event_calendar.specs.Orders.{Due, at}
use Rattle.bus_rules.specs.Cores.{Setup}
use Rattle.air_log.specs.DeviceStates.{DeviceState}
use Rattle.world_engine.specs.Fields.{FieldState, setup_of_device, id_of}
use Rattle.world_engine.specs.Running.{HasPlaces, setup_by}
use Rattle.world_engine.proofs.PlacedNodes.{as_many_devices}
use Rattle.world_engine.proofs.QueueKeys.{none_at_none}

-- what is is at one of the places
pub place_within : (due : List Due) (p : ℕ) (c : Class) (t : ℕ) → at due p c ≡ Some t → p < length due
place_within [] p c t is = absurd (none_at_none c t is)
place_within (d ∷ due) zero c t is = omega arith
place_within (d ∷ due) (suc p) c t is = omega (arith, place_within due p c t is)

module _ (s : ScenarioParts) (w : FieldState) (due : List Due) (places : HasPlaces s w due) where
  pub place_of_order : (p : ℕ) (c : Class) (u : ℕ) → at due p c ≡ Some u → p < length w.devices
  place_of_order p c u is =
      let long = as_many_devices s w due places in
      let many = places.places in
      omega (arith, place_within due p c u is, long, many)

  -- the trace is sealed with the nodes of the medium
  pub sealed : (trace : Traced) → IsSealed trace s.nodes → trace.nodes ≡ nodes_of w.medium
  sealed trace is =
      is ∙ ids s.nodes ∙ ap (map setup_id) (sym places.setups) ∙ of_devices w.devices ∙ places.field.nodes
    where
      setup_id : Setup → ℕ
      setup_id x = x.id

      ids : (ns : List NodeLine) → map (λ n. n.node) ns ≡ map setup_id (map (setup_by s) ns)
      ids [] = refl
      ids (n ∷ ns) = ap (λ (l : List ℕ). n.node ∷ l) (ids ns)

      of_devices : (ds : List DeviceState) → map setup_id (map setup_of_device ds) ≡ map id_of ds
      of_devices [] = refl
      of_devices (d ∷ ds) = ap (λ (l : List ℕ). d.setup.id ∷ l) (of_devices ds)
