-- The end of a run: the node cores are where their trails leave them.
use Rattle.std.proofs.Common.{◌≡◌, ℕ, zero, suc, List, [], ◌∷◌, map, true, false, ◌==◌, Option, Some, sym, ◌∙◌, ap, subst, eq-eqb}
use Rattle.std.specs.Prelude.{Contains, slice_get}
use Rattle.std.specs.Option.{option_map}
use Rattle.std.proofs.lemmas.Bool.{cond-true, cond-false, ne_eqb}
use Rattle.std.proofs.lemmas.List.Elements.{All-contains}
use Rattle.std.proofs.lemmas.Option.{slice_get-map}
use Rattle.scenario_text.specs.ScenarioParts.{ScenarioParts}
use Rattle.scenario_text.specs.ScenarioFacts.{IsSoundScenario}
use Rattle.scenario_text.specs.FloodParts.{knows}
use Rattle.scenario_text.specs.declared.lines.NodeLine.{NodeLine}
use Rattle.event_calendar.specs.Orders.{Due}
use Rattle.node_core.specs.Nodes.{NodeState}
use Rattle.air_log.specs.Devices.{Device, Power, PowerOff, PowerOn}
use Rattle.air_log.specs.Trails.{run_end}
use Rattle.air_log.specs.Lawful.{trail_in}
use Rattle.lwb_base.proofs.Elements.{map_contains, Distinct}
use Rattle.air_log.specs.DeviceStates.{DeviceState, core_in, IsCoreAt}
use Rattle.world_engine.specs.Fields.{FieldState, id_of, power_of}
use Rattle.world_engine.specs.FieldSteps.{IsClosed}
use Rattle.world_engine.specs.Moments.{Before}
use Rattle.world_engine.specs.Running.{IsRunning}
use Rattle.world_engine.specs.Runs.{IsCoreOf}
use Rattle.world_engine.specs.Worlds.{core_of}
use Rattle.world_engine.proofs.ActsInTurn.{same_ids}
use Rattle.world_engine.proofs.NodePlaces.{place_of_known, distinct_ids, at_contains, of_image, same_some}
use Rattle.world_engine.proofs.TrailsOver.{at_place, ids_are}

-- the core at a place is found by its id
found_at : (ds : List DeviceState) → Distinct (map id_of ds) → (p : ℕ) (x : DeviceState) → slice_get ds p ≡ Some x
    → core_of (map core_in ds) x.setup.id ≡ Some (core_in x)
found_at [] distinct p x at = cc
found_at (d ∷ ds) distinct zero x at =
    let is : d ≡ x = same_some d x at in
    cond-true (d.setup.id == x.setup.id) (Some (core_in d)) (core_of (map core_in ds) x.setup.id) (eq-eqb d.setup.id x.setup.id (ap id_of is))
    ∙ ap (λ (e : DeviceState). Some (core_in e)) is
found_at (d ∷ ds) distinct (suc p) x at =
    let apart : (d.setup.id == x.setup.id) ≡ false =
    ne_eqb d.setup.id x.setup.id
    (λ same. distinct.0 (subst (λ (v : ℕ). Contains (map id_of ds) v) (sym same) (map_contains id_of ds x (at_contains ds p x at)))) in
    cond-false (d.setup.id == x.setup.id) (Some (core_in d)) (core_of (map core_in ds) x.setup.id) apart ∙ found_at ds distinct.1 p x at

-- what a list has at a place, by an image of it
image_at : {X Y : Type 0} (f : X → Y) (xs ys : List X) (p : ℕ) (y : X) → map f xs ≡ map f ys → slice_get ys p ≡ Some y
    → option_map f (slice_get xs p) ≡ Some (f y)
image_at f xs ys p y same at = sym (slice_get-map f xs p) ∙ ap (λ (l : List _). slice_get l p) same ∙ slice_get-map f ys p ∙ ap (option_map f) at

image_is : {X Y : Type 0} (f : X → Y) (x : X) (o : Option X) (y : Y) → o ≡ Some x → option_map f o ≡ Some y → f x ≡ y
image_is f x o y at is = same_some (f x) y (sym (ap (option_map f) at) ∙ is)

core_is : (x : DeviceState) (power : Power) → IsCoreAt x.core power → IsCoreOf (Some (core_in x)) power
core_is x (PowerOff boots) is = tt
core_is x (PowerOn n) is = is

module _ (s : ScenarioParts) (clocks : ℕ → ℕ → ℕ) (w : FieldState) (due : List Due) (closed : FieldState) (sound : IsSoundScenario s)
    (running : IsRunning s clocks s.script (run_end s) Before w due) (over : IsClosed (run_end s) w due closed) where
  distinct : Distinct (map id_of closed.devices)
  distinct = subst Distinct (sym (same_ids closed w over.setups ∙ ids_are s clocks w due closed running over)) (distinct_ids s.nodes sound.ascending)

  core_at : (p : ℕ) (n : NodeLine) → slice_get s.nodes p ≡ Some n
      → IsCoreOf (core_of (map core_in closed.devices) n.node) (trail_in s clocks closed.air n.node).power
  core_at p n there =
      let end = at_place s clocks w due closed running over p n there in
      let state : DeviceState = end.shows.state in
      let with_power = of_image power_of (slice_get closed.devices p) state.power
      (image_at power_of closed.devices w.devices p state over.powers end.shows.there) in
      let x : DeviceState = with_power.0 in
      let id : x.setup.id ≡ n.node = image_is id_of x (slice_get closed.devices p) state.setup.id with_power.1
      (image_at id_of closed.devices w.devices p state (same_ids closed w over.setups) end.shows.there) ∙ ap (λ q. q.id) end.shows.shows.setup in
      let core : core_of (map core_in closed.devices) n.node ≡ Some (core_in x) = ap (core_of (map core_in closed.devices)) (sym id)
      ∙ found_at closed.devices distinct p x with_power.1 in
      let power : (trail_in s clocks closed.air n.node).power ≡ x.power = ap (λ (d : Device). d.power) end.is
      ∙ sym (ap (λ (d : Device). d.power) end.shows.shows.is) ∙ sym with_power.2 in
      let here : IsCoreAt x.core x.power = All-contains (λ (d : DeviceState). IsCoreAt d.core d.power) closed.devices x over.cores
      (at_contains closed.devices p x with_power.1) in
      subst (λ (o : Option NodeState). IsCoreOf o (trail_in s clocks closed.air n.node).power) (sym core)
      (subst (IsCoreOf (Some (core_in x))) (sym power) (core_is x x.power here))

  pub cores_over : (v : ℕ) → knows s.nodes v ≡ true → IsCoreOf (core_of (map core_in closed.devices) v) (trail_in s clocks closed.air v).power
  cores_over v known =
      let at = place_of_known s.nodes v known in
      subst (λ (u : ℕ). IsCoreOf (core_of (map core_in closed.devices) u) (trail_in s clocks closed.air u).power) at.3 (core_at at.0 at.1 at.2)
