-- The next line of the script: what the field asks for, and what holds after it.
use Rattle.std.proofs.Common.{◌≡◌, ℕ, ◌<◌, ◌≤◌, ◌*◌, ◌^◌, List, [], ◌∷◌, ◌++◌, map, length, get_or, Some, refl, sym, ap, subst, ◌∙◌, arith, mul-le-mul_right}
use Rattle.std.specs.Prelude.{Contains, slice_get}
use Rattle.std.specs.Option.{option_map}
use Rattle.std.proofs.lemmas.Option.{slice_get_within, slice_get_read, slice_get-map, same_Some}
use Rattle.std.proofs.lemmas.List.{length-map}
use Rattle.std.proofs.lemmas.List.Elements.{All-contains, Contains-append_right}
use Rattle.std.proofs.lemmas.Simd.{map-map}
use Rattle.scenario_text.specs.ScenarioParts.{ScenarioParts}
use Rattle.scenario_text.specs.ScenarioFacts.{IsSoundScenario, IsScriptLine}
use Rattle.bus_rules.specs.States.{IsAct}
use Rattle.scenario_text.specs.declared.lines.NodeLine.{NodeLine}
use Rattle.bus_rules.specs.declared.act.Act.TheVariants.{On}
use Rattle.scenario_text.specs.declared.script.ScriptLine.{ScriptLine}
use Rattle.scenario_text.specs.FloodParts.{node_id}
use Rattle.event_calendar.specs.Orders.{Due}
use Rattle.bus_rules.specs.Cores.{Setup}
use Rattle.air_log.specs.Devices.{Device}
use Rattle.air_log.proofs.AlarmLoop.{early_in_run}
use Rattle.lwb_base.proofs.Elements.{contains_head}
use Rattle.air_log.specs.ClockLists.{clocks_by}
use Rattle.air_log.specs.DeviceStates.{CanBoot}
use Rattle.world_engine.specs.Fields.{FieldState, FieldShows, FieldIsShown, ids_of, id_of, setup_of_device}
use Rattle.world_engine.specs.FieldSteps.{TakesLine}
use Rattle.air_log.specs.ScriptedDevices.{device_after_act}
use Rattle.world_engine.specs.Counting.{TrailsStay}
use Rattle.world_engine.specs.Frames.{IsNextLine}
use Rattle.world_engine.specs.Moments.{InLines}
use Rattle.world_engine.specs.Running.{IsRunning, HasPlaces, setup_by}
use Rattle.world_engine.proofs.ClocksAtPlaces.{own_clock}
use Rattle.world_engine.proofs.CountedScans.{acts_stay}
use Rattle.world_engine.proofs.KnownAtPlaces.{shown_within, line_node, line_range, can_boot}
use Rattle.world_engine.proofs.NodePlaces.{known_id}
use Rattle.world_engine.proofs.PlacedNodes.{at_place, as_many_devices, node_of_place, setup_at_place}
use Rattle.world_engine.proofs.StepsGoOn.{line_goes_on}

-- what is read at an index is what is at the place of the same number
pub read_at : {X : Type 0} (xs : List X) (i p : ℕ) (x : X) → i ≡ p → p < length xs → x ≡ get_or xs i x → slice_get xs p ≡ Some x
read_at xs i p x place below is = sym (ap (slice_get xs) place) ∙ slice_get_read xs (length xs) i x refl (omega (arith, place, below)) is

abbrev id_by : Setup → ℕ
id_by q = q.id

module _ (s : ScenarioParts) (w : FieldState) (due : List Due) (places : HasPlaces s w due) where
  -- the ids of the devices are those of the nodes
  pub ids_of_nodes : ids_of w ≡ map node_id s.nodes
  ids_of_nodes = sym (map-map id_by setup_of_device w.devices) ∙ ap (map id_by) places.setups ∙ map-map id_by (setup_by s) s.nodes

  -- the place of an id is within the devices
  pub id_within : (p v : ℕ) → slice_get (ids_of w) p ≡ Some v → p < length w.devices
  id_within p v at = omega (arith, slice_get_within (ids_of w) p v at, length-map w.devices id_of)

  -- the node at the place of an id has the id
  pub node_of_id : (p v : ℕ) → slice_get (ids_of w) p ≡ Some v → (n : NodeLine) → slice_get s.nodes p ≡ Some n → v ≡ n.node
  node_of_id p v at n there =
      let d = at_place w.devices p (id_within p v at) in
      let here : slice_get (ids_of w) p ≡ Some (id_of d.0) = slice_get-map id_of w.devices p ∙ ap (option_map id_of) d.1 in
      same_Some _ _ (sym at ∙ here) ∙ ap id_by (setup_at_place s w due places p n d.0 there d.1)

-- this line of the script is the next that a run over these clocks gives
pub record IsGiven {C : Type 0} (R : C → ℕ → ℕ) (s : ScenarioParts) (cs : List C) (t : ℕ) (line : ScriptLine) (told : List ScriptLine)
    (old : FieldState) (old_due : List Due) : Type 0 where
  pub sound : IsSoundScenario s
  pub count : length cs ≡ length s.nodes
  pub next : IsNextLine s t told line
  pub run : IsRunning s (clocks_by R s.nodes cs) told t (InLines told) old old_due

module _ {C : Type 0} {R : C → ℕ → ℕ} {s : ScenarioParts} {cs : List C} {t : ℕ} {line : ScriptLine} {told : List ScriptLine} {old : FieldState}
    {old_due : List Due} (given : IsGiven R s cs t line told old old_due) where
  abbrev run : IsRunning s (clocks_by R s.nodes cs) told t (InLines told) old old_due
  run = given.run

  abbrev next : IsNextLine s t told line
  next = given.next

  in_script : Contains s.script line
  in_script = subst (λ (ls : List ScriptLine). Contains ls line) (sym next.is)
      (Contains-append_right told (line ∷ next.rest) line (contains_head line next.rest))

  is_line : IsScriptLine s line
  is_line = All-contains (IsScriptLine s) s.script line given.sound.script in_script

  -- the node of the line has a device
  pub has_device : Contains (ids_of old) line.node
  has_device = subst (λ (ids : List ℕ). Contains ids line.node) (sym (ids_of_nodes s old old_due run.places)) (known_id s.nodes line.node is_line.known)

  pub early : t ≤ 2 ^ 45
  early =
      let up : line.frame * s.profile.frame ≤ s.frames * s.profile.frame = mul-le-mul_right s.profile.frame (omega (arith, is_line.in_run)) in
      let now = next.now in
      early_in_run s t given.sound (omega (arith, up, now))

  module _ (p : ℕ) (place : slice_get (ids_of old) p ≡ Some line.node) where
    inside : p < length old.devices
    inside = id_within s old old_due run.places p line.node place

    pub in_clocks : p < length cs
    in_clocks = let long = as_many_devices s old old_due run.places in omega (arith, inside, long, given.count)

    node : (n : NodeLine) × (slice_get s.nodes p ≡ Some n)
    node = node_of_place s old old_due run.places p inside

    own : line.node ≡ node.0.node
    own = node_of_id s old old_due run.places p line.node place node.0 node.1

    pub shown : FieldIsShown t old old_due p
    shown = shown_within s (clocks_by R s.nodes cs) t (InLines told) old old_due run.places run.trails p inside

    pub to_node : (q : Setup) (d : Device) → FieldShows q t old old_due p d → line.node ≡ q.id
    to_node = line_node s (clocks_by R s.nodes cs) t (InLines told) old old_due run.places run.trails p node.0 node.1 line own

    pub in_range : (q : Setup) (d : Device) → FieldShows q t old old_due p d → IsAct q.profile line.act
    in_range = line_range s (clocks_by R s.nodes cs) t (InLines told) old old_due run.places run.trails p node.0 node.1 line own given.sound in_script

    pub boots : (q : Setup) (d : Device) → FieldShows q t old old_due p d → line.act ≡ On → CanBoot d.power
    boots q d shows = can_boot s (clocks_by R s.nodes cs) given.sound told next.rest line next.is t old old_due run.script p q d shows (to_node q d shows)

    pub line_done : {c : C} → slice_get cs p ≡ Some c → {new : FieldState} {new_due : List Due} → TakesLine (R c) line t p line.act old old_due new new_due
        → IsRunning s (clocks_by R s.nodes cs) (told ++ line ∷ []) t (InLines (told ++ line ∷ [])) new new_due
        × TrailsStay s (clocks_by R s.nodes cs) t old.air new.air
    line_done {c} clock {new} {new_due} all = (
      line_goes_on s (clocks_by R s.nodes cs) given.sound told t p node.0 node.1 old old_due new new_due (R c)
          (own_clock R s given.sound cs given.count p c clock) line own next.now all.0 all.1 all.2 run,
      acts_stay s (clocks_by R s.nodes cs) t p (λ x d. device_after_act (R c) x t d line.act d.power) [] all.0 old old_due new new_due all.1,
    )
