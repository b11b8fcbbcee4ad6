-- A field as it is at first: its devices at rest, on a medium of which nobody has made use.
use Rattle.std.proofs.Common.{◌≡◌, ℕ, ◌<◌, List, [], ◌∷◌, map, None, sym, ◌∙◌, ap, subst, refl, arith, rules}
use Rattle.std.specs.Prelude.{All}
use Rattle.std.proofs.lemmas.List.{length-map}
use Rattle.std.proofs.lemmas.List.Elements.{All-map}
use Rattle.lwb_base.specs.Profile.{Numbers}
use Rattle.link_trace.specs.Masks.{AreNodes}
use Rattle.scenario_text.specs.ScenarioParts.{ScenarioParts}
use Rattle.scenario_text.specs.ScenarioFacts.{IsSoundScenario}
use Rattle.scenario_text.specs.declared.lines.NodeLine.{NodeLine}
use Rattle.scenario_text.specs.FloodParts.{node_id}
use Rattle.radio_model.specs.Stations.{IsMedium, first_state, nodes_of}
use Rattle.radio_model.proofs.Places.{nodes_from, first_is_medium}
use Rattle.node_core.specs.Nodes.{rebooted, NodeState}
use Rattle.air_log.specs.Devices.{Device, at_rest, nothing_made}
use Rattle.scenario_text.specs.Setups.{setup_of}
use Rattle.air_log.specs.DeviceStates.{DeviceState, whole, core_in}
use Rattle.world_engine.specs.Fields.{FieldState, IsField, id_of}
use Rattle.world_engine.specs.FieldSteps.{first_device, IsFirstField, nothing_counted}
use Rattle.world_engine.specs.Worlds.{new_core}
use Rattle.lwb_base.proofs.Elements.{pairs_of_map}

-- a device that is made for a node
pub new_device : (s : ScenarioParts) (n : NodeLine) (d : DeviceState) → d.setup ≡ setup_of s n.node
    → whole d (record { listening = None; ended = [] }) nothing_made ≡ at_rest → d.busy_until ≡ None → d.channel ≡ None
    → d.delivery ≡ None → d.core ≡ rebooted 1 → d.windows ≡ nothing_counted s → d ≡ first_device s n
new_device s n d setup rest idle channel delivery core windows =
    let power = ap (λ (x : Device). x.power) rest in
    let alarm = ap (λ (x : Device). x.alarm) rest in
    let ordered = ap (λ (x : Device). x.ordered) rest in
    search rules

pub sound_nodes : (s : ScenarioParts) → IsSoundScenario s → AreNodes (map node_id s.nodes)
sound_nodes s is =
    let long = length-map s.nodes node_id in
    let two = is.two_nodes in
    let few = is.few_nodes in
    record { some = omega arith; few = omega arith; ascending = pairs_of_map node_id (λ a b. a < b) s.nodes is.ascending }

ids_first : (s : ScenarioParts) (ns : List NodeLine) → map id_of (map (first_device s) ns) ≡ map node_id ns
ids_first s [] = refl
ids_first s (n ∷ ns) = ap (λ (l : List ℕ). n.node ∷ l) (ids_first s ns)

numbers_first : (s : ScenarioParts) (ns : List NodeLine) → All (λ (d : DeviceState). d.setup.profile ≡ s.profile) (map (first_device s) ns)
numbers_first s ns = All-map (λ (d : DeviceState). d.setup.profile ≡ s.profile) (first_device s) ns (λ k d less. refl)

pub first_field : (s : ScenarioParts) → IsSoundScenario s → (w : FieldState) → w.medium ≡ first_state s.profile (map node_id s.nodes)
    → w.devices ≡ map (first_device s) s.nodes → IsField w
first_field s sound w medium devices = record {
  medium = subst IsMedium (sym medium) (first_is_medium s.profile (map node_id s.nodes) sound.profile (sound_nodes s sound));
  nodes = ap (map id_of) devices ∙ ids_first s s.nodes ∙ sym (ap nodes_of medium ∙ nodes_from 0 (map node_id s.nodes));
  numbers = subst (λ (l : List DeviceState). All (λ (d : DeviceState). d.setup.profile ≡ w.medium.numbers) l) (sym devices)
      (subst (λ (p : Numbers). All (λ (d : DeviceState). d.setup.profile ≡ p) (map (first_device s) s.nodes)) (ap (λ m. m.numbers) (sym medium))
      (numbers_first s s.nodes));
}

-- the cores that a world at first shows
cores_first : (s : ScenarioParts) (ns : List NodeLine) → map core_in (map (first_device s) ns) ≡ map (new_core s) ns
cores_first s [] = refl
cores_first s (n ∷ ns) = ap (λ (l : List NodeState). new_core s n ∷ l) (cores_first s ns)

pub first_cores : (s : ScenarioParts) (w : FieldState) → IsFirstField s w → map core_in w.devices ≡ map (new_core s) s.nodes
first_cores s w first = ap (map core_in) first.devices ∙ cores_first s s.nodes
