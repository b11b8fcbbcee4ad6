-- What holds of a run holds at first.
use Rattle.std.proofs.Common.{◌≡◌, ℕ, zero, suc, ◌+◌, ◌<◌, List, [], ◌∷◌, map, length, replicate, false, Some, None, refl, sym, ap, subst, ◌∙◌}
use Rattle.std.proofs.Common.{arith, find, ◌==◌, eq-eqb}
use Rattle.std.specs.Prelude.{slice_get, AllPairs, reverse, filter}
use Rattle.std.specs.Option.{option_map}
use Rattle.std.proofs.lemmas.Bool.{cond-true, cond-false, ne_eqb}
use Rattle.std.proofs.lemmas.Option.{same_Some, none-some, slice_get-map, get_or_from_slice_get, slice_get_within}
use Rattle.scenario_text.specs.ScenarioParts.{ScenarioParts}
use Rattle.scenario_text.specs.ScenarioFacts.{IsSoundScenario}
use Rattle.scenario_text.specs.declared.lines.NodeLine.{NodeLine}
use Rattle.scenario_text.specs.FloodParts.{node_id}
use Rattle.radio_model.specs.Stations.{MediumState, nodes_of, is_station_of, station_of, fresh, stations_from}
use Rattle.event_calendar.specs.Orders.{Due, nothing_due}
use Rattle.bus_rules.specs.Cores.{Setup}
use Rattle.air_log.specs.declared.entry.Entry.{Entry}
use Rattle.air_log.specs.Devices.{Device, at_rest, nothing_made, seen_power}
use Rattle.air_log.specs.Lawful.{sent_by, tuned_by, heard_by}
use Rattle.scenario_text.specs.Setups.{setup_of}
use Rattle.lwb_base.proofs.Elements.{not_in_none}
use Rattle.air_log.specs.DeviceStates.{DeviceState}
use Rattle.world_engine.specs.Fields.{FieldState, IsField, FieldShows, setup_of_device, id_of}
use Rattle.world_engine.specs.FieldSteps.{IsFirstField, first_device}
use Rattle.world_engine.specs.Moments.{Before}
use Rattle.world_engine.specs.Running.{IsRunning, IsOnTrail, setup_by}
use Rattle.world_engine.proofs.FirstField.{first_field}
use Rattle.world_engine.proofs.LinesTold.{first_moment}
use Rattle.world_engine.proofs.AirInTime.{first_on_air}

-- the station of a node at first
behind : (u : ℕ) (vs : List ℕ) (i v : ℕ) → AllPairs (λ a b. a < b) (u ∷ vs) → slice_get vs i ≡ Some v → u < v
behind u vs i v ascend at =
    let pair = ascend 0 (suc i) 0 (omega arith) (omega (arith, slice_get_within vs i v at)) in
    let there = get_or_from_slice_get vs i v 0 at in
    omega (arith, pair, there)

fresh_at : (k : ℕ) (vs : List ℕ) (i v : ℕ) → AllPairs (λ a b. a < b) vs → slice_get vs i ≡ Some v
    → find (is_station_of v) (stations_from k vs) ≡ Some (fresh v (k + i))
fresh_at k [] i v ascend at = absurd (none-some _ at)
fresh_at k (u ∷ vs) zero v ascend at =
    let same : u ≡ v = same_Some _ _ at in
    cond-true (u == v) (Some (fresh u k)) (find (is_station_of v) (stations_from (k + 1) vs)) (eq-eqb u v same)
    ∙ ap (λ (x : ℕ). Some (fresh x k)) same
    ∙ ap (λ (j : ℕ). Some (fresh v j)) (omega arith)
fresh_at k (u ∷ vs) (suc i) v ascend at =
    let less = behind u vs i v ascend at in
    cond-false (u == v) (Some (fresh u k)) (find (is_station_of v) (stations_from (k + 1) vs)) (ne_eqb u v (λ is. omega (arith, less, is)))
    ∙ fresh_at (k + 1) vs i v (λ a b d first second. ascend (suc a) (suc b) d (omega (arith, first)) (omega (arith, second))) at
    ∙ ap (λ (j : ℕ). Some (fresh v j)) (omega arith)

same_at : {X : Type 0} (n i : ℕ) (x : X) → i < n → slice_get (replicate n x) i ≡ Some x
same_at zero i x less = absurd (omega (arith, less))
same_at (suc n) zero x less = refl
same_at (suc n) (suc i) x less = same_at n i x (omega (arith, less))

as_many : {X : Type 0} (n : ℕ) (x : X) → length (replicate n x) ≡ n
as_many zero x = refl
as_many (suc n) x = let rest = as_many n x in omega (arith, rest)

first_setups : (s : ScenarioParts) (ns : List NodeLine) → map setup_of_device (map (first_device s) ns) ≡ map (setup_by s) ns
first_setups s [] = refl
first_setups s (n ∷ ns) = ap (λ (l : List Setup). setup_of s n.node ∷ l) (first_setups s ns)

module _ (s : ScenarioParts) (clocks : ℕ → ℕ → ℕ) (sound : IsSoundScenario s) (w : FieldState) (due : List Due) (first : IsFirstField s w)
    (none : due ≡ replicate (length s.nodes) nothing_due) where
  field : IsField w
  field = first_field s sound w first.medium first.devices

  device_at : (p : ℕ) (n : NodeLine) → slice_get s.nodes p ≡ Some n → slice_get w.devices p ≡ Some (first_device s n)
  device_at p n at = ap (λ (l : List DeviceState). slice_get l p) first.devices ∙ slice_get-map (first_device s) s.nodes p ∙ ap (option_map (first_device s)) at

  station_at : (p : ℕ) (n : NodeLine) → slice_get s.nodes p ≡ Some n → station_of w.medium n.node ≡ Some (fresh n.node p)
  station_at p n at =
      ap (λ (m : MediumState). station_of m n.node) first.medium
      ∙ fresh_at 0 (map node_id s.nodes) p n.node (subst (λ (l : List ℕ). AllPairs (λ a b. a < b) l) ids field.medium.nodes.ascending)
      (slice_get-map node_id s.nodes p ∙ ap (option_map node_id) at)
      ∙ ap (λ (j : ℕ). Some (fresh n.node j)) (omega arith)
    where
      ids : nodes_of w.medium ≡ map node_id s.nodes
      ids = sym field.nodes ∙ ap (map id_of) first.devices ∙ of_nodes s.nodes
        where
          of_nodes : (ns : List NodeLine) → map id_of (map (first_device s) ns) ≡ map node_id ns
          of_nodes [] = refl
          of_nodes (n ∷ ns) = ap (λ (l : List ℕ). n.node ∷ l) (of_nodes ns)

  due_at_first : (p : ℕ) (n : NodeLine) → slice_get s.nodes p ≡ Some n → slice_get due p ≡ Some nothing_due
  due_at_first p n at = ap (λ (l : List Due). slice_get l p) none ∙ same_at (length s.nodes) p nothing_due (slice_get_within s.nodes p n at)

  shown_first : (p : ℕ) (n : NodeLine) → slice_get s.nodes p ≡ Some n → FieldShows (setup_of s n.node) 0 w due p at_rest
  shown_first p n at = record {
    state = first_device s n;
    there = device_at p n at;
    station = fresh n.node p;
    made = nothing_made;
    shows = record {
      is = refl;
      runs = refl;
      setup = refl;
      counted = record { profile = refl; sends = refl; counts = record { earlier = refl; last = refl; by_alarm = refl }; small = tt };
      few = sound.few_sends;
      channel = refl;
      tuned = record { before = record { listening = None; ended = [] }; since = tt; ended = tt; is = refl };
      taken = refl;
    };
    ended = tt;
    logged = record {
      sent = ap (λ (air : List Entry). sent_by air n.node) (sym first.air);
      tuned = ap (λ (air : List Entry). reverse (tuned_by air n.node)) (sym first.air);
      deliveries = ap (filter (λ d. d.node == n.node)) (sym first.deliveries);
    };
    known = record { there = station_at p n at; sending = refl; set = due_at_first p n at };
  }

  on_trail : (p : ℕ) (n : NodeLine) → slice_get s.nodes p ≡ Some n → IsOnTrail s clocks 0 Before w due p n.node
  on_trail p n at = record { device = at_rest; shows = shown_first p n at; at = first_moment s n.node (clocks n.node) (heard_by w.air n.node) }

  power_first : (q : Setup) (p : ℕ) (d : Device) → FieldShows q 0 w due p d → seen_power d.power ≡ (false, 0)
  power_first q p d shows =
      let there : slice_get (map (first_device s) s.nodes) p ≡ Some shows.state = ap (λ (l : List DeviceState). slice_get l p) (sym first.devices)
      ∙ shows.there in
      ap seen_power (ap (λ (x : Device). x.power) (sym shows.shows.is)) ∙ off s.nodes p shows.state there
    where
      off : (ns : List NodeLine) (i : ℕ) (x : DeviceState) → slice_get (map (first_device s) ns) i ≡ Some x → seen_power x.power ≡ (false, 0)
      off [] i x at = absurd (none-some _ at)
      off (n ∷ ns) zero x at = ap (λ (y : DeviceState). seen_power y.power) (sym (same_Some _ _ at))
      off (n ∷ ns) (suc i) x at = off ns i x at

  pub run_begins : IsRunning s clocks [] 0 Before w due
  run_begins = record {
    places = record {
      setups = ap (map setup_of_device) first.devices ∙ first_setups s s.nodes;
      field = field;
      places = ap length none ∙ as_many (length s.nodes) nothing_due;
    };
    trails = on_trail;
    air = first_on_air s w due first;
    script = record { drops = first.drops; power = power_first; lines = λ l there. absurd (not_in_none l there) };
  }
