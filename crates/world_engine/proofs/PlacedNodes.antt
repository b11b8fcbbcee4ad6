-- The nodes of a scenario, their devices and their clocks, each at one place.
use Rattle.std.proofs.Common.{◌≡◌, ℕ, zero, suc, ◌<◌, List, [], ◌∷◌, map, length, Some, refl, sym, ap, subst, ◌∙◌, arith, eq-eqb}
use Rattle.std.specs.Prelude.{AllPairs, slice_get}
use Rattle.std.specs.Option.{option_map}
use Rattle.std.proofs.lemmas.Bool.{ne_eqb}
use Rattle.std.proofs.lemmas.Option.{slice_get-map, slice_get_within, same_Some, get_or_from_slice_get, none-some}
use Rattle.std.proofs.lemmas.List.{length-map}
use Rattle.scenario_text.specs.ScenarioParts.{ScenarioParts}
use Rattle.scenario_text.specs.declared.lines.NodeLine.{NodeLine}
use Rattle.event_calendar.specs.Orders.{Due}
use Rattle.bus_rules.specs.Cores.{Setup}
use Rattle.air_log.specs.ClockLists.{clocks_by}
use Rattle.air_log.specs.DeviceStates.{DeviceState}
use Rattle.world_engine.specs.Fields.{FieldState, setup_of_device, setups_of}
use Rattle.world_engine.specs.Running.{HasPlaces, setup_by}

abbrev Ascend : List NodeLine → Type 0
Ascend ns = AllPairs (λ a b. a.node < b.node) ns

in_tail : (n : NodeLine) (ns : List NodeLine) → Ascend (n ∷ ns) → Ascend ns
in_tail n ns ascend = λ i j d less within. ascend (suc i) (suc j) d (omega (arith, less)) (omega (arith, within))

behind : (m : NodeLine) (ns : List NodeLine) (p : ℕ) (n : NodeLine) → Ascend (m ∷ ns) → slice_get ns p ≡ Some n → m.node < n.node
behind m ns p n ascend at =
    subst (λ (x : NodeLine). m.node < x.node) (get_or_from_slice_get ns p n n at) (ascend 0 (suc p) n (omega arith) (omega (arith, slice_get_within ns p n at)))

-- the clock of the node at a place
pub clock_at : {C : Type 0} (R : C → ℕ → ℕ) (ns : List NodeLine) (cs : List C) (p : ℕ) (n : NodeLine) (c : C) → Ascend ns → slice_get ns p ≡ Some n
    → slice_get cs p ≡ Some c → clocks_by R ns cs n.node ≡ R c
clock_at R [] cs p n c ascend at_n at_c = absurd (none-some _ at_n)
clock_at R (m ∷ ns) [] p n c ascend at_n at_c = absurd (none-some _ at_c)
clock_at {C} R (m ∷ ns) (b ∷ cs) zero n c ascend at_n at_c =
    let is : m.node ≡ n.node = ap node_in (same_Some _ _ at_n) in
    rw (eq-eqb m.node n.node is) (ap R (same_Some _ _ at_c))
  where
    node_in : NodeLine → ℕ
    node_in x = x.node
clock_at R (m ∷ ns) (b ∷ cs) (suc p) n c ascend at_n at_c =
    let less = behind m ns p n ascend at_n in
    rw (ne_eqb m.node n.node (λ is. omega (arith, less, is))) (clock_at R ns cs p n c (in_tail m ns ascend) at_n at_c)

-- a node is at one place
pub one_place_of : (ns : List NodeLine) (p q : ℕ) (m n : NodeLine) → Ascend ns → slice_get ns p ≡ Some m → slice_get ns q ≡ Some n → m.node ≡ n.node → p ≡ q
one_place_of [] p q m n ascend at_p at_q same = absurd (none-some _ at_p)
one_place_of (x ∷ ns) zero zero m n ascend at_p at_q same = refl
one_place_of (x ∷ ns) zero (suc q) m n ascend at_p at_q same =
    let less = behind x ns q n ascend at_q in
    let is : x.node ≡ m.node = ap (λ (y : NodeLine). y.node) (same_Some _ _ at_p) in
    absurd (omega (arith, less, is, same))
one_place_of (x ∷ ns) (suc p) zero m n ascend at_p at_q same =
    let less = behind x ns p m ascend at_p in
    let is : x.node ≡ n.node = ap (λ (y : NodeLine). y.node) (same_Some _ _ at_q) in
    absurd (omega (arith, less, is, same))
one_place_of (x ∷ ns) (suc p) (suc q) m n ascend at_p at_q same = ap suc (one_place_of ns p q m n (in_tail x ns ascend) at_p at_q same)

-- what is at a place of a list
pub at_place : {X : Type 0} (xs : List X) (p : ℕ) → p < length xs → (x : X) × (slice_get xs p ≡ Some x)
at_place [] p less = absurd (omega (arith, less))
at_place (x ∷ xs) zero less = (x, refl)
at_place (x ∷ xs) (suc p) less = at_place xs p (omega (arith, less))

module _ (s : ScenarioParts) (w : FieldState) (due : List Due) (places : HasPlaces s w due) where
  -- there is a device for each node
  pub as_many_devices : length w.devices ≡ length s.nodes
  as_many_devices = sym (length-map w.devices setup_of_device) ∙ ap length places.setups ∙ length-map s.nodes (setup_by s)

  -- the node at the place of a device
  pub node_of_place : (p : ℕ) → p < length w.devices → (n : NodeLine) × (slice_get s.nodes p ≡ Some n)
  node_of_place p less = at_place s.nodes p (subst (λ (k : ℕ). p < k) as_many_devices less)

  -- a device is that of the node at its place
  pub setup_at_place : (p : ℕ) (n : NodeLine) (d : DeviceState) → slice_get s.nodes p ≡ Some n → slice_get w.devices p ≡ Some d → d.setup ≡ setup_by s n
  setup_at_place p n d at_n at_d =
      let here : slice_get (setups_of w) p ≡ Some d.setup = slice_get-map setup_of_device w.devices p ∙ ap (option_map setup_of_device) at_d in
      let there : slice_get (map (setup_by s) s.nodes) p ≡ Some (setup_by s n) = slice_get-map (setup_by s) s.nodes p ∙ ap (option_map (setup_by s)) at_n in
      same_Some _ _ (sym here ∙ ap (λ (l : List Setup). slice_get l p) places.setups ∙ there)
