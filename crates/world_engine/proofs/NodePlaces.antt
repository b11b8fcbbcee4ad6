-- The nodes of a scenario: their ids and their places.
use Rattle.std.proofs.Common.{◌≡◌, ◌<◌, ℕ, zero, suc, List, [], ◌∷◌, map, Bool, true, false, ◌==◌, cond, Option, Some, None, inl, inr, refl, sym, ◌∙◌, ap}
use Rattle.std.proofs.Common.{subst, arith, eq-eqb}
use Rattle.std.specs.Prelude.{Contains, AllPairs, slice_get}
use Rattle.std.specs.List.{filter}
use Rattle.std.specs.Option.{option_map}
use Rattle.std.proofs.lemmas.Bool.{true≢false, false≢true, or_cases, or_left, or_right, eqb-true, ne_eqb}
use Rattle.std.proofs.lemmas.Option.{slice_get_within, get_or_from_slice_get}
use Rattle.scenario_text.specs.FloodParts.{knows, node_id}
use Rattle.scenario_text.specs.declared.lines.NodeLine.{NodeLine}
use Rattle.lwb_base.proofs.Elements.{not_in_none, contains_head, contains_tail, contains_cases, map_from, pairs_head, pairs_tail, Distinct}

-- a known id is that of a node at some place
pub place_of_known : (ns : List NodeLine) (v : ℕ) → knows ns v ≡ true → (p : ℕ) × (n : NodeLine) × (slice_get ns p ≡ Some n) × (n.node ≡ v)
place_of_known [] v is = absurd (false≢true is)
place_of_known (n ∷ ns) v is =
    elim (or_cases (n.node == v) (knows ns v) is) [
      | inl here ↦ (zero, n, refl, eqb-true n.node v here)
      | inr later ↦ (let w = place_of_known ns v later in (suc w.0, w.1, w.2, w.3))
    ]

pub id_known : (ns : List NodeLine) (v : ℕ) → Contains (map node_id ns) v → knows ns v ≡ true
id_known [] v there = absurd (not_in_none v there)
id_known (n ∷ ns) v there =
    elim (contains_cases n.node (map node_id ns) v there) [
      | inl is ↦ or_left (n.node == v) (knows ns v) (eq-eqb n.node v is)
      | inr later ↦ or_right (n.node == v) (knows ns v) (id_known ns v later)
    ]

pub known_id : (ns : List NodeLine) (v : ℕ) → knows ns v ≡ true → Contains (map node_id ns) v
known_id [] v is = absurd (false≢true is)
known_id (n ∷ ns) v is =
    elim (or_cases (n.node == v) (knows ns v) is) [
      | inl here ↦ subst (λ (u : ℕ). Contains (n.node ∷ map node_id ns) u) (eqb-true n.node v here) (contains_head n.node (map node_id ns))
      | inr later ↦ contains_tail n.node (map node_id ns) v (known_id ns v later)
    ]

-- a known id is not one that is unknown
pub not_unknown : (ns : List NodeLine) (u v : ℕ) → knows ns u ≡ true → knows ns v ≡ false → (u == v) ≡ false
not_unknown ns u v known unknown = ne_eqb u v (λ same. true≢false (sym known ∙ ap (knows ns) same ∙ unknown))

-- ids that ascend differ
pub distinct_ids : (ns : List NodeLine) → AllPairs (λ a b. a.node < b.node) ns → Distinct (map node_id ns)
distinct_ids [] ascend = tt
distinct_ids (n ∷ ns) ascend = (
  λ there. (
      let w = map_from node_id ns n.node there in
      let up : n.node < w.0.node = pairs_head (λ (a b : NodeLine). a.node < b.node) n ns ascend w.0 w.1 in
      let same : w.0.node ≡ n.node = w.2 in
      omega arith
      ),
  distinct_ids ns (pairs_tail (λ (a b : NodeLine). a.node < b.node) n ns ascend),
)

module _ {X : Type 0} where
  pub at_contains : (xs : List X) (p : ℕ) (x : X) → slice_get xs p ≡ Some x → Contains xs x
  at_contains xs p x is = (p, slice_get_within xs p x is, get_or_from_slice_get xs p x x is)

  -- what a list has at a place whose image is known
  pub of_image : {Y : Type 0} (f : X → Y) (o : Option X) (y : Y) → option_map f o ≡ Some y → (x : X) × (o ≡ Some x) × (f x ≡ y)
  of_image f None y is = cc
  of_image {Y = Y} f (Some x) y is = (x, refl, cc)

  -- a filter that nothing passes
  pub filter_none : (p : X → Bool) (xs : List X) → ((x : X) → Contains xs x → p x ≡ false) → filter p xs ≡ []
  filter_none p [] none = refl
  filter_none p (x ∷ xs) none =
      ap (λ (b : Bool). cond b (x ∷ filter p xs) (filter p xs)) (none x (contains_head x xs))
      ∙ filter_none p xs (λ y there. none y (contains_tail x xs y there))

  pub same_some : (x y : X) → Some x ≡ Some y → x ≡ y
  same_some x y is = cc
