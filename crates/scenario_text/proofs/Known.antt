-- Looking a node up, as a test, as the node that is found, and as one of the ids.
use Rattle.std.proofs.Common.{◌≡◌, ℕ, List, [], ◌∷◌, Bool, true, false, ◌||◌, ◌==◌, cond, Option, Some, None, Contains, map, refl, ap, subst}
use Rattle.std.proofs.lemmas.Bool.{eqb-true}
use Rattle.std.specs.List.{find}
use Rattle.std.specs.Option.{option_map}
use Rattle.lwb_base.proofs.Elements.{map_contains, some_of}
use Rattle.scenario_text.specs.FloodParts.{knows, node_id}
use Rattle.scenario_text.specs.declared.lines.NodeLine.{NodeLine}

one_found : (n : NodeLine) (v : ℕ) (b rest : Bool) (found : Option NodeLine) → (n.node == v) ≡ b
    → option_map (λ (n : NodeLine). n.node) found ≡ cond rest (Some v) None
    → option_map (λ (n : NodeLine). n.node) (cond b (Some n) found) ≡ cond (b || rest) (Some v) None
one_found n v true rest found is later = ap Some (eqb-true n.node v is)
one_found n v false rest found is later = later

-- the id of the node that is found
pub found_is_known : (ns : List NodeLine) (v : ℕ) → option_map (λ (n : NodeLine). n.node) (find (λ n. n.node == v) ns) ≡ cond (knows ns v) (Some v) None
found_is_known [] v = refl
found_is_known (n ∷ ns) v = one_found n v (n.node == v) (knows ns v) (find (λ n. n.node == v) ns) refl (found_is_known ns v)

-- a known node is one of the nodes
pub known_there : (ns : List NodeLine) (v : ℕ) → knows ns v ≡ true → Contains (map node_id ns) v
known_there ns v known =
    let n = some_of (λ (n : NodeLine). n.node == v) ns known in
    subst (λ (u : ℕ). Contains (map node_id ns) u) (eqb-true n.0.node v n.2) (map_contains node_id ns n.0 n.1)
