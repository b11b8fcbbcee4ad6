-- Nodes in the order of their ids, and a node more among them.
use Rattle.std.proofs.Common.{◌≡◌, ℕ, zero, suc, ◌<◌, ◌≤◌, List, [], ◌∷◌, Bool, true, false, ◌==◌, nat_lt, cond, length}
use Rattle.std.proofs.Common.{map, get_or, count_by, insert, refl, sym, ◌∙◌, ap, subst, arith, inl, inr}
use Rattle.std.proofs.lemmas.Bool.{cond-true, cond-false, ltb-true, ltb-false, le-ltb, or_left, or_right}
use Rattle.std.proofs.lemmas.Bool.{or_cases, or_parts, eqb-false, cases_order, cases_Bool, false≢true}
use Rattle.std.proofs.lemmas.List.{get_or-map, length-map}
use Rattle.std.proofs.lemmas.List.Sums.{sum_by-cons}
use Rattle.link_trace.specs.Masks.{AreNodes}
use Rattle.std.proofs.lemmas.List.Elements.{All-from_recursion}
use Rattle.std.specs.List.{AllByRecursion, AllPairs}
use Rattle.lwb_base.specs.declared.limits.TheConstants.{MOST_NODES}
use Rattle.scenario_text.specs.FloodParts.{knows, node_id}
use Rattle.scenario_text.specs.Network.{with_node}
use Rattle.scenario_text.specs.FloodDrafts.{Rises}
use Rattle.scenario_text.specs.declared.lines.NodeLine.{NodeLine}

abbrev pub below : NodeLine → NodeLine → Bool
below n m = nat_lt m.node n.node

-- the node after those with lesser ids
abbrev pub put : NodeLine → List NodeLine → List NodeLine
put n [] = n ∷ []
put n (m ∷ ms) = cond (below n m) (m ∷ put n ms) (n ∷ m ∷ ms)

above_all : (n m : NodeLine) (ms : List NodeLine) → n.node ≤ m.node → AllByRecursion (λ x. m.node < x.node) ms → AllByRecursion (λ x. n.node ≤ x.node) ms
above_all n m [] le all = tt
above_all n m (x ∷ ms) le all = let first = all.0 in (omega (arith, le, first), above_all n m ms le all.1)

none_below : (n : NodeLine) (ms : List NodeLine) → AllByRecursion (λ x. n.node ≤ x.node) ms → count_by (below n) ms ≡ 0
none_below n [] all = refl
none_below n (m ∷ ms) all =
    let first = all.0 in
    let head : ◌≡◌ {A = ℕ} (cond (below n m) 1 0) 0 = cond-false (below n m) 1 0 (le-ltb m.node n.node first) in
    omega (arith, sum_by-cons (λ x. cond (below n x) 1 0) m ms, head, none_below n ms all.1)

put_more : (n m : NodeLine) (ms : List NodeLine) → below n m ≡ true → with_node n ms ≡ put n ms → with_node n (m ∷ ms) ≡ m ∷ put n ms
put_more n m ms is rest =
    let head : ◌≡◌ {A = ℕ} (cond (below n m) 1 0) 1 = cond-true (below n m) 1 0 is in
    let count : count_by (below n) (m ∷ ms) ≡ suc (count_by (below n) ms) = omega (arith, sum_by-cons (λ x. cond (below n x) 1 0) m ms, head) in
    ap (λ (c : ℕ). insert (m ∷ ms) c n) count ∙ ap (λ (l : List NodeLine). m ∷ l) rest

put_here : (n m : NodeLine) (ms : List NodeLine) → below n m ≡ false → AllByRecursion (λ x. m.node < x.node) ms → with_node n (m ∷ ms) ≡ n ∷ m ∷ ms
put_here n m ms is all =
    let le = ltb-false m.node n.node is in
    ap (λ (c : ℕ). insert (m ∷ ms) c n) (none_below n (m ∷ ms) (le, above_all n m ms le all))

pub with_node-put : (n : NodeLine) (ms : List NodeLine) → Rises ms → with_node n ms ≡ put n ms
with_node-put n [] rises = refl
with_node-put n (m ∷ ms) rises =
    elim (cases_Bool (below n m)) [
      | inl is ↦ put_more n m ms is (with_node-put n ms rises.1) ∙ sym (cond-true (below n m) (m ∷ put n ms) (n ∷ m ∷ ms) is)
      | inr not ↦ put_here n m ms not rises.0 ∙ sym (cond-false (below n m) (m ∷ put n ms) (n ∷ m ∷ ms) not)
    ]

-- what holds of all nodes and of the new one
put_all : (P : NodeLine → Type 0) (n : NodeLine) (ms : List NodeLine) → P n → AllByRecursion P ms → AllByRecursion P (put n ms)
put_all P n [] here all = (here, tt)
put_all P n (m ∷ ms) here all =
    elim (cases_Bool (below n m)) [
      | inl is ↦ subst (AllByRecursion P) (sym (cond-true (below n m) (m ∷ put n ms) (n ∷ m ∷ ms) is)) (all.0, put_all P n ms here all.1)
      | inr not ↦ subst (AllByRecursion P) (sym (cond-false (below n m) (m ∷ put n ms) (n ∷ m ∷ ms) not)) (here, (all.0, all.1))
    ]

over_all : (n m : NodeLine) (ms : List NodeLine) → n.node < m.node → AllByRecursion (λ x. m.node < x.node) ms → AllByRecursion (λ x. n.node < x.node) ms
over_all n m [] lt all = tt
over_all n m (x ∷ ms) lt all = let first = all.0 in (omega (arith, lt, first), over_all n m ms lt all.1)

put_rises : (n : NodeLine) (ms : List NodeLine) → knows ms n.node ≡ false → Rises ms → Rises (put n ms)
put_rises n [] fresh rises = (tt, tt)
put_rises n (m ∷ ms) fresh rises =
    let other = or_parts (m.node == n.node) (knows ms n.node) fresh in
    let differ = eqb-false m.node n.node other.0 in
    elim (cases_Bool (below n m)) [
      | inl is ↦
          subst Rises (sym (cond-true (below n m) (m ∷ put n ms) (n ∷ m ∷ ms) is))
          (put_all (λ x. m.node < x.node) n ms (ltb-true m.node n.node is) rises.0, put_rises n ms other.1 rises.1)
      | inr not ↦
          let le = ltb-false m.node n.node not in
          let lt : n.node < m.node = elim (cases_order m.node n.node)
          [ inl same ↦ absurd (differ same) | inr (inl less) ↦ absurd (omega (arith, le, less)) | inr (inr more) ↦ more ] in
          subst Rises (sym (cond-false (below n m) (m ∷ put n ms) (n ∷ m ∷ ms) not)) ((lt, over_all n m ms lt rises.0), rises)
    ]

put_length : (n : NodeLine) (ms : List NodeLine) → length (put n ms) ≡ suc (length ms)
put_length n [] = refl
put_length n (m ∷ ms) =
    elim (cases_Bool (below n m)) [
      | inl is ↦ ap length (cond-true (below n m) (m ∷ put n ms) (n ∷ m ∷ ms) is) ∙ ap suc (put_length n ms)
      | inr not ↦ ap length (cond-false (below n m) (m ∷ put n ms) (n ∷ m ∷ ms) not)
    ]

put_knows : (n : NodeLine) (v : ℕ) (ms : List NodeLine) → knows ms v ≡ true → knows (put n ms) v ≡ true
put_knows n v [] known = absurd (false≢true known)
put_knows n v (m ∷ ms) known =
    elim (cases_Bool (below n m)) [
      | inl is ↦
          subst (λ (l : List NodeLine). knows l v ≡ true) (sym (cond-true (below n m) (m ∷ put n ms) (n ∷ m ∷ ms) is))
          (elim (or_cases (m.node == v) (knows ms v) known) [ inl here ↦ or_left _ _ here | inr later ↦ or_right _ _ (put_knows n v ms later) ])
      | inr not ↦ subst (λ (l : List NodeLine). knows l v ≡ true) (sym (cond-false (below n m) (m ∷ put n ms) (n ∷ m ∷ ms) not)) (or_right _ _ known)
    ]

-- and so with the node at its place
pub with_node-all : (P : NodeLine → Type 0) (n : NodeLine) (ms : List NodeLine) → Rises ms → P n → AllByRecursion P ms → AllByRecursion P (with_node n ms)
with_node-all P n ms rises here all = subst (AllByRecursion P) (sym (with_node-put n ms rises)) (put_all P n ms here all)

pub with_node-rises : (n : NodeLine) (ms : List NodeLine) → knows ms n.node ≡ false → Rises ms → Rises (with_node n ms)
with_node-rises n ms fresh rises = subst Rises (sym (with_node-put n ms rises)) (put_rises n ms fresh rises)

pub with_node-length : (n : NodeLine) (ms : List NodeLine) → Rises ms → length (with_node n ms) ≡ suc (length ms)
with_node-length n ms rises = ap length (with_node-put n ms rises) ∙ put_length n ms

pub with_node-knows : (n : NodeLine) (v : ℕ) (ms : List NodeLine) → Rises ms → knows ms v ≡ true → knows (with_node n ms) v ≡ true
with_node-knows n v ms rises known = subst (λ (l : List NodeLine). knows l v ≡ true) (sym (with_node-put n ms rises)) (put_knows n v ms known)

-- of two places the later has the greater id
pub pairs_rise : (ns : List NodeLine) → Rises ns → AllPairs (λ a b. a.node < b.node) ns
pairs_rise [] rises i j d before within = absurd (omega arith)
pairs_rise (n ∷ ns) rises zero zero d before within = absurd (omega arith)
pairs_rise (n ∷ ns) rises zero (suc j) d before within = All-from_recursion (λ (m : NodeLine). n.node < m.node) ns rises.0 j d (omega arith)
pairs_rise (n ∷ ns) rises (suc i) zero d before within = absurd (omega arith)
pairs_rise (n ∷ ns) rises (suc i) (suc j) d before within = pairs_rise ns rises.1 i j d (omega arith) (omega arith)

-- and so have their ids
ids_rise : (ns : List NodeLine) → Rises ns → AllPairs (λ a b. a < b) (map node_id ns)
ids_rise [] rises i j d before within = absurd (omega arith)
ids_rise (n ∷ ns) rises zero zero d before within = absurd (omega arith)
ids_rise (n ∷ ns) rises zero (suc j) d before within =
    let below : j < length ns = omega (arith, within, length-map ns node_id) in
    let at : get_or (map node_id ns) j d ≡ (get_or ns j n).node = get_or-map node_id ns j n d below in
    let lt : n.node < (get_or ns j n).node = All-from_recursion (λ (m : NodeLine). n.node < m.node) ns rises.0 j n below in
    omega (arith, at, lt)
ids_rise (n ∷ ns) rises (suc i) zero d before within = absurd (omega arith)
ids_rise (n ∷ ns) rises (suc i) (suc j) d before within = ids_rise ns rises.1 i j d (omega arith) (omega arith)

-- a trace may be sealed with them
pub nodes_seal : (ns : List NodeLine) (ids : List ℕ) → Rises ns → 2 ≤ length ns → length ns ≤ MOST_NODES → ids ≡ map (λ n. n.node) ns → AreNodes ids
nodes_seal ns ids rises some few is =
    subst AreNodes (sym is) (record {
      some = omega (arith, some, length-map ns node_id);
      few = omega (arith, few, length-map ns node_id);
      ascending = ids_rise ns rises;
    })
