-- A clock of a list is that of the node at its place.
use Rattle.std.proofs.Common.{◌≡◌, ℕ, zero, suc, ◌<◌, List, [], ◌∷◌, ◌==◌, length, get_or, AllPairs, refl, ◌∙◌, arith}
use Rattle.std.proofs.lemmas.Bool.{cond-true, cond-false, eq-eqb, ne_eqb}
use Rattle.scenario_text.specs.declared.lines.NodeLine.{NodeLine}
use Rattle.scenario_clocks.specs.ClockLists.{clocks_by}

pub clock_at_place : {C : Type 0} (R : C → ℕ → ℕ) (ns : List NodeLine) (cs : List C) (i : ℕ) (n : NodeLine) (c : C) → AllPairs (λ a b. a.node < b.node) ns
    → length cs ≡ length ns → i < length ns
    → clocks_by R ns cs (get_or ns i n).node ≡ R (get_or cs i c)
clock_at_place R [] cs i n c ascending long less = absurd (omega (arith, less))
clock_at_place R (m ∷ ns) [] i n c ascending long less = absurd (omega (arith, long))
clock_at_place R (m ∷ ns) (d ∷ cs) zero n c ascending long less = cond-true (m.node == m.node) (R d) (clocks_by R ns cs m.node) (eq-eqb m.node m.node refl)
clock_at_place R (m ∷ ns) (d ∷ cs) (suc i) n c ascending long less =
    let v : ℕ = (get_or ns i n).node in
    let before : m.node < v = ascending zero (suc i) n (omega arith) (omega (arith, less)) in
    cond-false (m.node == v) (R d) (clocks_by R ns cs v) (ne_eqb m.node v (λ same. omega (arith, before, same)))
    ∙ clock_at_place R ns cs i n c (λ j k e first within. ascending (suc j) (suc k) e (omega (arith, first)) (omega (arith, within))) (omega (arith, long))
    (omega (arith, less))
