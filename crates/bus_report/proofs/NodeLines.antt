-- A line for each node of a scenario.
use Rattle.std.proofs.Common.{◌≡◌, List, Contains, get_or, true, ◌==◌, ap, subst}
use Rattle.std.proofs.lemmas.Bool.{eq-eqb}
use Rattle.std.proofs.lemmas.List.Folds.{list_any_at}
use Rattle.scenario_text.specs.FloodParts.{knows}
use Rattle.scenario_text.specs.declared.lines.NodeLine.{NodeLine}

-- a node of a list is known in it
known : (ns : List NodeLine) (n : NodeLine) → Contains ns n → knows ns n.node ≡ true
known ns n (i, below, at) =
    list_any_at (λ (m : NodeLine). m.node == n.node) ns i n below (eq-eqb (get_or ns i n).node n.node (ap (λ (m : NodeLine). m.node) at))

-- and in an equal one
pub known_in : (ns others : List NodeLine) (n : NodeLine) → ns ≡ others → Contains ns n → knows others n.node ≡ true
known_in ns others n same here = subst (λ (l : List NodeLine). knows l n.node ≡ true) same (known ns n here)
