-- The clocks of a list of nodes, each at the place of its node.
use Rattle.std.specs.Prelude.{ℕ, List, [], ◌∷◌, ◌==◌, if◌then◌else◌}
use Rattle.scenario_text.specs.declared.lines.NodeLine.{NodeLine}

-- what the clock of node v reads at each true tick, where R says what a clock reads. Where v has none, it is the true tick
abbrev pub clocks_by : {C : Type 0} → (C → ℕ → ℕ) → List NodeLine → List C → ℕ → ℕ → ℕ
clocks_by R [] cs v = λ t. t
clocks_by R (n ∷ ns) [] v = λ t. t
clocks_by R (n ∷ ns) (c ∷ cs) v = if n.node == v then R c else clocks_by R ns cs v
