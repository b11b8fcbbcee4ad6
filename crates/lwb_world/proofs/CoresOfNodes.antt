-- A core that is found for a node is set up for it.
use Rattle.std.proofs.Common.{◌≡◌, ℕ, List, [], ◌∷◌, map, Option, Some, None, ap, sym, subst, ◌∙◌, ◌==◌, inl, inr, eq-eqb}
use Rattle.std.specs.Option.{IfSome}
use Rattle.std.proofs.lemmas.Bool.{cases_eq, cond-true, cond-false, ne_eqb}
use Rattle.scenario_text.specs.ScenarioParts.{ScenarioParts}
use Rattle.scenario_text.specs.declared.lines.NodeLine.{NodeLine}
use Rattle.bus_rules.specs.Cores.{Setup}
use Rattle.node_core.specs.Nodes.{NodeState}
use Rattle.scenario_text.specs.Setups.{setup_of}
use Rattle.world_engine.specs.Running.{setup_by}
use Rattle.world_engine.specs.Worlds.{WorldState, core_of, core_setup}
use Rattle.lwb_world.specs.Worlds.{IsLeftByRun}

found_setup : (s : ScenarioParts) (cs : List NodeState) (ns : List NodeLine) → map core_setup cs ≡ map (setup_by s) ns → (v : ℕ)
    → IfSome (core_of cs v) (λ c. c.setup ≡ setup_of s v)
found_setup s [] ns same v = tt
found_setup s (c ∷ cs) [] same v = absurd cc
found_setup s (c ∷ cs) (n ∷ ns) same v =
    let first : c.setup ≡ setup_of s n.node = cc in
    let rest : map core_setup cs ≡ map (setup_by s) ns = cc in
    elim (cases_eq c.setup.id v) [
      | inl own ↦
          let node : n.node ≡ v = ap (λ (q : Setup). q.id) (sym first) ∙ own in
          subst (λ (o : Option NodeState). IfSome o (λ d. d.setup ≡ setup_of s v))
          (sym (cond-true (c.setup.id == v) (Some c) (core_of cs v) (eq-eqb c.setup.id v own))) (first ∙ ap (setup_of s) node)
      | inr other ↦
          subst (λ (o : Option NodeState). IfSome o (λ d. d.setup ≡ setup_of s v))
          (sym (cond-false (c.setup.id == v) (Some c) (core_of cs v) (ne_eqb c.setup.id v other))) (found_setup s cs ns rest v)
    ]

pub has_setup : (w : WorldState) → IsLeftByRun w → (v : ℕ) → IfSome (core_of w.cores v) (λ c. c.setup ≡ setup_of w.scenario v)
has_setup w (clocks, old, has) v =
    subst (λ (s : ScenarioParts). IfSome (core_of w.cores v) (λ c. c.setup ≡ setup_of s v)) (sym has.scenario)
    (found_setup old.scenario w.cores old.scenario.nodes has.setups v)
