-- The nodes of a scenario as those of its ratios.
use Rattle.std.proofs.Common.{◌≡◌, ℕ, ◌<◌, List, [], ◌∷◌, Bool, true, false, ◌&&◌, ◌||◌, ◌==◌, map}
use Rattle.std.proofs.Common.{Option, Some, None, IfSome, if◌then◌else◌, refl, sym, ◌∙◌, ap, subst, arith}
use Rattle.std.proofs.lemmas.Bool.{and_parts}
use Rattle.std.proofs.lemmas.List.{length-map}
use Rattle.std.specs.List.{list_any}
use Rattle.link_trace.specs.Masks.{AreNodes}
use Rattle.scenario_text.specs.FloodParts.{knows, node_id}
use Rattle.scenario_text.specs.ScenarioGrammar.{IsScenario}
use Rattle.scenario_text.specs.ScenarioParts.{ScenarioParts}
use Rattle.scenario_text.specs.declared.lines.NodeLine.{NodeLine}
use Rattle.scenario_text.proofs.SoundScenarios.{sound}
use Rattle.lwb_base.proofs.Elements.{pairs_of_map}

pub ids_are_nodes : (s : ScenarioParts) → IsScenario s → AreNodes (map node_id s.nodes)
ids_are_nodes s said =
    let is = sound s said in
    let long = length-map s.nodes node_id in
    let two = is.two_nodes in
    let few = is.few_nodes in
    record { some = omega arith; few = omega arith; ascending = pairs_of_map node_id (λ a b. a < b) s.nodes is.ascending }

id_is_there : (ns : List NodeLine) (v : ℕ) → list_any (λ x. x == v) (map node_id ns) ≡ knows ns v
id_is_there [] v = refl
id_is_there (n ∷ ns) v = ap (λ (b : Bool). (n.node == v) || b) (id_is_there ns v)

-- two of these nodes, if they are
abbrev pub found_in : ℕ → ℕ → List NodeLine → Option (ℕ × ℕ)
found_in u v ns = if knows ns u && knows ns v then Some (u, v) else None

module _ (ns : List NodeLine) (ids : List ℕ) (is : ids ≡ map node_id ns) (u v : ℕ) where
  abbrev AreThere : (ℕ × ℕ → ℕ) → Option (ℕ × ℕ) → Type 0
  AreThere part o = IfSome o (λ p. list_any (λ x. x == part p) ids ≡ true)

  there : (w : ℕ) → knows ns w ≡ true → list_any (λ x. x == w) ids ≡ true
  there w known = ap (list_any (λ x. x == w)) is ∙ id_is_there ns w ∙ known

  -- two nodes that the scenario knows are nodes of the ratios
  pub both_there : (o : Option (ℕ × ℕ)) → o ≡ found_in u v ns → AreThere (λ p. p.0) o × AreThere (λ p. p.1) o
  both_there o found = subst (λ (x : Option (ℕ × ℕ)). AreThere (λ p. p.0) x × AreThere (λ p. p.1) x) (sym found) (by (knows ns u && knows ns v) refl)
    where
      by : (b : Bool) → (knows ns u && knows ns v) ≡ b
          → AreThere (λ p. p.0) (if b then Some (u, v) else None) × AreThere (λ p. p.1) (if b then Some (u, v) else None)
      by true known = (let parts = and_parts (knows ns u) (knows ns v) known in (there u parts.0, there v parts.1))
      by false known = (tt, tt)
