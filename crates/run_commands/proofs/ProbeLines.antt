-- A line for each node that probed.
use Rattle.std.proofs.Common.{◌≡◌, ℕ, List, [], ◌∷◌, ◌++◌, Bool, true, false, ◌==◌, ◌||◌, if◌then◌else◌, map, flat_map, Contains, refl, sym, ◌∙◌, ap, eqb-true}
use Rattle.std.proofs.lemmas.Bool.{false≢true}
use Rattle.scenario_text.specs.FloodParts.{knows}
use Rattle.scenario_text.specs.declared.lines.NodeLine.{NodeLine}
use Rattle.lwb_base.proofs.Elements.{contains_head, contains_tail}
use Rattle.host_return.specs.Returned.{count_of_node}
use Rattle.run_commands.specs.ReturnReport.{node_probes, probe_line}
use Rattle.bus_report.proofs.NodeLines.{known_in}

module _ (g : ℕ → ℕ) where
  abbrev node_count : NodeLine → ℕ × ℕ
  node_count n = (n.node, g n.node)

  by_test : (m v : ℕ) (b rest : Bool) (more : ℕ) → (m == v) ≡ b → (b || rest) ≡ true → (rest ≡ true → more ≡ g v)
      → ◌≡◌ {A = ℕ} (if b then g m else more) (g v)
  by_test m v true rest more same is later = ap g (eqb-true m v same)
  by_test m v false rest more same is later = later is

  -- the count of a node
  counted : (ns : List NodeLine) (v : ℕ) → knows ns v ≡ true → count_of_node (map node_count ns) v ≡ g v
  counted [] v is = absurd (false≢true is)
  counted (m ∷ ms) v is = by_test m.node v (m.node == v) (knows ms v) (count_of_node (map node_count ms) v) refl is (counted ms v)

  each_line : (counts : List (ℕ × ℕ)) (ns : List NodeLine) → ((n : NodeLine) → Contains ns n → count_of_node counts n.node ≡ g n.node)
      → flat_map (λ n. probe_line n.node (count_of_node counts n.node)) ns ≡ flat_map node_probes (map node_count ns)
  each_line counts [] all = refl
  each_line counts (n ∷ ns) all =
      ap (λ (k : ℕ). probe_line n.node k ++ flat_map (λ (m : NodeLine). probe_line m.node (count_of_node counts m.node)) ns) (all n (contains_head n ns))
      ∙ ap (λ (l : List ℕ). probe_line n.node (g n.node) ++ l) (each_line counts ns (λ m there. all m (contains_tail n ns m there)))

  -- the lines of all nodes are those of the counts
  pub probe_lines : (counts : List (ℕ × ℕ)) (ns : List NodeLine) → counts ≡ map node_count ns
      → flat_map (λ n. probe_line n.node (count_of_node counts n.node)) ns ≡ flat_map node_probes counts
  probe_lines counts ns are =
      each_line counts ns (λ n here. ap (λ (c : List (ℕ × ℕ)). count_of_node c n.node) are ∙ counted ns n.node (known_in ns ns n refl here))
      ∙ ap (λ (c : List (ℕ × ℕ)). flat_map node_probes c) (sym are)
