-- The nodes and rates of a made scenario.
use Rattle.std.proofs.Common.{◌≡◌, ℕ, ◌+◌, ◌-◌, ◌*◌, ◌%◌, ◌<◌, ◌≤◌, List, true, ◌==◌, map, All, refl, ◌∙◌, ap, arith}
use Rattle.std.proofs.lemmas.Bool.{eq-eqb}
use Rattle.std.proofs.lemmas.Int.{ints}
use Rattle.std.proofs.lemmas.List.Elements.{All-map}
use Rattle.std.proofs.lemmas.List.Folds.{list_any_at}
use Rattle.std.proofs.lemmas.List.FromFn.{length-map-range_with_len, get_or-map-range_with_len}
use Rattle.std.specs.Int.RustNames.{unsigned_abs}
use Rattle.std.specs.List.{AllPairs}
use Rattle.std.specs.Prelude.{pos, ◌-ℤ◌}
use Rattle.std.specs.declared.cmp.Ordering.TheVariants.{Less}
use Rattle.lwb_base.proofs.Orders.{compares_less}
use Rattle.link_trace.specs.Order.{Ascends}
use Rattle.rand_pcg.specs.Lcg.{Lcg}
use Rattle.scenario_text.specs.FloodParts.{knows}
use Rattle.scenario_text.specs.PartsInOrder.{IsNodeLine, IsRateLine, by_rate}
use Rattle.scenario_text.specs.ScenarioParts.{ScenarioParts}
use Rattle.scenario_text.specs.declared.lines.NodeLine.{NodeLine}
use Rattle.scenario_maker.specs.Drawn.{drawn_word}
use Rattle.scenario_maker.specs.Made.{all_nodes, node_line, rate_line}
use Rattle.scenario_maker.proofs.Ranges.{all_range, pairs_range}

pub known : (g : Lcg) (n v : ℕ) → 1 ≤ v → v ≤ n → knows (map (node_line g) (all_nodes n)) v ≡ true
known g n v some few =
    let here = get_or-map-range_with_len (node_line g) 1 n (v - 1) v (node_line g v) (omega arith) (omega arith) in
    list_any_at (λ (m : NodeLine). m.node == v) (map (node_line g) (all_nodes n)) (v - 1) (node_line g v)
    (omega (arith, length-map-range_with_len (node_line g) 1 n))
    (ap (λ (m : NodeLine). m.node == v) here ∙ eq-eqb v v refl)

pub node_lines : (g : Lcg) (n : ℕ) → n ≤ 64 → All IsNodeLine (map (node_line g) (all_nodes n))
node_lines g n few =
    All-map IsNodeLine (node_line g) (all_nodes n)
    (all_range (λ i. IsNodeLine (node_line g i)) 1 n (λ i low high. record { id = (low, omega arith); offset = omega arith }))

pub nodes_ascend : (g : Lcg) (n : ℕ) → AllPairs (λ a b. a.node < b.node) (map (node_line g) (all_nodes n))
nodes_ascend g n = pairs_range (λ a b. a.node < b.node) (node_line g) 1 n (λ i j less. less)

small_rate : (x : ℕ) → unsigned_abs (pos (x % 41) -ℤ pos 20) ≤ 20
small_rate x = omega (arith, ints)

pub rate_lines : (g : Lcg) (n : ℕ) (s : ScenarioParts) → s.nodes ≡ map (node_line g) (all_nodes n) → All (IsRateLine s) (map (rate_line g) (all_nodes n))
rate_lines g n s is =
    All-map (IsRateLine s) (rate_line g) (all_nodes n)
    (all_range (λ i. IsRateLine s (rate_line g i)) 1 n (λ i low high. record {
      known = ap (λ (ns : List NodeLine). knows ns i) is ∙ known g n i low (omega arith);
      tick = omega arith;
      millionths = small_rate (drawn_word g (2 * (i - 1) + 1));
    }))

pub rates_ascend : (g : Lcg) (n : ℕ) → Ascends by_rate (map (rate_line g) (all_nodes n))
rates_ascend g n = pairs_range (λ a b. by_rate a b ≡ Less) (rate_line g) 1 n (λ i j less. rw (compares_less i j less) refl)
