-- The parts that `made` puts together are those of the made scenario.
use Rattle.std.proofs.Common.{◌≡◌, ℕ, zero, suc, ◌+◌, ◌-◌, ◌*◌, ◌≤◌, ◌<◌, List, [], ◌∷◌, map, refl, ◌∙◌, ap, subst, arith}
use Rattle.std.proofs.lemmas.List.{map-id}
use Rattle.std.proofs.lemmas.List.FromFn.{length-range_with_len}
use Rattle.std.specs.List.{AllPairs, range_with_len}
use Rattle.lwb_base.specs.Profile.{Numbers, one}
use Rattle.link_trace.specs.Masks.{AreNodes}
use Rattle.link_trace.specs.Passes.{Lines}
use Rattle.link_trace.specs.Sealed.{no_lines}
use Rattle.link_trace.specs.declared.lines.LoseLine.{LoseLine}
use Rattle.rand_pcg.specs.Lcg.{Lcg}
use Rattle.scenario_text.specs.ScenarioParts.{ScenarioParts}
use Rattle.scenario_text.specs.declared.lines.NodeLine.{NodeLine}
use Rattle.scenario_text.specs.declared.lines.RateLine.{RateLine}
use Rattle.scenario_text.specs.declared.script.ScriptLine.{ScriptLine}
use Rattle.scenario_maker.specs.Drawn.{seeded, later}
use Rattle.scenario_maker.specs.Made.{all_nodes, node_line, rate_line, tree_pairs, random_pairs, with_pairs, losses, script, made}
use Rattle.scenario_maker.proofs.LoopSteps.{steps_to}
use Rattle.scenario_maker.proofs.Ranges.{pairs_range}

pub nodes_to_seal : (n : ℕ) → 1 ≤ n → n ≤ 64 → AreNodes (all_nodes n)
nodes_to_seal n some few = record {
  some = omega (arith, some, length-range_with_len 1 n);
  few = omega (arith, few, length-range_with_len 1 n);
  ascending = subst (AllPairs (λ a b. a < b)) (map-id (all_nodes n)) (pairs_range (λ a b. a < b) (λ (x : ℕ). x) 1 n (λ i j less. less));
}

-- the nodes of the node lines
pub ids_of_lines : (g : Lcg) (a n : ℕ) → map (λ (m : NodeLine). m.node) (map (node_line g) (range_with_len a n)) ≡ range_with_len a n
ids_of_lines g a zero = refl
ids_of_lines g a (suc n) = ap (λ (is : List ℕ). a ∷ is) (ids_of_lines g (a + 1) n)

-- the trace, by its links and then its lose lines
pub trace_is : (t0 t1 t2 t3 : Lines) (trees pairs : List (ℕ × ℕ)) (lost : List LoseLine) → t0 ≡ no_lines
    → t1 ≡ record t0 { links = with_pairs t0.links trees } → t2 ≡ record t1 { links = with_pairs t1.links pairs }
    → t3 ≡ record t2 { losses = lost } → t3 ≡ record { links = with_pairs (with_pairs [] trees) pairs; losses = lost; cuts = []; captures = [] }
trace_is t0 t1 t2 t3 trees pairs lost none first second third =
    let planted : Lines → Lines = λ t. record t { links = with_pairs t.links trees } in
    let paired : Lines → Lines = λ t. record t { links = with_pairs t.links pairs } in
    let dimmed : Lines → Lines = λ t. record t { losses = lost } in
    third ∙ ap dimmed (second ∙ ap paired (first ∙ ap planted none))

pub parts_are : (seed n frames : ℕ) (p : Numbers) (nodes : List NodeLine) (rates : List RateLine) (hosts : List ℕ) (trace : Lines)
    (lines : List ScriptLine) → p ≡ one
    → nodes ≡ map (node_line (seeded seed)) (all_nodes n) → rates ≡ map (rate_line (seeded seed)) (all_nodes n) → hosts ≡ 1 ∷ n ∷ []
    → trace ≡ record {
      links = with_pairs (with_pairs [] (tree_pairs (later (2 * n) (seeded seed)) n)) (random_pairs (later (3 * n - 1) (seeded seed)) n);
      losses = losses (later (6 * n - 2) (seeded seed)) n frames;
      cuts = [];
      captures = [];
    }
    → lines ≡ script (later (5 * n - 1) (seeded seed)) n frames
    → ◌≡◌ {A = ScenarioParts}
    (record { profile = p; frames = frames; sends = 2; nodes = nodes; rates = rates; hosts = hosts; trace = trace; script = lines }) (made seed n frames)
unfolding made
parts_are seed n frames p nodes rates hosts trace lines p_is nodes_are rates_are hosts_are trace_is lines_are =
    let at : Numbers → List NodeLine → List RateLine → List ℕ → Lines → List ScriptLine → ScenarioParts =
    λ p ns rs hs t ls. record { profile = p; frames = frames; sends = 2; nodes = ns; rates = rs; hosts = hs; trace = t; script = ls } in
    let m : ScenarioParts = made seed n frames in
    ap (λ (x : Numbers). at x nodes rates hosts trace lines) p_is ∙ ap (λ (x : List NodeLine). at one x rates hosts trace lines) nodes_are
    ∙ ap (λ (x : List RateLine). at one m.nodes x hosts trace lines) rates_are ∙ ap (λ (x : List ℕ). at one m.nodes m.rates x trace lines) hosts_are
    ∙ ap (λ (x : Lines). at one m.nodes m.rates m.hosts x lines) trace_is ∙ ap (λ (x : List ScriptLine). at one m.nodes m.rates m.hosts m.trace x) lines_are

-- and so they are as the calls draw them one after another
pub made_is : (seed n frames m : ℕ) (d0 d1 d2 d3 d4 : Lcg) (p : Numbers) (nodes : List NodeLine) (rates : List RateLine) (hosts : List ℕ)
    (t0 t1 t2 t3 : Lines) (lines : List ScriptLine) → m ≡ n → 1 ≤ m
    → d0 ≡ seeded seed → d1 ≡ later (2 * m) d0 → d2 ≡ later (m - 1) d1 → d3 ≡ later (2 * m) d2 → d4 ≡ later (m - 1) d3 → p ≡ one → nodes ≡ map
    (node_line d0) (all_nodes m)
    → rates ≡ map (rate_line d0) (all_nodes m) → hosts ≡ 1 ∷ m ∷ [] → t0 ≡ no_lines → t1 ≡ record t0 { links = with_pairs t0.links (tree_pairs d1 m) }
    → t2 ≡ record t1 { links = with_pairs t1.links (random_pairs d2 m) } → lines ≡ script d3 m frames → t3 ≡ record t2 { losses = losses d4 m frames }
    → ◌≡◌ {A = ScenarioParts}
    (record { profile = p; frames = frames; sends = 2; nodes = nodes; rates = rates; hosts = hosts; trace = t3; script = lines }) (made seed n frames)
made_is seed n frames m d0 d1 d2 d3 d4 p nodes rates hosts t0 t1 t2 t3 lines
    count some begun first second third fourth p_is nodes_are rates_are hosts_are none planted paired lines_are dimmed =
    let g = seeded seed in
    let e1 : d1 ≡ later (2 * m) g = first ∙ ap (later (2 * m)) begun in
    let e2 : d2 ≡ later (3 * m - 1) g = steps_to (2 * m) (m - 1) (3 * m - 1) g d1 d2 e1 second (omega (arith, some)) in
    let e3 : d3 ≡ later (5 * m - 1) g = steps_to (3 * m - 1) (2 * m) (5 * m - 1) g d2 d3 e2 third (omega (arith, some)) in
    let e4 : d4 ≡ later (6 * m - 2) g = steps_to (5 * m - 1) (m - 1) (6 * m - 2) g d3 d4 e3 fourth (omega (arith, some)) in
    let with_trees : Lcg → Lines = λ h. record t0 { links = with_pairs t0.links (tree_pairs h m) } in
    let with_random : Lcg → Lines = λ h. record t1 { links = with_pairs t1.links (random_pairs h m) } in
    let with_lost : Lcg → Lines = λ h. record t2 { losses = losses h m frames } in
    parts_are seed m frames p nodes rates hosts t3 lines p_is (nodes_are ∙ ap (λ (h : Lcg). map (node_line h) (all_nodes m)) begun)
    (rates_are ∙ ap (λ (h : Lcg). map (rate_line h) (all_nodes m)) begun) hosts_are
    (trace_is t0 t1 t2 t3 (tree_pairs (later (2 * m) g) m) (random_pairs (later (3 * m - 1) g) m) (losses (later (6 * m - 2) g) m frames) none
    (planted ∙ ap with_trees e1) (paired ∙ ap with_random e2) (dimmed ∙ ap with_lost e4))
    (lines_are ∙ ap (λ (h : Lcg). script h m frames) e3)
    ∙ ap (λ (k : ℕ). made seed k frames) count
