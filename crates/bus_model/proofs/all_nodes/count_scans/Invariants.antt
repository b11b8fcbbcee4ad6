use Rattle.std.proofs.Common.{◌≡◌, ℕ, map, take, drop}
use Rattle.scenario_text.specs.ScenarioParts.{ScenarioParts}
use Rattle.bus_rules.specs.States.{State}
use Rattle.bus_terms.specs.Bus.{Cost}
use Rattle.bus_terms.specs.FloodOfText.{ids}
use Rattle.bus_model.specs.FrameNodes.{nodes_with}
use Rattle.bus_model.specs.RoundCosts.{with_scan}
use Rattle.bus_model.proofs.all_nodes.count_scans.Given as goal

abbrev pub invariant-loop-cost : goal.invariant-loop-cost
invariant-loop-cost l = record {
  place : l.place ≡ l.cost-index;
  done : (s : ScenarioParts) (ranks : ℕ → ℕ) (states : ℕ → State) (cost : ℕ → Cost) → l.nodes ≡ nodes_with s ranks states → l.fn.costs ≡ map cost (ids s.nodes)
      → take l.cost-index l.costs ≡ take l.cost-index (map (λ v. with_scan (states v) (cost v)) (ids s.nodes));
  todo : drop l.cost-index l.costs ≡ drop l.cost-index l.fn.costs;
}
