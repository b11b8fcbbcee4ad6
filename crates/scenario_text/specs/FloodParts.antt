-- What a flood text says, and what is true of each.
use Rattle.std.specs.Prelude.{◌≡◌, ◌<◌, ◌≤◌, ◌^◌, ℕ, List, map, filter, Bool, true, length, ◌==◌, All}
use Rattle.std.specs.Int.RustNames.{unsigned_abs}
use Rattle.std.specs.List.{list_any, AllPairs}
use Rattle.lwb_base.specs.declared.limits.TheConstants.{DRIFT_BOUND, MOST_NODES}
use Rattle.link_trace.specs.Passes.{Lines}
use Rattle.link_trace.specs.Sealed.{Traced}
use Rattle.scenario_text.specs.declared.lines.NodeLine.{NodeLine}
use Rattle.scenario_text.specs.declared.lines.RateLine.{RateLine}

-- the most transmissions of a node, the nodes, the rates of their clocks, the trace, and the starting node
pub record FloodParts : Type 0 where
  pub sends : ℕ
  pub nodes : List NodeLine
  pub rates : List RateLine
  pub trace : Lines
  pub start : ℕ

abbrev pub node_id : NodeLine → ℕ
node_id n = n.node

-- v is the id of one of these nodes
abbrev pub knows : List NodeLine → ℕ → Bool
knows ns v = list_any (λ n. n.node == v) ns

-- the trace is sealed with these nodes
abbrev pub IsSealed : Traced → List NodeLine → Type 0
IsSealed t ns = t.nodes ≡ map (λ n. n.node) ns

pub record IsSound (f : FloodParts) : Type 0 where
  pub some_sends : 1 ≤ f.sends
  pub few_sends : f.sends ≤ 4
  pub two_nodes : 2 ≤ length f.nodes
  pub few_nodes : length f.nodes ≤ MOST_NODES
  pub ascending : AllPairs (λ a b. a.node < b.node) f.nodes
  pub offsets : All (λ n. n.offset ≤ 256000) f.nodes
  pub start_known : knows f.nodes f.start ≡ true
  pub rates_known : All (λ r. knows f.nodes r.node ≡ true) f.rates
  pub rates_ascend : (i : ℕ) → AllPairs (λ a b. a.from < b.from) (filter (λ r. r.node == i) f.rates)
  pub rates_early : All (λ r. r.from < 2 ^ 47) f.rates
  pub rates_small : All (λ r. unsigned_abs r.ppm ≤ DRIFT_BOUND) f.rates
