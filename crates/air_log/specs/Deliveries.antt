-- The deliveries of a run, read off its log.
use Rattle.std.specs.Prelude.{ℕ, List, Bool, flat_map}
use Rattle.std.specs.Ordering.{nat_cmp, ordering_then, is_lt}
use Rattle.scenario_text.specs.ScenarioParts.{ScenarioParts}
use Rattle.scenario_text.specs.declared.lines.NodeLine.{NodeLine}
use Rattle.bus_rules.specs.declared.delivery.Delivery.{Delivery}
use Rattle.air_log.specs.declared.entry.Entry.{Entry}
use Rattle.air_log.specs.Lawful.{trail_in}
use Rattle.lwb_base.specs.Sorting.{in_order}

-- by frame, rank, slot and node
abbrev pub delivery_comes_before : Delivery → Delivery → Bool
delivery_comes_before a b =
    is_lt (ordering_then (ordering_then (ordering_then (nat_cmp a.frame b.frame) (nat_cmp a.rank b.rank)) (nat_cmp a.slot b.slot)) (nat_cmp a.node b.node))

-- what a node of the scenario delivers by its trail
abbrev pub deliveries_of_node : ScenarioParts → (ℕ → ℕ → ℕ) → List Entry → NodeLine → List Delivery
deliveries_of_node s clocks air n = (trail_in s clocks air n.node).made.deliveries

-- what all nodes deliver, by frame, rank, slot and node
abbrev pub deliveries_of : ScenarioParts → (ℕ → ℕ → ℕ) → List Entry → List Delivery
deliveries_of s clocks air = in_order delivery_comes_before (flat_map (deliveries_of_node s clocks air) s.nodes)
