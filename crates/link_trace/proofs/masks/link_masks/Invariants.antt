use Rattle.std.proofs.Common.{◌≡◌, ℕ, ◌<◌, length, get_or}
use Rattle.std.specs.List.{list_any}
use Rattle.link_trace.specs.declared.masks.LinkMasks.{LinkMasks}
use Rattle.link_trace.specs.Masks.{IsMask}
use Rattle.link_trace.specs.Passes.{is_link}
use Rattle.link_trace.proofs.masks.link_masks.Given as goal

abbrev pub invariant-loop-node : goal.invariant-loop-node
invariant-loop-node l = record {
  one_each : length l.masks.items ≡ l.node-index;
  to_each : (at : ℕ) (d : LinkMasks) → at < l.node-index
      → IsMask (λ from. list_any (is_link from (get_or l.nodes at 0)) l.links) l.nodes (get_or l.masks.items at d).to_it;
  from_each : (at : ℕ) (d : LinkMasks) → at < l.node-index
      → IsMask (λ to. list_any (is_link (get_or l.nodes at 0) to) l.links) l.nodes (get_or l.masks.items at d).from_it;
}
