-- Masks of the nodes of a seal, and those that a sealed trace keeps.
use Rattle.std.specs.Prelude.{◌≡◌, ℕ, ◌<◌, ◌≤◌, List, Bool, false, ◌&&◌, ◌==◌, nat_lt, length, slice_index, slice_index_or, if◌then◌else◌}
use Rattle.std.specs.Int.{bit_at}
use Rattle.std.specs.List.{list_any, AllPairs}
use Rattle.lwb_base.specs.declared.limits.TheConstants.{MOST_NODES}
use Rattle.link_trace.specs.declared.lines.LinkLine.{LinkLine}
use Rattle.link_trace.specs.declared.masks.LinkMasks.{LinkMasks}
use Rattle.link_trace.specs.Order.{AreInOrder}
use Rattle.link_trace.specs.Passes.{Lines, is_link}
use Rattle.link_trace.specs.Starts.{AreStartsOf}
use Rattle.link_trace.specs.declared.starts.Starts.{Starts}

-- 1 to 64 ids, each below those after it
pub record AreNodes (nodes : List ℕ) : Type 0 where
  pub some : 1 ≤ length nodes
  pub few : length nodes ≤ MOST_NODES
  pub ascending : AllPairs (λ a b. a < b) nodes

-- bit i is set if and only if the test holds of node i, which is one of the first n nodes
abbrev pub IsMaskUpto : (ℕ → Bool) → List ℕ → ℕ → ℕ → Type 0
IsMaskUpto test nodes n mask = (i : ℕ) → bit_at mask i ≡ (if nat_lt i n && test (slice_index nodes i) then 1 else 0)

-- bit i is set if and only if the test holds of node i, counted from 0; bits past the nodes are 0
abbrev pub IsMask : (ℕ → Bool) → List ℕ → ℕ → Type 0
IsMask test nodes mask = IsMaskUpto test nodes (length nodes) mask

-- bit i is set if and only if it is set in `among` and the test holds of node i
abbrev pub IsMaskAmong : (ℕ → Bool) → List ℕ → ℕ → ℕ → Type 0
IsMaskAmong test nodes among mask =
    (i : ℕ) → bit_at mask i ≡ (if (bit_at among i == 1) && (nat_lt i (length nodes) && test (slice_index nodes i)) then 1 else 0)

-- each node of which the test holds has its bit
abbrev pub HasAll : (ℕ → Bool) → List ℕ → ℕ → Type 0
HasAll test nodes mask = (i : ℕ) → i < length nodes → bit_at mask i ≡ 0 → test (slice_index nodes i) ≡ false

-- one for each node, of the nodes that have a link to it and of those to which it has one
pub record AreLinkMasks (links : List LinkLine) (nodes : List ℕ) (masks : List LinkMasks) : Type 0 where
  pub one_each : length masks ≡ length nodes
  pub to_each : (at : ℕ) (d : LinkMasks) → at < length nodes
      → IsMask (λ from. list_any (is_link from (slice_index nodes at)) links) nodes (slice_index_or masks at d).to_it
  pub from_each : (at : ℕ) (d : LinkMasks) → at < length nodes
      → IsMask (λ to. list_any (is_link (slice_index nodes at) to) links) nodes (slice_index_or masks at d).from_it

-- what is true of each trace
pub record AreTraceParts (t : Lines) (nodes : List ℕ) (masks : List LinkMasks) (starts : Starts) : Type 0 where
  pub in_order : AreInOrder t
  pub few : length nodes ≤ MOST_NODES
  pub ascending : AllPairs (λ a b. a < b) nodes
  pub link_masks : AreLinkMasks t.links nodes masks
  pub line_starts : AreStartsOf t starts
