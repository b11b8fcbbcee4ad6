-- The reception ratios of a network: in the order of their lines, and link by link.
use Rattle.std.specs.Prelude.{◌≡◌, ℕ, ◌+◌, ◌*◌, ◌<◌, ◌≤◌, List, [], Option, option_map, nat_le, length, map, filter, find, reverse, slice_index, slice_index_or}
use Rattle.std.specs.List.{AllPairs}
use Rattle.lwb_base.specs.declared.limits.TheConstants.{MOST_NODES}
use Rattle.drawn_links.specs.Ratios.{is_of_link}
use Rattle.drawn_links.specs.declared.ratio_line.RatioLine.{RatioLine}
use Rattle.drawn_links.specs.declared.ratio_step.RatioStep.{RatioStep}

-- what contracts see: the nodes by their places, and the lines
pub record Rated : Type 0 where
  pub nodes : List ℕ
  pub lines : List RatioLine

-- what a line says of its link
abbrev pub step_of : RatioLine → RatioStep
step_of l = record { frame = l.frame; ratio = l.ratio }

-- what the lines say of the link from u to v
abbrev pub steps_of : List RatioLine → ℕ → ℕ → List RatioStep
steps_of lines u v = map step_of (filter (is_of_link u v) lines)

-- each begins after the one before it
abbrev pub AreRising : List RatioStep → Type 0
AreRising steps = AllPairs (λ a b. a.frame < b.frame) steps

-- the ratio of the last that has begun by frame f
abbrev pub ratio_by : List RatioStep → ℕ → Option ℕ
ratio_by steps f = option_map (λ (s : RatioStep). s.ratio) (find (λ (s : RatioStep). nat_le s.frame f) (reverse steps))

-- the frame of the last line of the link from u to v
abbrev pub last_frame : List RatioLine → ℕ → ℕ → Option ℕ
last_frame lines u v = option_map (λ (l : RatioLine). l.frame) (find (is_of_link u v) (reverse lines))

-- `MOST_NODES` links to each place, by the place from which they come
abbrev pub link_place : ℕ → ℕ → ℕ
link_place from to = MOST_NODES * to + from

-- the links between the nodes have what the lines say of them
pub record AreRatioParts (nodes : List ℕ) (lines : List RatioLine) (links : List (List RatioStep)) : Type 0 where
  pub few : length nodes ≤ MOST_NODES
  pub ascending : AllPairs (λ a b. a < b) nodes
  pub places : length links ≡ MOST_NODES * MOST_NODES
  pub each : (from to : ℕ) → from < length nodes → to < length nodes
      → slice_index_or links (link_place from to) [] ≡ steps_of lines (slice_index nodes from) (slice_index nodes to)
