-- A trace as its callers see it: its lines, and the nodes that it is sealed with.
use Rattle.std.specs.Prelude.{ℕ, List, []}
use Rattle.link_trace.specs.Passes.{Lines}

-- no nodes where it is not sealed
pub record Traced : Type 0 where
  pub lines : Lines
  pub nodes : List ℕ

-- what links stand for: these lines, sealed with these nodes
abbrev pub traced : Lines → List ℕ → Traced
traced lines nodes = record { lines = lines; nodes = nodes }

abbrev pub unsealed : Lines → Traced
unsealed t = record { lines = t; nodes = [] }

abbrev pub no_lines : Lines
no_lines = record { links = []; losses = []; cuts = []; captures = [] }
