-- The links that lead from one node.
use Rattle.std.specs.Prelude.{◌≡◌, ℕ, ◌<◌, List, AllPairs, Contains}
use Rattle.link_trace.specs.declared.lines.LinkLine.{LinkLine}

-- these have all links from u, and ascend by the receiver
pub record HaveLinksFrom (links : List LinkLine) (u : ℕ) (some : List LinkLine) : Type 0 where
  pub all : (l : LinkLine) → Contains links l → l.from ≡ u → Contains some l
  pub ascending : AllPairs (λ a b. a.to < b.to) some
