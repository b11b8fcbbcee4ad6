-- The links of a node on one side: those to it, or those from it.
use Rattle.std.specs.Prelude.{ℕ, List, Bool}
use Rattle.std.specs.List.{list_any}
use Rattle.link_trace.specs.declared.lines.LinkLine.{LinkLine}
use Rattle.link_trace.specs.declared.lines.LoseLine.{LoseLine}
use Rattle.link_trace.specs.declared.sides.Side.{Side}
use Rattle.link_trace.specs.declared.sides.Side.TheVariants.{To, From}
use Rattle.link_trace.specs.Passes.{Lines, is_link, is_loss, passes}

-- the node whose links they are
abbrev pub own_of : Side → ℕ
own_of (To node) = node
own_of (From node) = node

-- the sender of the link with node v
abbrev pub sender_of : Side → ℕ → ℕ
sender_of (To node) v = v
sender_of (From node) v = node

-- and its receiver
abbrev pub receiver_of : Side → ℕ → ℕ
receiver_of (To node) v = node
receiver_of (From node) v = v

-- there is the link with node v
abbrev pub is_linked : Side → List LinkLine → ℕ → Bool
is_linked side links v = list_any (is_link (sender_of side v) (receiver_of side v)) links

-- the line names that link in frame f, slot j, step k
abbrev pub is_lost_by : ℕ → ℕ → ℕ → Side → ℕ → LoseLine → Bool
is_lost_by f j k side v l = is_loss f j k (sender_of side v) (receiver_of side v) l

-- one of the lines names it
abbrev pub is_lost : ℕ → ℕ → ℕ → Side → List LoseLine → ℕ → Bool
is_lost f j k side losses v = list_any (is_lost_by f j k side v) losses

-- it passes
abbrev pub passes_on : Lines → ℕ → ℕ → ℕ → Side → ℕ → Bool
passes_on t f j k side v = passes t f j k (sender_of side v) (receiver_of side v)
