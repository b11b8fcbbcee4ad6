-- The lines of a trace, which links pass by them, and which sender a node captures.
use Rattle.std.specs.Prelude.{ℕ, List, Bool, ◌&&◌, ◌||◌, not, ◌==◌, nat_lt, nat_le, Option}
use Rattle.std.specs.List.{list_any, find}
use Rattle.std.specs.Option.{option_map}
use Rattle.link_trace.specs.declared.lines.LinkLine.{LinkLine}
use Rattle.link_trace.specs.declared.lines.LoseLine.{LoseLine}
use Rattle.link_trace.specs.declared.lines.CutLine.{CutLine}
use Rattle.link_trace.specs.declared.lines.CaptureLine.{CaptureLine}

pub record Lines : Type 0 where
  pub links : List LinkLine
  pub losses : List LoseLine
  pub cuts : List CutLine
  pub captures : List CaptureLine

-- the line is the link from u to v
abbrev pub is_link : ℕ → ℕ → LinkLine → Bool
is_link u v l = (l.from == u) && (l.to == v)

-- the line names the link from u to v in frame f, slot j, step k
abbrev pub is_loss : ℕ → ℕ → ℕ → ℕ → ℕ → LoseLine → Bool
is_loss f j k u v l = (l.frame == f) && (l.slot == j) && (l.step == k) && (l.from == u) && (l.to == v)

-- the line is of frame f, slot j, step k
abbrev pub is_of_step : ℕ → ℕ → ℕ → LoseLine → Bool
is_of_step f j k l = (l.frame == f) && (l.slot == j) && (l.step == k)

-- the line is the cut of v in frame f, slot j, step k
abbrev pub is_cut : ℕ → ℕ → ℕ → ℕ → CutLine → Bool
is_cut f j k v l = (l.frame == f) && (l.slot == j) && (l.step == k) && (l.node == v)

-- the line stands for frame f, slot j, step k at v, whichever sender it names
abbrev pub is_capture : ℕ → ℕ → ℕ → ℕ → CaptureLine → Bool
is_capture f j k v l = (l.frame == f) && (l.slot == j) && (l.step == k) && (l.at == v)

-- the line cuts in frame f, in a slot and step at or before j and k, by slot and then step
abbrev pub cuts_by : ℕ → ℕ → ℕ → CutLine → Bool
cuts_by f j k l = (l.frame == f) && (nat_lt l.slot j || ((l.slot == j) && nat_le l.step k))

-- v is cut off in frame f by slot j, step k
abbrev pub cut_off : List CutLine → ℕ → ℕ → ℕ → ℕ → Bool
cut_off cuts f j k v = list_any (λ l. cuts_by f j k l && (l.node == v)) cuts

-- the pair is a link, no line loses it in that frame, slot and step, and neither of its nodes is cut off by then
abbrev pub passes : Lines → ℕ → ℕ → ℕ → ℕ → ℕ → Bool
passes t f j k u v =
    list_any (is_link u v) t.links && not (list_any (is_loss f j k u v) t.losses)
    && not (cut_off t.cuts f j k u) && not (cut_off t.cuts f j k v)

-- the sender that the line of frame f, slot j, step k at v names
abbrev pub captured : Lines → ℕ → ℕ → ℕ → ℕ → Option ℕ
captured t f j k v = option_map (λ (l : CaptureLine). l.from) (find (is_capture f j k v) t.captures)
