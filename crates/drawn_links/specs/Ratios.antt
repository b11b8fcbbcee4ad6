-- Reception ratios of links, each from some frame on.
use Rattle.std.specs.Prelude.{ℕ, List, Bool, ◌&&◌, ◌==◌, nat_le, Option, option_map, reverse}
use Rattle.std.specs.Prelude.{find}
use Rattle.drawn_links.specs.declared.ratio_line.RatioLine.{RatioLine}

-- the line is one of the link from u to v
abbrev pub is_of_link : ℕ → ℕ → RatioLine → Bool
is_of_link u v l = (l.from == u) && (l.to == v)

-- and of frame f or an earlier one
abbrev pub is_begun : ℕ → ℕ → ℕ → RatioLine → Bool
is_begun f u v l = is_of_link u v l && nat_le l.frame f

-- the ratio of the link in frame f: that of the last such line, and none where there is no such line
abbrev pub ratio_in : List RatioLine → ℕ → ℕ → ℕ → Option ℕ
ratio_in ratios f u v = option_map (λ (l : RatioLine). l.ratio) (find (is_begun f u v) (reverse ratios))
