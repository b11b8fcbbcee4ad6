-- The losses of a flood that was worked out manually.
use Rattle.std.proofs.Common.{◌≡◌, ℕ, List, [], ◌∷◌, None, refl}
use Rattle.link_trace.specs.declared.lines.LinkLine.{LinkLine}
use Rattle.link_trace.specs.declared.lines.LoseLine.{LoseLine}
use Rattle.link_trace.specs.Passes.{Lines, passes}
use Rattle.bus_terms.specs.Flooding.{Setting, moment}
use Rattle.drawn_bus.specs.FloodLosses.{line_at, losses_of_flood}

abbrev link : ℕ → ℕ → LinkLine
link u v = record { from = u; to = v }

-- node 1 reaches all others, and nodes 2 and 3 reach node 4
abbrev lines : List LoseLine → Lines
lines losses = record {
  links = link 1 2 ∷ link 1 3 ∷ link 1 4 ∷ link 2 4 ∷ link 3 4 ∷ [];
  losses = losses;
  cuts = [];
  captures = [];
}

-- node 1 begins; node 4 does not receive it, and then receives it of node 2 and not of node 3; node 1 is silent in step 2
abbrev losses : List LoseLine
losses = line_at 5 1 0 1 4 ∷ line_at 5 1 1 3 4 ∷ line_at 5 1 2 1 2 ∷ []

abbrev flood : Setting
flood = record {
  limit = 1;
  passes = λ k u v. passes (lines losses) 5 1 k u v;
  captured = λ k v. None;
  initiators = 1 ∷ [];
  everyone = 1 ∷ 2 ∷ 3 ∷ 4 ∷ [];
}

-- only the first changes what somebody receives
one_matters : losses_of_flood (lines []) 5 1 (1 ∷ 2 ∷ 3 ∷ 4 ∷ []) flood ≡ line_at 5 1 0 1 4 ∷ []
unfolding moment
one_matters = refl
