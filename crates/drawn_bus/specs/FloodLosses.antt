-- The losses that change a reception, flood by flood, as a bus that runs comes by them.
use Rattle.std.specs.Prelude.{ℕ, List, [], Bool, not, ◌&&◌, filter, flat_map, is_some, map}
use Rattle.std.specs.List.{range_with_len}
use Rattle.std.specs.Option.{option_map_or}
use Rattle.link_trace.specs.declared.lines.LoseLine.{LoseLine}
use Rattle.link_trace.specs.Passes.{Lines, passes}
use Rattle.scenario_text.specs.ScenarioParts.{ScenarioParts}
use Rattle.bus_terms.specs.Bus.{frames_of, ranks_of, state_at}
use Rattle.bus_terms.specs.Flooding.{STEPS, Setting, moment}
use Rattle.bus_terms.specs.FloodOfText.{ids}
use Rattle.bus_terms.specs.Rounds.{round_plan, slots_of}
use Rattle.drawn_bus.specs.KeptLosses.{flood_in_round, flood_over, receives_otherwise}

-- the line by which the link from u to v is lost in frame f, slot j, step k
abbrev pub line_at : ℕ → ℕ → ℕ → ℕ → ℕ → LoseLine
line_at f j k u v = record { frame = f; slot = j; step = k; from = u; to = v }

-- u transmits in step k of the flood of slot j of frame f, its link to v passes by these lines and not in the flood, and v would
-- receive something else over these lines
abbrev pub is_lost_in : Lines → ℕ → ℕ → Setting → ℕ → ℕ → ℕ → Bool
is_lost_in t f j x k u v =
    is_some ((moment x k).sends u) && (passes t f j k u v && not (x.passes k u v)) && receives_otherwise x (flood_over t f j x) k v

-- the losses of the flood among these nodes, by step, sender and receiver
abbrev pub losses_of_flood : Lines → ℕ → ℕ → List ℕ → Setting → List LoseLine
losses_of_flood t f j nodes x =
    flat_map (λ k. flat_map (λ u. map (line_at f j k u) (filter (is_lost_in t f j x k u) nodes)) nodes) (range_with_len 0 STEPS)

-- of the round of this rank and frame on the bus of d, by slot
abbrev pub losses_of_round : ScenarioParts → ScenarioParts → ℕ → ℕ → List LoseLine
losses_of_round s d rank f =
    option_map_or
    (λ p. flat_map (λ j. losses_of_flood s.trace f j (ids s.nodes) (flood_in_round d rank f p j)) (slots_of p))
    (round_plan d rank f (state_at d f))
    []

-- and of the whole bus of d, by frame and rank
abbrev pub losses_of_bus : ScenarioParts → ScenarioParts → List LoseLine
losses_of_bus s d = flat_map (λ f. flat_map (λ rank. losses_of_round s d rank f) (ranks_of s)) (frames_of s)
