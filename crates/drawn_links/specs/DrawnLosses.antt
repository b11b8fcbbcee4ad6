-- The losses that coins draw, by the reception ratios of the links.
use Rattle.std.specs.Prelude.{ℕ, ◌+◌, List, Bool, false, not, ◌++◌, map, filter, flat_map}
use Rattle.std.specs.List.{range_with_len}
use Rattle.std.specs.Option.{option_map_or}
use Rattle.lwb_base.specs.declared.limits.TheConstants.{FLOOD_STEPS}
use Rattle.lwb_base.specs.Messages.{greatest_slot}
use Rattle.link_trace.specs.declared.lines.LinkLine.{LinkLine}
use Rattle.link_trace.specs.declared.lines.LoseLine.{LoseLine}
use Rattle.link_trace.specs.Passes.{Lines}
use Rattle.drawn_links.specs.Coins.{coin_key, coin_passes}
use Rattle.drawn_links.specs.Ratios.{ratio_in}
use Rattle.drawn_links.specs.declared.ratio_line.RatioLine.{RatioLine}

-- the most slots of a round, with 4 contention slots
abbrev pub SLOTS : ℕ
SLOTS = greatest_slot 4 + 1

-- the link from u to v has a ratio in frame f, and its coin in step k of slot j does not pass
abbrev pub is_drawn : List RatioLine → ℕ → ℕ → ℕ → ℕ → ℕ → ℕ → Bool
is_drawn ratios seed f j k u v =
    option_map_or (λ ratio. not (coin_passes ratio seed (coin_key f j k u v))) (ratio_in ratios f u v) false

-- the lose line of a link in step k of slot j of frame f
abbrev pub loss_of : ℕ → ℕ → ℕ → LinkLine → LoseLine
loss_of f j k l = record { frame = f; slot = j; step = k; from = l.from; to = l.to }

-- the links that are lost in a step
abbrev pub losses_in_step : List LinkLine → List RatioLine → ℕ → ℕ → ℕ → ℕ → List LoseLine
losses_in_step links ratios seed f j k = map (loss_of f j k) (filter (λ l. is_drawn ratios seed f j k l.from l.to) links)

-- in all steps of all slots of the frames below this number
abbrev pub drawn_losses : List LinkLine → List RatioLine → ℕ → ℕ → List LoseLine
drawn_losses links ratios seed frames =
    flat_map
    (λ f. flat_map (λ j. flat_map (losses_in_step links ratios seed f j) (range_with_len 0 FLOOD_STEPS)) (range_with_len 0 SLOTS))
    (range_with_len 0 frames)

-- the lines with the drawn losses after their own
abbrev pub drawn : Lines → List RatioLine → ℕ → ℕ → Lines
drawn t ratios seed frames = record t { losses = t.losses ++ drawn_losses t.links ratios seed frames }
