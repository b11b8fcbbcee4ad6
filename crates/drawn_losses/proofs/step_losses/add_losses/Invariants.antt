use Rattle.std.proofs.Common.{◌≡◌, ◌++◌, ℕ, List, Bool, filter, map, take, get_or}
use Rattle.link_trace.specs.Masks.{IsMask}
use Rattle.bus_terms.specs.Flooding.{Moment}
use Rattle.plain_bus.specs.FloodMasks.{station_at}
use Rattle.drawn_bus.specs.FloodLosses.{line_at}
use Rattle.drawn_losses.proofs.step_losses.add_losses.Given as goal

abbrev pub invariant-loop-place : goal.invariant-loop-place
invariant-loop-place l =
    (m : Moment) (nodes : List ℕ) (test : ℕ → Bool) → l.now.each.items ≡ map (station_at m) nodes → IsMask test nodes l.lost
    → l.lines.items ≡ l.fn.lines.items ++ map (line_at l.flood.frame l.flood.slot l.step (get_or nodes l.from 0)) (filter test (take l.place nodes))
