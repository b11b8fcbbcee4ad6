use Rattle.std.proofs.Common.{◌≡◌, ◌≤◌, ◌++◌, All, flat_map, length}
use Rattle.std.specs.List.{range_with_len}
use Rattle.bus_terms.specs.Flooding.{Setting, moment}
use Rattle.plain_bus.specs.FloodMasks.{AreAt, IsMaskedFlood, traced}
use Rattle.plain_bus.specs.declared.station.Station.{Station}
use Rattle.drawn_losses.specs.StepLosses.{losses_of_step}
use Rattle.drawn_losses.proofs.flood_losses.losses_in_flood.Given as goal

abbrev pub invariant-loop-step : goal.invariant-loop-step
invariant-loop-step g l = record {
  at : (x : Setting) → IsMaskedFlood x (traced (g.M.Links.lines l.links) (g.M.Links.nodes l.links)) l.flood
      → AreAt (moment x l.step) (g.M.Links.nodes l.links) l.now;
  found : (x : Setting) → IsMaskedFlood x (traced (g.M.Links.lines l.links) (g.M.Links.nodes l.links)) l.flood → l.lines.items ≡ l.fn.lines.items
      ++ flat_map (losses_of_step (g.B.Links.lines l.base) l.flood.frame l.flood.slot (g.M.Links.nodes l.links) x) (range_with_len 0 l.step);
  length : length l.now.each.items ≡ length (g.M.Links.nodes l.links);
  times : All (λ (x : Station). x.times ≤ l.step) l.now.each.items;
}
