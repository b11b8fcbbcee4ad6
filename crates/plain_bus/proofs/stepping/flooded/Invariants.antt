use Rattle.std.proofs.Common.{◌≡◌, ◌≤◌, All, length}
use Rattle.bus_terms.specs.Flooding.{Setting, moment}
use Rattle.plain_bus.specs.FloodMasks.{AreAt, AreSenders, IsMaskedFlood, traced}
use Rattle.plain_bus.specs.declared.station.Station.{Station}
use Rattle.plain_bus.proofs.stepping.flooded.Given as goal

abbrev pub invariant-loop-step : goal.invariant-loop-step
invariant-loop-step g l = record {
  at : (s : Setting) → IsMaskedFlood s (traced (g.M.Links.lines l.links) (g.M.Links.nodes l.links)) l.flood
      → AreAt (moment s l.step) (g.M.Links.nodes l.links) l.now;
  senders : (s : Setting) → IsMaskedFlood s (traced (g.M.Links.lines l.links) (g.M.Links.nodes l.links)) l.flood
      → AreSenders s (g.M.Links.nodes l.links) l.senders.items;
  steps : length l.senders.items ≡ l.step;
  length : length l.now.each.items ≡ length (g.M.Links.nodes l.links);
  times : All (λ (x : Station). x.times ≤ l.step) l.now.each.items;
}
