use Rattle.std.proofs.Common.{◌≡◌, ◌≤◌, ◌+◌, All, length, map, take, is_some}
use Rattle.link_trace.specs.Masks.{IsMaskUpto}
use Rattle.bus_terms.specs.Flooding.{Setting, Moment, next}
use Rattle.plain_bus.specs.FloodMasks.{AreAt, IsMaskedFlood, SendsForInitiators, station_at, traced}
use Rattle.plain_bus.specs.declared.station.Station.{Station}
use Rattle.plain_bus.proofs.station.Stations.next.Given as goal

abbrev pub invariant-loop-place : goal.invariant-loop-place
invariant-loop-place g l = record {
  each : (s : Setting) (m : Moment) → IsMaskedFlood s (traced (g.M.Links.lines l.links) (g.M.Links.nodes l.links)) l.flood → SendsForInitiators s m
      → AreAt m (g.M.Links.nodes l.links) l.self
      → l.next.each.items ≡ take l.place (map (station_at (next s l.step m)) (g.M.Links.nodes l.links));
  senders : (s : Setting) (m : Moment) → IsMaskedFlood s (traced (g.M.Links.lines l.links) (g.M.Links.nodes l.links)) l.flood → SendsForInitiators s m
      → AreAt m (g.M.Links.nodes l.links) l.self
      → IsMaskUpto (λ v. is_some ((next s l.step m).sends v)) (g.M.Links.nodes l.links) l.place l.next.senders;
  length : length l.next.each.items ≡ l.place;
  times : All (λ (x : Station). x.times ≤ l.step + 1) l.next.each.items;
}
