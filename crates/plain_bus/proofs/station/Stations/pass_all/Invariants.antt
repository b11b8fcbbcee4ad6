use Rattle.std.proofs.Common.{◌≡◌, ◌≤◌, ◌+◌, All, map, take, drop, is_some}
use Rattle.link_trace.specs.Masks.{IsMaskUpto}
use Rattle.bus_terms.specs.Flooding.{Setting, Moment, next}
use Rattle.plain_bus.specs.FloodMasks.{AreAt, IsMaskedFlood, SendsForInitiators, IsLone, station_at, traced}
use Rattle.plain_bus.specs.declared.station.Station.{Station}
use Rattle.plain_bus.proofs.station.Stations.pass_all.Given as goal

abbrev pub invariant-loop-station : goal.invariant-loop-station
invariant-loop-station g l = record {
  place : l.place ≡ l.station-index;
  done : (s : Setting) (m : Moment) → IsMaskedFlood s (traced (g.M.Links.lines l.links) (g.M.Links.nodes l.links)) l.flood → IsLone s l.origin
      → SendsForInitiators s m → AreAt m (g.M.Links.nodes l.links) l.fn.self
      → take l.station-index l.station-items ≡ take l.station-index (map (station_at (next s l.step m)) (g.M.Links.nodes l.links));
  senders : (s : Setting) (m : Moment) → IsMaskedFlood s (traced (g.M.Links.lines l.links) (g.M.Links.nodes l.links)) l.flood → IsLone s l.origin
      → SendsForInitiators s m → AreAt m (g.M.Links.nodes l.links) l.fn.self
      → IsMaskUpto (λ v. is_some ((next s l.step m).sends v)) (g.M.Links.nodes l.links) l.station-index l.senders;
  todo : drop l.station-index l.station-items ≡ drop l.station-index l.fn.self.each.items;
  times : All (λ (x : Station). x.times ≤ l.step + 1) (take l.station-index l.station-items);
}
