use Rattle.std.proofs.Common.{◌≡◌, ◌≤◌, All, length, map, take, is_some}
use Rattle.link_trace.specs.Masks.{IsMaskUpto}
use Rattle.link_trace.specs.Sealed.{Traced}
use Rattle.scenario_text.specs.declared.lines.NodeLine.{NodeLine}
use Rattle.bus_terms.specs.Flooding.{Setting, beginning}
use Rattle.plain_bus.specs.FloodMasks.{IsMaskedFlood, station_at}
use Rattle.plain_bus.specs.declared.station.Station.{Station}
use Rattle.plain_bus.proofs.stepping.first.Given as goal

abbrev pub invariant-loop-i : goal.invariant-loop-i
invariant-loop-i l = record {
  each : (s : Setting) (t : Traced) → t.nodes ≡ map (λ (n : NodeLine). n.node) l.nodes → IsMaskedFlood s t l.flood
      → l.first.each.items ≡ take l.i (map (station_at (beginning s)) t.nodes);
  senders : (s : Setting) (t : Traced) → t.nodes ≡ map (λ (n : NodeLine). n.node) l.nodes → IsMaskedFlood s t l.flood
      → IsMaskUpto (λ v. is_some ((beginning s).sends v)) t.nodes l.i l.first.senders;
  length : length l.first.each.items ≡ l.i;
  times : All (λ (x : Station). x.times ≤ 0) l.first.each.items;
}
