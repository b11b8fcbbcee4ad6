use Rattle.std.proofs.Common.{◌≡◌, ◌≤◌, ◌*◌, sum_by, take}
use Rattle.plain_bus.specs.declared.station.Station.{Station}
use Rattle.plain_bus.proofs.accepting.sendings.Given as goal

abbrev pub invariant-loop-station : goal.invariant-loop-station
invariant-loop-station l = record {
  sum : l.sent ≡ sum_by (λ (x : Station). x.times) (take l.station-index l.stations);
  few : l.sent ≤ 12 * l.station-index;
}
