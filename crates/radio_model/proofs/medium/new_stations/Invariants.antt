use Rattle.std.proofs.Common.{◌≡◌, take}
use Rattle.radio_model.specs.Stations.{stations_from}
use Rattle.radio_model.proofs.medium.new_stations.Given as goal

abbrev pub invariant-loop-i : goal.invariant-loop-i
invariant-loop-i l = l.stations.items ≡ stations_from 0 (take l.i l.nodes)
