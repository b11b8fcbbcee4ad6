use Rattle.std.proofs.Common.{◌≡◌, take, filter_map}
use Rattle.plain_bus.specs.FloodMasks.{accepted_from}
use Rattle.plain_bus.proofs.accepting.acceptances.Given as goal

abbrev pub invariant-loop-station : goal.invariant-loop-station
invariant-loop-station l = l.accepts.items ≡ filter_map (accepted_from l.start) (take l.station-index l.stations)
