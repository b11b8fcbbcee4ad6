use Rattle.std.proofs.Common.{◌≡◌, take, filter_map}
use Rattle.bus_model.specs.DroppedPuts.{drop_of}
use Rattle.bus_model.proofs.drops.drops_of.Given as goal

abbrev pub invariant-loop-put : goal.invariant-loop-put
invariant-loop-put l = l.drops.items ≡ filter_map drop_of (take l.put-index l.puts)
