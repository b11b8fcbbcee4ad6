use Rattle.std.proofs.Common.{◌≡◌, fold, take}
use Rattle.bus_rules.specs.Streams.{owner_named}
use Rattle.node_streams.proofs.streams.Streams.hear_owners.Given as goal

abbrev pub invariant-loop-i : goal.invariant-loop-i
invariant-loop-i l = l.self ≡ fold (owner_named l.node l.frame) l.initial.self (take l.i l.owners)
