use Rattle.std.proofs.Common.{◌≡◌, fold, take}
use Rattle.bus_rules.specs.Streams.{acknowledged}
use Rattle.node_streams.proofs.streams.Streams.hear_acks.Given as goal

abbrev pub invariant-loop-i : goal.invariant-loop-i
invariant-loop-i l = l.self ≡ fold (acknowledged l.node l.boot l.frame) l.initial.self (take l.i l.acks)
