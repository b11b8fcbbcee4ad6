use Rattle.std.proofs.Common.{List, Contains, take}
use Rattle.radio_model.specs.declared.sending.Sending.{Sending}
use Rattle.air_log.specs.declared.entry.Entry.{Entry}
use Rattle.host_return.specs.Probes.{Brings}
use Rattle.host_return.specs.Transmissions.{AreSent}
use Rattle.host_return.proofs.transmissions.Search.bring_one_of.Given as goal

abbrev pub invariant-loop-x : goal.invariant-loop-x
invariant-loop-x l =
    (air : List Entry) → AreSent air l.fn.self → (y : Sending) → Contains (take l.x-index l.fn.some) y
    → Brings l.fn.s air l.fn.r.frame l.fn.r.node l.fn.r.rank y → ⊥
