use Rattle.law_bus.proofs.RelayedInSlots.{has_sendings}
use Rattle.law_bus.proofs.SlotPackets.{has_initiators}
use Rattle.law_bus.proofs.slot_run_laws.slots_are_sent_as_floods.Goals as goal

pub returns : goal.returns
returns c = record {
  initiators = λ s clocks air lawful rank f j p round within start events are. has_initiators s clocks air lawful rank f j p round start events are;
  sendings = λ s clocks air lawful rank f j p round within start events are. has_sendings s clocks air lawful rank f j p round start events are;
}
