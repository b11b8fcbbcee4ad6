use Rattle.law_bus.proofs.ListeningInSlots.{has_events}
use Rattle.law_bus.proofs.SlotEvents.{all_events}
use Rattle.law_bus.proofs.slot_run_laws.slots_have_events.Goals as goal

pub returns : goal.returns
returns c = record {
  some = λ s clocks air lawful rank f j p round. all_events s clocks air lawful rank f j round.in_run;
  happened = λ s clocks air lawful rank f j p round within start events are. has_events s clocks air lawful rank f j p round start events are;
}
