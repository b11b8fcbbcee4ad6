use Rattle.law_bus.proofs.SlotsOfTheBus.{of_bus}
use Rattle.law_bus.proofs.SlotRecords.{is_run_of}
use Rattle.law_bus.proofs.slot_run_laws.slots_are_of_the_bus.Goals as goal

pub returns : goal.returns
returns c = record {
  bus = λ s clocks air lawful rank f j p round within start events. of_bus s clocks air lawful rank f j p events;
  records = λ s clocks air lawful rank f j p round within start events are. is_run_of s clocks air lawful rank f j p round start events are;
}
