use Rattle.law_bus.proofs.SlotsOnAir.{part_of_air, by_rule}
use Rattle.law_bus.proofs.slot_run_laws.slots_are_a_part_of_the_air.Goals as goal

pub returns : goal.returns
returns c = record {
  part = λ s clocks air lawful rank f j p round within start events. part_of_air s clocks air lawful rank f j p round.in_run start events;
  rule = λ s clocks air lawful rank f j p round within start events. by_rule s clocks air lawful rank f j p round.in_run start events;
}
