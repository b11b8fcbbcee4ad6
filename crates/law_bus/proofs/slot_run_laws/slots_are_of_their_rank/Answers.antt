use Rattle.law_bus.proofs.SlotParties.{known_party, party_rank}
use Rattle.law_bus.proofs.SlotWindows.{window_takes}
use Rattle.law_bus.proofs.slot_run_laws.slots_are_of_their_rank.Goals as goal

pub returns : goal.returns
returns c = record {
  rank = λ s clocks air lawful rank f j p round within start events. record {
    known = λ v here. known_party s clocks air lawful rank f j p round.in_run start v here;
    rank_is = λ v i k w here window. party_rank s clocks air lawful rank f j p round.in_run start v i k w here window;
  };
  windows = λ s clocks air lawful rank f j p round within start events v w here. window_takes s clocks air lawful rank f j p round start v w here;
}
