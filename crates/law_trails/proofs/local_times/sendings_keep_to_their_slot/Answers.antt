use Rattle.law_trails.proofs.SlotBounds.{ends_in_slot, starts_in_frame, ends_before_alarm, ends_in_frame, relay_in_flood, slots_apart}
use Rattle.law_trails.proofs.local_times.sendings_keep_to_their_slot.Goals as goal

pub returns : goal.returns
returns c = record {
  slot = ends_in_slot;
  start = starts_in_frame;
  alarm = ends_before_alarm;
  frame = ends_in_frame;
  relay = relay_in_flood;
  later = slots_apart;
}
