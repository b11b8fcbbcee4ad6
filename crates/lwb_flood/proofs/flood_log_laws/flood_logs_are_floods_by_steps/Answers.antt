use Rattle.lwb_flood.proofs.FloodLogRun.{frame_is, slot_is}
use Rattle.lwb_flood.proofs.LogOutcome.{by_steps, packet_is, sent_by_steps, heard_by_steps}
use Rattle.lwb_flood.proofs.flood_log_laws.flood_logs_are_floods_by_steps.Goals as goal

pub returns : goal.returns
returns c = record {
  run = by_steps;
  sends = sent_by_steps;
  hears = heard_by_steps;
  keys = λ f clocks air is law x sent. (frame_is f clocks air is law x sent, slot_is f clocks air is law x sent, (packet_is f clocks air is law x sent).0);
}
