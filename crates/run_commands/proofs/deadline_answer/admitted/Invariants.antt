use Rattle.std.proofs.Common.{◌≡◌, ℕ, ◌≤◌, map, take, length, false}
use Rattle.deadline_plan.specs.Admission.{has_stream_of}
use Rattle.run_commands.specs.DeadlineReport.{Decided, no_streams, stream_of_answer}
use Rattle.run_commands.proofs.deadline_answer.admitted.Given as goal

abbrev pub invariant-loop-stream : goal.invariant-loop-stream
invariant-loop-stream l = record {
  streams : map stream_of_answer l.answers.items ≡ take l.stream-index l.stream-items;
  decided : Decided (no_streams l.fn.text) l.answers.items l.plan;
  new : (owner : ℕ) → has_stream_of (take l.stream-index l.stream-items) owner ≡ false → has_stream_of l.plan.streams owner ≡ false;
  few : length l.plan.streams ≤ l.stream-index;
}
