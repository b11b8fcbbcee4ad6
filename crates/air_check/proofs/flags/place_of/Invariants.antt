use Rattle.std.proofs.Common.{◌≢◌, ◌<◌, ◌≤◌, ℕ, get_or}
use Rattle.radio_model.specs.OnAir.{Sending}
use Rattle.air_log.specs.Courses.{hearing_of}
use Rattle.air_check.proofs.flags.place_of.Given as goal

abbrev pub invariant-loop-k : goal.invariant-loop-k
invariant-loop-k l = (j : ℕ) (d : Sending) → l.begin ≤ j → j < l.k → get_or l.sent j d ≢ (hearing_of l.h).sending
