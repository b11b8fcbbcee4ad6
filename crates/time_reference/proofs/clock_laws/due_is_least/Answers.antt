use Rattle.tick_clock.proofs.DueTicks.{due_is, before_due, due_iff, due_monotone, overshoot}
use Rattle.time_reference.proofs.clock_laws.due_is_least.Goals as goal

pub returns : goal.returns
returns c = record { reached = due_is; before = before_due; exactly = due_iff; rises = due_monotone; overshoot = overshoot }
