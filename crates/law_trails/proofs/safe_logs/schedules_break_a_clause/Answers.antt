use Rattle.law_trails.proofs.UnsafeSchedules.{ends_late_breaks, slots_meet_breaks, steps_meet_breaks, starts_apart_breaks, other_bytes_breaks, two_begin_breaks}
use Rattle.law_trails.proofs.UnsafeSchedules.{not_the_host_breaks}
use Rattle.law_trails.proofs.safe_logs.schedules_break_a_clause.Goals as goal

pub returns : goal.returns
returns c = record {
  ends_late = ends_late_breaks;
  slots_meet = slots_meet_breaks;
  steps_meet = steps_meet_breaks;
  starts_apart = starts_apart_breaks;
  other_bytes = other_bytes_breaks;
  two_begin = two_begin_breaks;
  not_the_host = not_the_host_breaks;
}
