use Rattle.law_trails.proofs.HeardReferences.{moved_on, moved_sum, good_now, good_ahead}
use Rattle.law_trails.proofs.local_times.references_move_on_by_gaps.Goals as goal

pub returns : goal.returns
returns c = record { moved = moved_on; sum = moved_sum; now = good_now; ahead = good_ahead }
