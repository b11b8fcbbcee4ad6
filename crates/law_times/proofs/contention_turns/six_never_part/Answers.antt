use Rattle.law_times.proofs.ContentionTurnsOfSix.{six_never_part, six_of_three_never_part}
use Rattle.law_times.proofs.UnansweredNodes.{never_answered}
use Rattle.law_times.proofs.contention_turns.six_never_part.Goals as goal

pub returns : goal.returns
returns c = record { one = six_never_part; three = six_of_three_never_part; bus = never_answered }
