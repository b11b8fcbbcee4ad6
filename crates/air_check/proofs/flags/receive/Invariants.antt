use Rattle.air_log.specs.Courses.{hearing_of}
use Rattle.air_check.proofs.Marked.{IsMarked}
use Rattle.air_check.proofs.flags.receive.Given as goal

abbrev pub invariant-loop-k : goal.invariant-loop-k
invariant-loop-k l = IsMarked l.sent l.fn.flags.items l.h.node (hearing_of l.h).sending l.begin l.k l.flags.items
