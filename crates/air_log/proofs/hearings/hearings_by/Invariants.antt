use Rattle.std.proofs.Common.{◌≡◌, map, take}
use Rattle.air_log.specs.Lawful.{hearings_by}
use Rattle.air_log.specs.Courses.{hearing_of}
use Rattle.air_log.proofs.hearings.hearings_by.Given as goal

abbrev pub invariant-loop-entry : goal.invariant-loop-entry
invariant-loop-entry l = map hearing_of l.heard.items ≡ hearings_by (take l.entry-index l.fn.entries) l.fn.node
