use Rattle.std.proofs.Common.{sym}
use Rattle.air_log.specs.Entries.{hearings_of}
use Rattle.air_log.specs.Courses.{hearing_of}
use Rattle.air_check.proofs.RightEntries.{takes, passes_by}
use Rattle.air_check.proofs.wrong.is_right.Goals as goal

pub returns-in-Some : goal.returns-in-Some
returns-in-Some c =
    λ air above is are.
    takes c.args.s.now air c.args.index.now.sent.items above c.args.entry.now (hearing_of c.in-Some.h.now) c.take_in.new.flags.items c.take_in.result
    (sym c.in-Some.ensures) (c.take_in.ensures air (hearings_of above) is are)

pub returns-in-None : goal.returns-in-None
returns-in-None c =
    λ air above is are.
    passes_by c.args.s.now air c.args.index.now.sent.items above c.args.entry.now c.args.flags.now.items (sym c.in-None.ensures) are
