use Rattle.std.proofs.Common.{take}
use Rattle.air_log.specs.Entries.{hearings_of}
use Rattle.air_check.specs.Flags.{AreFlags}
use Rattle.air_check.specs.Verdicts.{AreGiven}
use Rattle.air_check.proofs.wrong.first_wrong.Given as goal

abbrev pub invariant-loop-i : goal.invariant-loop-i
invariant-loop-i l = record {
  flags : AreFlags l.index.sent.items (hearings_of (take l.i l.air)) l.flags.items;
  right : AreGiven l.s l.air (take l.i l.air);
}
