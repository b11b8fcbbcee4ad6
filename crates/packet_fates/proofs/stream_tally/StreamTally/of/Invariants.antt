use Rattle.std.proofs.Common.{take}
use Rattle.packet_fates.specs.Counts.{IsCountOf}
use Rattle.packet_fates.proofs.stream_tally.StreamTally.of.Given as goal

abbrev pub invariant-loop-fate : goal.invariant-loop-fate
invariant-loop-fate l = IsCountOf (take l.fate-index l.fates) l.tally
