use Rattle.std.proofs.Common.{take}
use Rattle.packet_fates.specs.Hosted.{IsHostedTally}
use Rattle.packet_fates.proofs.hosted_tally.hosted_tally.Given as goal

abbrev pub invariant-loop-fate : goal.invariant-loop-fate
invariant-loop-fate l = IsHostedTally l.hosts (take l.fate-index l.fates) l.tally
