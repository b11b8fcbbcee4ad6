use Rattle.std.proofs.Common.{length}
use Rattle.text_readers.proofs.DividedTexts.{Passed}
use Rattle.text_readers.proofs.division.divided.Given as goal

-- the word is alone in none of the lines so far
abbrev pub invariant-loop-rest : goal.invariant-loop-rest
invariant-loop-rest l = Passed l.word l.bytes l.rest l.count

abbrev pub decreases-loop-rest : goal.decreases-loop-rest
decreases-loop-rest l = length l.rest
