use Rattle.std.proofs.Common.{◌≡◌, ◌≤◌, ◌++◌, length, map}
use Rattle.text_readers.specs.Words.{words}
use Rattle.text_readers.proofs.words.split_into.Given as goal

-- the words so far, and those of the rest
abbrev pub invariant-loop-end : goal.invariant-loop-end
invariant-loop-end l = record {
  said : map (λ w. w.now) l.words.items ++ words l.rest ≡ words l.line;
  within : length l.rest ≤ length l.line;
}

abbrev pub decreases-loop-end : goal.decreases-loop-end
decreases-loop-end l = length l.rest
