use Rattle.std.proofs.Common.{◌≡◌, ◌∷◌, ◌++◌, length, true, drop}
use Rattle.schedule_codec.specs.OwnerLists.{ascend, differences}
use Rattle.schedule_codec.proofs.differences.differences.Given as goal

abbrev pub invariant-loop-code : goal.invariant-loop-code
invariant-loop-code l = record {
  many : length l.found.items ≡ l.code-index;
  ascending : ascend (l.last ∷ drop l.code-index l.rest) ≡ true;
  same : l.found.items ++ differences (l.last ∷ drop l.code-index l.rest) ≡ differences (l.first ∷ l.rest);
}
