use Rattle.std.proofs.Common.{◌≡◌, false}
use Rattle.host_return.specs.Candidates.{IsCandidate, is_listed}
use Rattle.host_return.specs.declared.returned.Return.{Return}
use Rattle.host_return.proofs.NodesProbing.{NoneAmong}
use Rattle.host_return.proofs.candidates.next_return.Given as goal

abbrev pub invariant-loop-one : goal.invariant-loop-one
invariant-loop-one l = (q : Return) → IsCandidate l.fn.read l.fn.s l.fn.air q → is_listed l.fn.listed q ≡ false → NoneAmong l.fn.idle l.one-index q
