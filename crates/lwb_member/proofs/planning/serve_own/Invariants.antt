use Rattle.std.proofs.Common.{◌≡◌}
use Rattle.lwb_member.specs.Planning.{IsEarly}
use Rattle.lwb_member.proofs.Answering.{serving, served_to}
use Rattle.lwb_member.proofs.planning.serve_own.Given as goal

abbrev pub invariant-loop-stream : goal.invariant-loop-stream
invariant-loop-stream l = record {
  is : serving l.table l.streams ≡ served_to l.frame l.node l.boot l.fn.table l.fn.streams l.stream;
  early : IsEarly l.frame l.table;
}
