use Rattle.schedule_codec.proofs.AckRuns.{Read}
use Rattle.schedule_codec.proofs.ack_bytes.read_each.Given as goal

abbrev pub invariant-loop : goal.invariant-loop
invariant-loop l = Read l.count l.bytes l.acks l.rest l.counter
