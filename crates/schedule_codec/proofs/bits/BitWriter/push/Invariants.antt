use Rattle.std.proofs.Common.{◌+◌, ◌≡◌, ◌*◌, ◌^◌, ◌<◌, ◌≤◌, length, true}
use Rattle.schedule_codec.specs.Packing.{packed_number, fit}
use Rattle.schedule_codec.proofs.bits.BitWriter.push.Given as goal

abbrev pub invariant-loop-self : goal.invariant-loop-self
invariant-loop-self l = record {
  count : 8 * length l.self-inside.bytes.items + l.self-inside.held ≡ l.fn.self.count + l.width;
  value : packed_number 8 l.self-inside.bytes.items * 2 ^ l.self-inside.held + l.self-inside.pending ≡ l.fn.self.value * 2 ^ l.width + l.value;
  below : l.self-inside.pending < 2 ^ l.self-inside.held;
  bytes : fit 8 l.self-inside.bytes.items ≡ true;
  few : l.self-inside.held ≤ 17;
}

abbrev pub decreases-loop-self : goal.decreases-loop-self
decreases-loop-self l = l.self-inside.held
