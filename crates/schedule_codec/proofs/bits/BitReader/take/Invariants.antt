use Rattle.std.proofs.Common.{◌-◌, ◌≡◌, ◌+◌, ◌*◌, ◌^◌, ◌<◌, length}
use Rattle.schedule_codec.specs.Packing.{packed_number}
use Rattle.schedule_codec.proofs.bits.BitReader.take.Given as goal

abbrev pub invariant-loop-self : goal.invariant-loop-self
invariant-loop-self l = record {
  count : 8 * length l.self-inside.rest.now + l.self-inside.held ≡ l.fn.self.count;
  value : l.self-inside.pending * 2 ^ (length l.self-inside.rest.now * 8) + packed_number 8 l.self-inside.rest.now ≡ l.fn.self.value;
  below : l.self-inside.pending < 2 ^ l.self-inside.held;
  few : l.self-inside.held < l.width + 8;
}

abbrev pub decreases-loop-self : goal.decreases-loop-self
decreases-loop-self l = l.width - l.self-inside.held
