use Rattle.std.proofs.Common.{◌≡◌, ◌+◌, ◌*◌, ◌^◌, length, true}
use Rattle.schedule_codec.specs.Packing.{packed_number, fit}
use Rattle.schedule_codec.proofs.packing.unpack.Given as goal

abbrev pub invariant-loop : goal.invariant-loop
invariant-loop l = record {
  many : length l.numbers.items ≡ l.counter;
  count : l.bits.count + l.counter * l.width ≡ 8 * length l.bytes;
  value : packed_number l.width l.numbers.items * 2 ^ l.bits.count + l.bits.value ≡ packed_number 8 l.bytes;
  fits : fit l.width l.numbers.items ≡ true;
}
