use Rattle.std.proofs.Common.{◌≡◌, ◌*◌, take}
use Rattle.schedule_codec.specs.Packing.{packed_number}
use Rattle.schedule_codec.proofs.packing.pack.Given as goal

abbrev pub invariant-loop-number : goal.invariant-loop-number
invariant-loop-number l = record {
  count : l.bits.count ≡ l.number-index * l.width;
  value : l.bits.value ≡ packed_number l.width (take l.number-index l.numbers);
}
