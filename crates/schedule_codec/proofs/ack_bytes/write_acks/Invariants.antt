use Rattle.std.proofs.Common.{◌≡◌, ◌∷◌, ◌+◌, ◌*◌, ◌-◌, length, take, flat_map}
use Rattle.schedule_codec.specs.AckLists.{ask_bytes}
use Rattle.schedule_codec.proofs.ack_bytes.write_acks.Given as goal

abbrev pub invariant-loop-place : goal.invariant-loop-place
invariant-loop-place l = record {
  bytes : l.bytes.items ≡ ((l.contend - 1) * 16 + length l.acks) ∷ flat_map ask_bytes (take l.place-index l.acks);
  many : length l.bytes.items ≡ 1 + 4 * l.place-index;
}
