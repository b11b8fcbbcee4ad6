use Rattle.std.proofs.Common.{◌≡◌, ◌++◌, flat_map, string_bytes, take}
use Rattle.text_writers.specs.HexWords.{hex_digits}
use Rattle.text_writers.proofs.hex.write_hex.Given as goal

abbrev pub invariant-loop-b : goal.invariant-loop-b
invariant-loop-b l = string_bytes l.text ≡ string_bytes l.fn.text ++ flat_map hex_digits (take l.b-index l.bytes)
