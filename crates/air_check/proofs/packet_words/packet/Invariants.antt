use Rattle.std.proofs.Common.{◌≡◌, ◌++◌, length}
use Rattle.scenario_text.specs.Payloads.{hex_bytes}
use Rattle.air_check.proofs.packet_words.packet.Given as goal

-- the bytes so far, and those of the rest
abbrev pub invariant-loop-rest : goal.invariant-loop-rest
invariant-loop-rest l = hex_bytes l.digits ≡ l.bytes.items ++ hex_bytes l.rest

abbrev pub decreases-loop-rest : goal.decreases-loop-rest
decreases-loop-rest l = length l.rest
