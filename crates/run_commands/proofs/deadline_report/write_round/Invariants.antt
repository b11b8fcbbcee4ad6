use Rattle.std.proofs.Common.{◌≡◌, ◌++◌, ◌∷◌, string_bytes, take, codes, map, decimal}
use Rattle.std.specs.List.{join_with_byte}
use Rattle.run_commands.proofs.deadline_report.write_round.Given as goal

abbrev pub invariant-loop-place : goal.invariant-loop-place
invariant-loop-place l = string_bytes l.text ≡ string_bytes l.fn.text ++ join_with_byte 32 (codes "round" ∷ map decimal (l.fn.frame ∷ take l.place l.owners))
