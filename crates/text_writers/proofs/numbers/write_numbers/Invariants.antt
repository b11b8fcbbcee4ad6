use Rattle.std.proofs.Common.{◌≡◌, ◌++◌, ◌∷◌, flat_map, string_bytes, take}
use Rattle.text_writers.proofs.numbers.write_numbers.Given as goal

abbrev pub invariant-loop-number : goal.invariant-loop-number
invariant-loop-number g l = string_bytes l.text ≡ string_bytes l.fn.text ++ flat_map (λ n. 32 ∷ g.I.Integer.text n) (take l.number-index l.numbers)
