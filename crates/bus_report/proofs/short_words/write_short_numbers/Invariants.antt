use Rattle.std.proofs.Common.{◌≡◌, ◌++◌, ◌∷◌, decimal, flat_map, string_bytes, take}
use Rattle.bus_report.proofs.short_words.write_short_numbers.Given as goal

abbrev pub invariant-loop-number : goal.invariant-loop-number
invariant-loop-number l = string_bytes l.text ≡ string_bytes l.fn.text ++ flat_map (λ n. 32 ∷ decimal n) (take l.number-index l.numbers)
