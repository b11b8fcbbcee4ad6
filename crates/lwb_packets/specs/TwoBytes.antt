-- Numbers in two bytes, the high one first.
use Rattle.std.specs.Prelude.{ℕ, ◌+◌, ◌*◌, ◌/◌, ◌%◌, List, [], ◌∷◌}

abbrev pub two_bytes : ℕ → List ℕ
two_bytes n = n / 256 ∷ n % 256 ∷ []

abbrev pub number_of_two : ℕ → ℕ → ℕ
number_of_two high low = 256 * high + low
