-- Ranges of numbers, as tests.
use Rattle.std.specs.Prelude.{ℕ, Bool, nat_le, ◌&&◌}

abbrev pub between : ℕ → ℕ → ℕ → Bool
between low high n = nat_le low n && nat_le n high
