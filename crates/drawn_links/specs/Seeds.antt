-- The state of the generator from which the coins of a seed are thrown.
use Rattle.std.specs.Prelude.{ℕ, ◌%◌, ◌^◌}
use Rattle.drawn_links.specs.Coins.{splitmix}

abbrev pub start_of : ℕ → ℕ
start_of seed = splitmix (seed % 2 ^ 64)
