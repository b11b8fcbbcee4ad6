-- Coins, thrown from a seed by a written generator: one for each frame, slot, step, sender and receiver.
use Rattle.std.specs.Prelude.{ℕ, ◌+◌, ◌*◌, ◌/◌, ◌%◌, ◌^◌, Bool, nat_lt}
use Rattle.rand_xoshiro.specs.SplitMix64.{mix_u64}

-- the output of the generator SplitMix64 (Steele, Lea and Flood, 2014) in this state
abbrev pub splitmix : ℕ → ℕ
splitmix x = (mix_u64 x).0

-- one number for frame f, slot j, step k, sender u and receiver v
abbrev pub coin_key : ℕ → ℕ → ℕ → ℕ → ℕ → ℕ
coin_key f j k u v = (((f * 64 + j) * 16 + k) * 256 + u) * 256 + v

-- the coin of a key: the upper 53 bits of what the generator gives, key steps after a state that the seed gives
unfoldable pub coin : ℕ → ℕ → ℕ
coin seed key = splitmix ((splitmix (seed % 2 ^ 64) + key * 0x9e3779b97f4a7c15) % 2 ^ 64) / 2 ^ 11

-- a link of this ratio, in millionths, passes if and only if its coin, as a part of 2^53, is below the ratio
abbrev pub coin_passes : ℕ → ℕ → ℕ → Bool
coin_passes ratio seed key = nat_lt (coin seed key * 1000000) (ratio * 2 ^ 53)
