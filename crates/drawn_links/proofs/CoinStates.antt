-- The state of the generator that gives a coin.
use Rattle.std.proofs.Common.{◌≡◌, ℕ, ◌+◌, ◌*◌, ◌/◌, ◌%◌, ◌^◌, ◌∙◌, ap, arith}
use Rattle.drawn_links.specs.Coins.{coin, splitmix}
use Rattle.drawn_links.specs.Seeds.{start_of}

-- a product may wrap before it is added
wrapped : (a b : ℕ) → (a + b % 2 ^ 64) % 2 ^ 64 ≡ (a + b) % 2 ^ 64
wrapped a b = omega arith

pub coin_is : (start key seed : ℕ) → start ≡ start_of seed
    → splitmix ((start + key * 0x9e3779b97f4a7c15 % 2 ^ 64) % 2 ^ 64) / 2 ^ 11 ≡ coin seed key
unfolding coin
coin_is start key seed is =
    ap (λ (x : ℕ). splitmix x / 2 ^ 11)
    (wrapped start (key * 0x9e3779b97f4a7c15) ∙ ap (λ (s : ℕ). (s + key * 0x9e3779b97f4a7c15) % 2 ^ 64) is)
