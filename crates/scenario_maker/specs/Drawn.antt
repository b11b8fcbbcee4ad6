-- The words that a seeded generator gives, each by its place.
use Rattle.std.specs.Prelude.{ℕ}
use Rattle.rand_core.specs.Pcg32Seed.{pcg32_seed}
use Rattle.rand_pcg.specs.Lcg.{Lcg, advance}
use Rattle.rand_pcg.specs.Pcg.{multiplier_64, output_xsh_rr, pcg32_of_seed}

-- the generator of a seed
unfoldable pub seeded : ℕ → Lcg
seeded seed = pcg32_of_seed (pcg32_seed 16 seed)

-- the generator k words on
unfoldable pub later : ℕ → Lcg → Lcg
later k g = advance 64 multiplier_64 k g

-- its word k from there on, counted from 0
unfoldable pub drawn_word : Lcg → ℕ → ℕ
drawn_word g k = output_xsh_rr (later k g).state
