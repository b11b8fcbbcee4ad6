-- Parts of the scenario that seed 7 makes with 20 nodes and 50 frames, by values that were worked out outside of this
-- repository.
use Rattle.std.proofs.Common.{◌≡◌, ℕ, ◌*◌, ◌/◌, ◌∷◌, [], map, refl}
use Rattle.std.specs.Prelude.{pos, negsuc}
use Rattle.rand_core.specs.Pcg32Seed.{pcg32_seed}
use Rattle.rand_core.specs.Steps.{u32_at, word_bytes}
use Rattle.rand_pcg.specs.Lcg.{state_after}
use Rattle.bus_rules.specs.declared.act.Act.TheVariants.{Off, Declare}
use Rattle.scenario_text.specs.declared.script.ScriptLine.{ScriptLine}
use Rattle.scenario_maker.specs.Drawn.{seeded, later, drawn_word}
use Rattle.scenario_maker.specs.Made.{node_line, rate_line, tree_pair, random_pair, stream_line, off_lines, put_lines, drawn_loss}

abbrev node_of : ScriptLine → ℕ
node_of l = l.node

first_node : node_line (seeded 7) 1 ≡ record { node = 1; offset = 229798 }
unfolding seeded later drawn_word state_after pcg32_seed u32_at word_bytes
first_node = refl

first_rate : rate_line (seeded 7) 1 ≡ record { node = 1; from = 0; ppm = negsuc 10 }
unfolding seeded later drawn_word state_after pcg32_seed u32_at word_bytes
first_rate = refl

last_rate : rate_line (seeded 7) 20 ≡ record { node = 20; from = 0; ppm = pos 15 }
unfolding seeded later drawn_word state_after pcg32_seed u32_at word_bytes
last_rate = refl

-- node 17 depends on node 12, and the first pair of the random ones is 19 and 12
a_parent : tree_pair (later 40 (seeded 7)) 17 ≡ (17, 12)
unfolding seeded later drawn_word state_after pcg32_seed u32_at word_bytes
a_parent = refl

first_pair : random_pair (later 59 (seeded 7)) 20 0 ≡ (19, 12)
unfolding seeded later drawn_word state_after pcg32_seed u32_at word_bytes
first_pair = refl

last_stream : stream_line (later 99 (seeded 7)) 20 ≡ record { frame = 0; node = 20; act = Declare 0 16 }
unfolding seeded later drawn_word state_after pcg32_seed u32_at word_bytes
last_stream = refl

first_loss : drawn_loss (later 118 (seeded 7)) 20 0 0 ≡ record { frame = 0; slot = 33; step = 8; from = 5; to = 7 }
unfolding seeded later drawn_word state_after pcg32_seed u32_at word_bytes
first_loss = refl

-- the frame 49 begins 1,960 words later
last_loss : drawn_loss (later (4 * (20 / 2) * 49) (later 118 (seeded 7))) 20 49 9 ≡ record { frame = 49; slot = 0; step = 1; from = 7; to = 17 }
unfolding seeded later drawn_word state_after pcg32_seed u32_at word_bytes
last_loss = refl

-- node 1 goes off in frame 25, and node 19 is the last that puts in the last frame
middle : off_lines 50 25 ≡ record { frame = 25; node = 1; act = Off } ∷ []
middle = refl

last_puts : map node_of (put_lines 20 49) ≡ 3 ∷ 7 ∷ 11 ∷ 15 ∷ 19 ∷ []
last_puts = refl
