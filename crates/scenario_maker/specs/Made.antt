-- The scenario that is made of a seed. Each of its drawn parts takes the generator as it is where the part begins,
-- and each draw has its place from there on: a step draws the same number of words whatever comes of them.
use Rattle.std.specs.Prelude.{ℕ, ◌+◌, ◌-◌, ◌*◌, ◌/◌, ◌%◌, ◌≤◌, pos, ◌-ℤ◌, List, [], ◌∷◌, ◌++◌, map, filter, Bool, ◌==◌, ◌&&◌, ◌||◌, nat_le, if◌then◌else◌}
use Rattle.std.specs.List.{fold, flat_map, list_any, range_with_len}
use Rattle.lwb_base.specs.Profile.{one}
use Rattle.lwb_base.specs.declared.limits.TheConstants.{DRIFT_BOUND, FLOOD_STEPS, MOST_FRAMES, MOST_NODES}
use Rattle.link_trace.specs.Order.{by_link, by_loss, with_line}
use Rattle.link_trace.specs.Passes.{is_link, is_loss}
use Rattle.link_trace.specs.declared.lines.LinkLine.{LinkLine}
use Rattle.link_trace.specs.declared.lines.LoseLine.{LoseLine}
use Rattle.rand_pcg.specs.Lcg.{Lcg}
use Rattle.scenario_maker.specs.Drawn.{seeded, later, drawn_word}
use Rattle.scenario_text.specs.ScenarioParts.{ScenarioParts}
use Rattle.scenario_text.specs.declared.limits.TheConstants.{RUN_NODE_FRAMES}
use Rattle.scenario_text.specs.declared.lines.NodeLine.{NodeLine}
use Rattle.scenario_text.specs.declared.lines.RateLine.{RateLine}
use Rattle.bus_rules.specs.declared.act.Act.TheVariants.{On, Off, Declare, Put}
use Rattle.scenario_text.specs.declared.script.ScriptLine.{ScriptLine}

-- a made scenario has 2 to 64 nodes and 1 to 4,096 frames, and can be run with a log
pub record IsSize (n frames : ℕ) : Type 0 where
  pub nodes : (2 ≤ n) × (n ≤ MOST_NODES)
  pub some_frames : (1 ≤ frames) × (frames ≤ MOST_FRAMES)
  pub product : n * frames ≤ RUN_NODE_FRAMES

-- the nodes, and those from 2 on
abbrev pub all_nodes : ℕ → List ℕ
all_nodes n = range_with_len 1 n

abbrev pub later_nodes : ℕ → List ℕ
later_nodes n = range_with_len 2 (n - 1)

-- for each node an offset, and then a rate
abbrev pub node_line : Lcg → ℕ → NodeLine
node_line g i = record { node = i; offset = drawn_word g (2 * (i - 1)) % 256001 }

abbrev pub rate_line : Lcg → ℕ → RateLine
rate_line g i = record { node = i; from = 0; ppm = pos (drawn_word g (2 * (i - 1) + 1) % (2 * DRIFT_BOUND + 1)) -ℤ pos DRIFT_BOUND }

-- each node from 2 on, and one before it
abbrev pub tree_pair : Lcg → ℕ → ℕ × ℕ
tree_pair g i = (i, 1 + drawn_word g (i - 2) % (i - 1))

abbrev pub tree_pairs : Lcg → ℕ → List (ℕ × ℕ)
tree_pairs g n = map (tree_pair g) (later_nodes n)

-- and as many pairs as there are nodes
abbrev pub random_pair : Lcg → ℕ → ℕ → ℕ × ℕ
random_pair g n t = (1 + drawn_word g (2 * t) % n, 1 + drawn_word g (2 * t + 1) % n)

abbrev pub random_pairs : Lcg → ℕ → List (ℕ × ℕ)
random_pairs g n = map (random_pair g n) (range_with_len 0 n)

-- the link from u to v, unless it is there
abbrev pub with_new_link : ℕ → ℕ → List LinkLine → List LinkLine
with_new_link u v ls = if list_any (is_link u v) ls then ls else with_line by_link (record { from = u; to = v }) ls

-- both links of two nodes that differ, where the first is not there
abbrev pub with_pair : List LinkLine → ℕ × ℕ → List LinkLine
with_pair ls p =
    if (p.0 == p.1) || list_any (is_link p.0 p.1) ls then ls
    else with_new_link p.1 p.0 (with_line by_link (record { from = p.0; to = p.1 }) ls)

abbrev pub with_pairs : List LinkLine → List (ℕ × ℕ) → List LinkLine
with_pairs ls ps = fold with_pair ls ps

-- what is lost in a frame: n / 2 times a slot, a step and two nodes
abbrev pub drawn_loss : Lcg → ℕ → ℕ → ℕ → LoseLine
drawn_loss g n f t = record {
  frame = f;
  slot = drawn_word g (4 * t) % 43;
  step = drawn_word g (4 * t + 1) % FLOOD_STEPS;
  from = 1 + drawn_word g (4 * t + 2) % n;
  to = 1 + drawn_word g (4 * t + 3) % n;
}

abbrev pub drawn_losses : Lcg → ℕ → ℕ → List LoseLine
drawn_losses g n f = map (drawn_loss g n f) (range_with_len 0 (n / 2))

-- a lose line whose nodes differ, unless it is there
abbrev pub with_new_loss : List LoseLine → LoseLine → List LoseLine
with_new_loss ls l = if (l.from == l.to) || list_any (is_loss l.frame l.slot l.step l.from l.to) ls then ls else with_line by_loss l ls

-- each frame draws after those before it
abbrev pub frame_losses : Lcg → ℕ → ℕ → List LoseLine
frame_losses g n f = drawn_losses (later (4 * (n / 2) * f) g) n f

abbrev pub losses : Lcg → ℕ → ℕ → List LoseLine
losses g n frames = fold with_new_loss [] (flat_map (frame_losses g n) (range_with_len 0 frames))

-- in frame 0 all nodes go on, and each from 2 on has a stream
abbrev pub on_line : ℕ → ScriptLine
on_line i = record { frame = 0; node = i; act = On }

abbrev pub stream_line : Lcg → ℕ → ScriptLine
stream_line g i = record { frame = 0; node = i; act = Declare 0 (4 + drawn_word g (i - 2) % 13) }

-- in a run of at least 40 frames node 1 goes off in the middle
abbrev pub off_lines : ℕ → ℕ → List ScriptLine
off_lines frames f = if nat_le 40 frames && (f == frames / 2) then record { frame = f; node = 1; act = Off } ∷ [] else []

-- each node from 2 on puts in each fourth frame, the frame's number in two bytes
abbrev pub node_puts : ℕ → ℕ → Bool
node_puts f i = (f + i) % 4 == 0

abbrev pub made_put_line : ℕ → ℕ → ScriptLine
made_put_line f i = record { frame = f; node = i; act = Put 0 (f / 256 ∷ f % 256 ∷ []) }

abbrev pub put_lines : ℕ → ℕ → List ScriptLine
put_lines n f = map (made_put_line f) (filter (node_puts f) (later_nodes n))

abbrev pub frame_lines : ℕ → ℕ → ℕ → List ScriptLine
frame_lines n frames f = off_lines frames f ++ put_lines n f

abbrev pub script : Lcg → ℕ → ℕ → List ScriptLine
script g n frames =
    map on_line (all_nodes n) ++ map (stream_line g) (later_nodes n) ++ flat_map (frame_lines n frames) (range_with_len 0 frames)

-- the whole: nodes and rates take 2 n words, the links n - 1 and 2 n, the streams n - 1, and the lose lines the rest
unfoldable pub made : ℕ → ℕ → ℕ → ScenarioParts
made seed n frames =
    let g = seeded seed in
    record {
      profile = one;
      frames = frames;
      sends = 2;
      nodes = map (node_line g) (all_nodes n);
      rates = map (rate_line g) (all_nodes n);
      hosts = 1 ∷ n ∷ [];
      trace = record {
        links = with_pairs (with_pairs [] (tree_pairs (later (2 * n) g) n)) (random_pairs (later (3 * n - 1) g) n);
        losses = losses (later (6 * n - 2) g) n frames;
        cuts = [];
        captures = [];
      };
      script = script (later (5 * n - 1) g) n frames;
    }
