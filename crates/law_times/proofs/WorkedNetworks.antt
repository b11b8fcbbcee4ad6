-- Worked networks, by their texts: nodes in a line that boot one after another, and a host that fails.
use Rattle.std.proofs.Common.{ℕ, [], ◌∷◌, ◌++◌, refl, codes}
use Rattle.law_times.proofs.Words.{is_utf8, chars, encode, one, network_line, IsScenario, scenario_after_words, scenario_line, ScenarioParts, script_line}
use Rattle.law_times.proofs.Words.{step_line, put_line, draft_after_line, LoseLine, On, Declare, Put, node, link, at, backup}

abbrev lost : LoseLine
lost = record { frame = 4; slot = 0; step = 0; from = 1; to = 2 }

-- node 1 hosts; the others boot in frames 2 and 5. A line of frame 4 loses what node 1 would transmit
abbrev pub line_of_three : ScenarioParts
line_of_three = record {
  profile = one;
  frames = 12;
  sends = 1;
  nodes = node 1 ∷ node 2 ∷ node 3 ∷ [];
  rates = [];
  hosts = 1 ∷ [];
  trace = record { links = link 1 2 ∷ link 2 1 ∷ link 2 3 ∷ link 3 2 ∷ []; losses = lost ∷ []; cuts = []; captures = [] };
  script = at 0 1 On ∷ at 2 2 On ∷ at 5 3 On ∷ [];
}

pub line_is_scenario : IsScenario line_of_three
unfolding draft_after_line scenario_after_words scenario_line script_line step_line put_line network_line is_utf8 chars encode
line_is_scenario =
    (codes "sends 1\nnode 1 0\nnode 2 0\nnode 3 0\nhost 0 1\npair 1 2\npair 2 3\nframes 12\nlose 4 0 0 1 2\non 0 1\non 2 2\non 5 3\n", refl)

-- node 1 hosts, and node 2 if that fails. It does in frame 6, when all hold its round of frame 9
pub backup_is_scenario : IsScenario backup
unfolding draft_after_line scenario_after_words scenario_line script_line step_line put_line network_line is_utf8 chars encode
backup_is_scenario = (
  codes "sends 2\nnode 1 0\nnode 2 0\nnode 3 0\nhost 0 1\nhost 1 2\npair 1 2\npair 1 3\npair 2 3\nframes 32\n"
      ++ codes "on 0 1\non 0 2\non 0 3\nstream 0 3 0 4\nput 0 3 0 aa\noff 6 1\nput 20 3 0 bb\n",
  refl,
)

-- node 2 misses three rounds of node 1 in a row, those of frames 9, 13 and 17
abbrev missed : ℕ → ℕ → LoseLine
missed f slot = record { frame = f; slot = slot; step = 0; from = 1; to = 2 }

abbrev pub three_lost : ScenarioParts
three_lost = record {
  profile = one;
  frames = 24;
  sends = 1;
  nodes = node 1 ∷ node 2 ∷ [];
  rates = [];
  hosts = 1 ∷ [];
  trace = record {
    links = link 1 2 ∷ link 2 1 ∷ [];
    losses = missed 9 0 ∷ missed 9 2 ∷ missed 13 0 ∷ missed 13 2 ∷ missed 17 0 ∷ missed 17 2 ∷ [];
    cuts = [];
    captures = [];
  };
  script = at 0 1 On ∷ at 0 2 On ∷ [];
}

pub three_is_scenario : IsScenario three_lost
unfolding draft_after_line scenario_after_words scenario_line script_line step_line put_line network_line is_utf8 chars encode
three_is_scenario = (
  codes "sends 1\nnode 1 0\nnode 2 0\nhost 0 1\npair 1 2\nframes 24\nlose 9 0 0 1 2\nlose 9 2 0 1 2\n"
      ++ codes "lose 13 0 0 1 2\nlose 13 2 0 1 2\nlose 17 0 0 1 2\nlose 17 2 0 1 2\non 0 1\non 0 2\n",
  refl,
)

-- node 2 asks for a slot in six seconds, with one packet
abbrev pub slow_stream : ScenarioParts
slow_stream = record {
  profile = one;
  frames = 20;
  sends = 1;
  nodes = node 1 ∷ node 2 ∷ [];
  rates = [];
  hosts = 1 ∷ [];
  trace = record { links = link 1 2 ∷ link 2 1 ∷ []; losses = []; cuts = []; captures = [] };
  script = at 0 1 On ∷ at 0 2 On ∷ at 0 2 (Declare 0 6) ∷ at 0 2 (Put 0 (0xaa ∷ [])) ∷ [];
}

pub slow_is_scenario : IsScenario slow_stream
unfolding draft_after_line scenario_after_words scenario_line script_line step_line put_line network_line is_utf8 chars encode
slow_is_scenario =
    (codes "sends 1\nnode 1 0\nnode 2 0\nhost 0 1\npair 1 2\nframes 20\non 0 1\non 0 2\nstream 0 2 0 6\nput 0 2 0 aa\n", refl)
