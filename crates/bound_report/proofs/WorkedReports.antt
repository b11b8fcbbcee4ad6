-- Worked texts: each bound holds of one, and is open in one for each reason, by the line that breaks it.
use Rattle.std.proofs.Common.{◌≡◌, ℕ, List, [], ◌∷◌, ◌++◌, true, Ok, refl, codes}
use Rattle.std.specs.Str.{bytes_eq}
unfoldable use Rattle.std.specs.Str.{chars, is_utf8}
unfoldable use Rattle.std.specs.Fmt.{digits}
unfoldable use lib.Utf8.{encode}
use Rattle.lwb_base.specs.Profile.{one}
use Rattle.link_trace.specs.declared.lines.LinkLine.{LinkLine}
unfoldable use Rattle.text_readers.specs.Reading.{draft_after_line}
unfoldable use Rattle.scenario_text.specs.Network.{network_line}
use Rattle.scenario_text.specs.ScenarioGrammar.{scenario_of}
unfoldable use Rattle.scenario_text.specs.ScenarioGrammar.{scenario_after_words, scenario_line}
use Rattle.scenario_text.specs.ScenarioParts.{ScenarioParts}
unfoldable use Rattle.scenario_text.specs.ScriptGrammar.{put_line, script_line, step_line}
use Rattle.scenario_text.specs.declared.lines.NodeLine.{NodeLine}
use Rattle.scenario_text.specs.declared.script.ScriptLine.{ScriptLine}
use Rattle.bus_rules.specs.declared.act.Act.{Act}
use Rattle.bus_rules.specs.declared.act.Act.TheVariants.{On, Off}
use Rattle.bound_report.specs.BoundLines.{bounds_text}

abbrev at : ℕ → ℕ → Act → ScriptLine
at f v a = record { frame = f; node = v; act = a }

abbrev node : ℕ → NodeLine
node v = record { node = v; offset = 0 }

abbrev link : ℕ → ℕ → LinkLine
link u v = record { from = u; to = v }

-- two nodes that are neighbours, with these hosts, frames and script
abbrev two_nodes : List ℕ → ℕ → List ScriptLine → ScenarioParts
two_nodes hosts frames script = record {
  profile = one;
  frames = frames;
  sends = 1;
  nodes = node 1 ∷ node 2 ∷ [];
  rates = [];
  hosts = hosts;
  trace = record { links = link 1 2 ∷ link 2 1 ∷ []; losses = []; cuts = []; captures = [] };
  script = script;
}

-- node 1 fails, and node 2 takes over
abbrev fails : ScenarioParts
fails = two_nodes (1 ∷ 2 ∷ []) 40 (at 0 1 On ∷ at 0 2 On ∷ at 6 1 Off ∷ [])

abbrev fails_text : List ℕ
fails_text = codes "sends 1\nnode 1 0\nnode 2 0\nhost 0 1\nhost 1 2\npair 1 2\nframes 40\non 0 1\non 0 2\noff 6 1\n"

fails_said : scenario_of fails_text ≡ Ok fails
unfolding draft_after_line scenario_after_words scenario_line script_line step_line put_line network_line is_utf8 chars encode
fails_said = refl

both_hold : bytes_eq (bounds_text fails_text fails [])
    (codes "holds first 1 0 5 5\nopen failover 1 power\nholds failover 2 6 27 21\nopen joined 2 0 power 10\nopen scanning 2 0 power 10\n") ≡ true
unfolding digits
both_hold = refl

-- the only host boots thrice: it goes off too early, then late enough, and at last too late for the run
abbrev restarts : ScenarioParts
restarts = two_nodes (1 ∷ []) 20 (at 0 1 On ∷ at 3 1 Off ∷ at 7 1 On ∷ at 13 1 Off ∷ at 16 1 On ∷ [])

abbrev restarts_text : List ℕ
restarts_text =
    codes "sends 1\nnode 1 0\nnode 2 0\nhost 0 1\npair 1 2\nframes 20\n# three boots\n\non 0 1\noff 3 1\non 7 1\noff 13 1\non 16 1\n"

restarts_said : scenario_of restarts_text ≡ Ok restarts
unfolding draft_after_line scenario_after_words scenario_line script_line step_line put_line network_line is_utf8 chars encode
restarts_said = refl

each_boot : bytes_eq (bounds_text restarts_text restarts [])
    (codes "open first 1 0 power 10\nholds first 1 7 12 5\nopen first 1 16 rounds\nopen failover 1 power\n"
    ++ codes "open joined 2 0 power 10\nopen scanning 2 0 power 10\nopen joined 2 7 power 12\nopen scanning 2 7 power 12\n"
    ++ codes "open joined 2 16 power\nopen scanning 2 16 power\n") ≡ true
unfolding digits
each_boot = refl

-- node 1 is on for no frame; and of its other host's failure too little is left of the run
abbrev never_on : ScenarioParts
never_on = two_nodes (1 ∷ 2 ∷ []) 20 (at 0 2 On ∷ at 4 1 On ∷ at 4 1 Off ∷ [])

abbrev never_text : List ℕ
never_text = codes "sends 1\nnode 1 0\nnode 2 0\nhost 0 1\nhost 1 2\npair 1 2\nframes 20\non 0 2\non 4 1\noff 4 1\n"

never_said : scenario_of never_text ≡ Ok never_on
unfolding draft_after_line scenario_after_words scenario_line script_line step_line put_line network_line is_utf8 chars encode
never_said = refl

no_boot : bytes_eq (bounds_text never_text never_on [])
    (codes "open first 1 boots\nopen failover 1 power\nopen failover 2 4 rounds\nopen joined 2 boots\nopen scanning 2 boots\n") ≡ true
unfolding digits
no_boot = refl

-- node 1 comes back before node 2 has to host, which fails later itself: then node 1 is off by its own line
abbrev comes_back : ScenarioParts
comes_back = two_nodes (1 ∷ 2 ∷ []) 60 (at 0 1 On ∷ at 0 2 On ∷ at 6 1 Off ∷ at 20 1 On ∷ [])

abbrev back_text : List ℕ
back_text = codes "sends 1\nnode 1 0\nnode 2 0\nhost 0 1\nhost 1 2\npair 1 2\nframes 60\non 0 1\non 0 2\noff 6 1\non 20 1\n"

back_said : scenario_of back_text ≡ Ok comes_back
unfolding draft_after_line scenario_after_words scenario_line script_line step_line put_line network_line is_utf8 chars encode
back_said = refl

too_early : bytes_eq (bounds_text back_text comes_back [])
    (codes "holds first 1 0 5 5\nholds first 1 20 25 5\nopen failover 1 power\nopen failover 2 6 power 11\n"
    ++ codes "open joined 2 0 power 10\nopen scanning 2 0 power 10\nopen joined 2 20 power 9\nopen scanning 2 20 power 9\n") ≡ true
unfolding digits
too_early = refl

-- both fail, one after the other: of the first, its own line stands against it; the second goes off too early
abbrev both_fail : ScenarioParts
both_fail = two_nodes (1 ∷ 2 ∷ []) 60 (at 0 1 On ∷ at 0 2 On ∷ at 6 1 Off ∷ at 10 2 Off ∷ [])

abbrev both_text : List ℕ
both_text = codes "sends 1\nnode 1 0\nnode 2 0\nhost 0 1\nhost 1 2\npair 1 2\nframes 60\non 0 1\non 0 2\noff 6 1\noff 10 2\n"

both_said : scenario_of both_text ≡ Ok both_fail
unfolding draft_after_line scenario_after_words scenario_line script_line step_line put_line network_line is_utf8 chars encode
both_said = refl

by_own_lines : bytes_eq (bounds_text both_text both_fail [])
    (codes "holds first 1 0 5 5\nopen failover 1 10 power 10\nopen failover 2 6 power 11\nopen joined 2 0 power 10\nopen scanning 2 0 power 10\n") ≡ true
unfolding digits
by_own_lines = refl
