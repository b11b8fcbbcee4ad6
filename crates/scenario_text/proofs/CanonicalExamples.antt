-- The canonical text, tried on two scenarios.
use Rattle.std.proofs.Common.{◌≡◌, ◌++◌, ℕ, List, [], ◌∷◌, Ok, refl, ◌∙◌, ap, codes, map}
use Rattle.std.specs.Fmt.{digits}
use Rattle.std.specs.Str.{is_utf8, chars}
use lib.Utf8.{encode}
use Rattle.scenario_text.specs.Canonical.{canonical, canonical_lines, IsSaid}
use Rattle.lwb_base.specs.Profile.{Numbers, one}
use Rattle.link_trace.specs.Passes.{Lines}
use Rattle.scenario_text.specs.Network.{network_line}
use Rattle.text_writers.specs.HexWords.{payload_word}
use Rattle.scenario_text.specs.ScriptGrammar.{script_line, step_line, put_line}
use Rattle.scenario_text.specs.ScenarioGrammar.{long_scenario_of, scenario_after_words, scenario_line}
use Rattle.text_readers.specs.Reading.{draft_after_line}
use Rattle.scenario_text.specs.declared.lines.NodeLine.{NodeLine}
use Rattle.scenario_text.specs.declared.lines.RateLine.{RateLine}
use Rattle.scenario_text.specs.declared.script.ScriptLine.{ScriptLine}
use Rattle.scenario_text.proofs.ScenarioExamples.{first_round_parts, every_line_parts}

payload_words : map payload_word ([] ∷ (0 ∷ []) ∷ (170 ∷ 15 ∷ 255 ∷ []) ∷ []) ≡ codes "-" ∷ codes "00" ∷ codes "aa0fff" ∷ []
payload_words = refl

abbrev first_round_text : List ℕ
first_round_text = codes "profile 1\nframes 6\nsends 2\nnode 1 0\nnode 2 0\nhost 0 1\nlink 1 2\nlink 2 1\non 0 1\non 0 2\n"

first_round : canonical first_round_parts ≡ first_round_text
unfolding canonical_lines digits
first_round = refl

first_round_again : long_scenario_of first_round_text ≡ Ok first_round_parts
unfolding draft_after_line scenario_after_words scenario_line script_line step_line put_line network_line is_utf8 chars encode
first_round_again = refl

first_round_is_said : IsSaid first_round_parts
first_round_is_said = ap long_scenario_of first_round ∙ first_round_again

pub of_first_round : (profile : Numbers) (nodes : List NodeLine) (rates : List RateLine) (hosts : List ℕ) (trace : Lines) (script : List ScriptLine)
    → profile ≡ one → nodes ≡ first_round_parts.nodes → rates ≡ [] → hosts ≡ first_round_parts.hosts → trace ≡ first_round_parts.trace
    → script ≡ first_round_parts.script
    → IsSaid (record { profile = profile; frames = 6; sends = 2; nodes = nodes; rates = rates; hosts = hosts; trace = trace; script = script })
of_first_round profile nodes rates hosts trace script p n r h t s = rw (p, n, r, h, t, s) first_round_is_said

abbrev every_line_text : List ℕ
every_line_text = codes "profile 2\ncontend 3\nframes 6\nsends 2\nnode 1 0\nnode 2 0\nrate 2 1310720000000 -20\nhost 0 1\n"
    ++ codes "link 1 2\nlink 2 1\non 0 2\nstream 0 2 3 120\nput 1 2 3 -\nput 1 2 0 ab\nleave 2 2 3\noff 5 2\n"
    ++ codes "lose 5 45 11 1 2\ncut 5 0 0 1\ncapture 0 45 1 1 2\n"

every_line : canonical every_line_parts ≡ every_line_text
unfolding canonical_lines digits
every_line = refl

every_line_again : long_scenario_of every_line_text ≡ Ok every_line_parts
unfolding draft_after_line scenario_after_words scenario_line script_line step_line put_line network_line is_utf8 chars encode
every_line_again = refl
