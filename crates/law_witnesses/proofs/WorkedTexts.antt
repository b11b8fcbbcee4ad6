-- The text of the worked run.
use Rattle.std.proofs.Common.{refl, codes}
use Rattle.std.specs.Str.{chars, is_utf8}
use lib.Utf8.{encode}
use Rattle.text_readers.specs.Reading.{draft_after_line}
use Rattle.scenario_text.specs.Network.{network_line}
use Rattle.scenario_text.specs.ScenarioGrammar.{IsScenario, scenario_after_words, scenario_line}
use Rattle.scenario_text.specs.ScriptGrammar.{put_line, script_line, step_line}
use Rattle.law_trails.specs.OnePacket.{one_packet}

pub one_packet_is_said : IsScenario one_packet
unfolding draft_after_line scenario_after_words scenario_line script_line step_line put_line network_line is_utf8 chars encode
one_packet_is_said = (
  codes "sends 2\nnode 1 0\nnode 2 0\nrate 1 0 20\nrate 2 0 -20\nhost 0 1\npair 1 2\nframes 12\non 0 1\non 0 2\nstream 0 2 0 4\nput 0 2 0 aa\nlose 9 0 1 2 1\n",
  refl,
)
