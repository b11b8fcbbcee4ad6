-- A scenario that may be run, and the lines `deliver` that its run prints: a backup host takes over, and two packets arrive.
use Rattle.std.proofs.Common.{[], ◌++◌, codes, refl, arith}
use Rattle.std.specs.Fmt.{digits}
use Rattle.std.specs.Str.{chars, is_utf8}
use lib.Utf8.{encode}
use Rattle.lwb_base.specs.Messages.{least_passing}
use Rattle.text_readers.specs.Reading.{draft_after_line}
use Rattle.scenario_text.specs.Network.{network_line}
use Rattle.scenario_text.specs.ScenarioGrammar.{IsScenario, scenario_after_words, scenario_line}
use Rattle.scenario_text.specs.ScriptGrammar.{put_line, script_line, step_line}
use Rattle.scenario_text.proofs.OrderedParts.{in_order_said}
use Rattle.bus_rules.specs.Granting.{plan_round}
use Rattle.bus_rules.specs.HostPlans.{host_plan}
use Rattle.bus_rules.specs.Streams.{schedule_heard}
use Rattle.bus_terms.specs.Bus.{before_frame}
use Rattle.bus_terms.specs.Flooding.{moment}
use Rattle.bus_terms.specs.Rounds.{before_slot}
use Rattle.bus_terms.proofs.WorkedBuses.{backup}
use Rattle.law_printed.specs.Printed.{CanBeRun, PrintsDeliveries}

backup_is_scenario : IsScenario backup
unfolding draft_after_line scenario_after_words scenario_line script_line step_line put_line network_line is_utf8 chars encode
backup_is_scenario = (
  codes "sends 2\nnode 1 0\nnode 2 0\nnode 3 0\nhost 0 1\nhost 1 2\npair 1 2\npair 1 3\npair 2 3\nframes 32\n"
      ++ codes "on 0 1\non 0 2\non 0 3\nstream 0 3 0 4\nput 0 3 0 aa\noff 6 1\nput 20 3 0 bb\n",
  refl,
)

backup_can_be_run : CanBeRun backup
backup_can_be_run = record { in_order = in_order_said backup backup_is_scenario; few = omega arith; few_lines = omega arith }

-- in a text with other lines
backup_prints : PrintsDeliveries backup (codes "deliver 9 0 1 2 3 1 0 0 aa\ndeliver 31 1 1 2 3 1 0 1 bb\nenergy 1 0 0 0 0\n")
unfolding before_frame before_slot moment schedule_heard host_plan plan_round least_passing digits
backup_prints = refl
