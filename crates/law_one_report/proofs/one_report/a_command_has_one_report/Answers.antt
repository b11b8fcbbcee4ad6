use Rattle.law_one_report.proofs.SameReports.{one_report}
use Rattle.law_one_report.proofs.one_report.a_command_has_one_report.Goals as goal

pub returns : goal.returns
returns c =
    one_report (record {
      runs = record {
        log = c.a_scenario_has_one_lawful_log.ensures;
        text = c.a_scenario_has_one_log_text.ensures;
        cost = c.a_scenario_has_one_cost.ensures;
      };
      flood = c.a_flood_has_one_log.ensures;
      clocks = c.stated_clocks_keep_the_drift_law.ensures;
      drift = c.scenario_clocks_keep_the_drift_law.ensures;
      said = c.made_scenarios_are_accepted.ensures.said;
      sound = c.scenarios_are_sound.ensures.sound;
      stamps = c.logs_have_one_list_of_stamps.ensures;
      returned = c.returns_do_not_depend_on_the_runs.ensures;
      verdict = c.a_log_has_one_verdict.ensures;
    })
