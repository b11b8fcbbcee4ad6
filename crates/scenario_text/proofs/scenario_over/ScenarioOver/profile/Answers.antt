use Rattle.scenario_text.proofs.SoundOver.{over_scenario}
use Rattle.scenario_text.proofs.scenario_over.ScenarioOver.profile.Goals as goal

pub returns-clause-said : goal.returns-clause-said
returns-clause-said g c =
    over_scenario c.self.inside.scenario.now c.args.self.now (g.M.Links.lines c.self.inside.links.now) c.self.view_is c.profile.ensures.said
