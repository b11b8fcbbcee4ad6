use Rattle.scenario_text.specs.OverLines.{over}
use Rattle.lwb_world.proofs.StatedRuns.{stated_run, stated_charges, stated_idle}
use Rattle.lwb_world.proofs.stated.world_over.Goals as goal

pub returns-clause-run : goal.returns-clause-run
returns-clause-run g c =
    stated_run (over c.args.s.now (g.M.Links.lines c.args.links.now)) c.in_ok-world.world.1 c.in_ok-world.world.0 c.run.new.self.0
    c.in_ok-world.ensures.new c.in_ok-world.ensures.clocks c.in_ok-run.ensures.run

pub returns-clause-charges : goal.returns-clause-charges
returns-clause-charges g c =
    stated_charges (over c.args.s.now (g.M.Links.lines c.args.links.now)) c.in_ok-world.world.1 c.in_ok-world.world.0 c.run.new.self.0
    c.in_ok-world.ensures.new c.in_ok-world.ensures.clocks c.in_ok-run.ensures.run

pub returns-clause-idle : goal.returns-clause-idle
returns-clause-idle g c =
    stated_idle (over c.args.s.now (g.M.Links.lines c.args.links.now)) c.in_ok-world.world.1 c.in_ok-world.world.0 c.run.new.self.0
    c.in_ok-world.ensures.new c.in_ok-world.ensures.clocks c.in_ok-run.ensures.run
