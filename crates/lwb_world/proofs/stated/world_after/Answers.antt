use Rattle.lwb_world.proofs.StatedRuns.{stated_run, stated_charges, stated_idle}
use Rattle.lwb_world.proofs.stated.world_after.Goals as goal

pub returns-clause-run : goal.returns-clause-run
returns-clause-run c =
    stated_run c.args.s.now c.in_ok-world.world.1 c.in_ok-world.world.0 c.run.new.self.0 c.in_ok-world.ensures.new c.in_ok-world.ensures.clocks
    c.in_ok-run.ensures.run

pub returns-clause-charges : goal.returns-clause-charges
returns-clause-charges c =
    stated_charges c.args.s.now c.in_ok-world.world.1 c.in_ok-world.world.0 c.run.new.self.0 c.in_ok-world.ensures.new c.in_ok-world.ensures.clocks
    c.in_ok-run.ensures.run

pub returns-clause-idle : goal.returns-clause-idle
returns-clause-idle c =
    stated_idle c.args.s.now c.in_ok-world.world.1 c.in_ok-world.world.0 c.run.new.self.0 c.in_ok-world.ensures.new c.in_ok-world.ensures.clocks
    c.in_ok-run.ensures.run
