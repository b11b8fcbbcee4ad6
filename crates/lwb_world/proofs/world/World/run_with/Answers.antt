use Rattle.std.proofs.Common.{OnOk, List, subst}
use Rattle.air_log.specs.ClockLists.{clocks_by}
use Rattle.world_engine.specs.Worlds.{WorldState}
use Rattle.lwb_world.specs.Worlds.{HasRun}
use Rattle.lwb_world.proofs.RunsOfTheBus.{ok_run}
use Rattle.lwb_world.proofs.world.World.run_with.Goals as goal

pub returns-clause-run : goal.returns-clause-run
returns-clause-run g c =
    subst (λ (w : WorldState × List g.row.C.Denot). OnOk c.run_with.result
    (HasRun (clocks_by g.C.DriftClock.readings w.0.scenario.nodes w.1) w.0 c.run_with.new.self.0))
    c.self.view_is (ok_run c.run_with.result _ _ _ c.run_with.ensures.run)
