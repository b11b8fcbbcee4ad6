use Rattle.air_log.specs.ClockLists.{clocks_by}
use Rattle.lwb_flood.proofs.timed_flood.flood.Goals as goal

pub outcome_of-requires : goal.outcome_of-requires
outcome_of-requires g c = (clocks_by g.C.DriftClock.readings c.args.f.now.nodes c.args.clocks.items, c.in_ok-air.ensures.clocks, c.in_ok-air.ensures.law)
