use Rattle.scenario_clocks.proofs.StatedDrift.{scenario_states}
use Rattle.lwb_world.proofs.stated.clocks_of.Goals as goal

pub stated_clocks-requires : goal.stated_clocks-requires
stated_clocks-requires c = rw (c.nodes.ensures.value, c.rates.ensures) (scenario_states c.args.s.now c.nodes.ensures.said)
