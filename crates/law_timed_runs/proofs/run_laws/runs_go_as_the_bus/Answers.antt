use Rattle.law_timed_runs.proofs.TunedAlike.{packets_alike, states_alike, tuned_alike}
use Rattle.law_timed_runs.proofs.run_laws.runs_go_as_the_bus.Goals as goal

pub returns : goal.returns
returns c = record {
  tunes = tuned_alike c.frames_begin_as_on_the_bus.ensures;
  states = states_alike c.frames_begin_as_on_the_bus.ensures;
  packets = packets_alike c.deliveries_and_drops_are_of_the_bus.ensures.deliveries;
}
