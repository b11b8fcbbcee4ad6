use Rattle.law_trails.proofs.StreamsInRange.{cleared_are, act_are, taken_are, contention_are, unbound_are, heard_are}
use Rattle.law_trails.proofs.trails_in_range.streams_stay_in_range.Goals as goal

pub returns : goal.returns
returns c = record {
  boot = cleared_are;
  act = act_are;
  take = taken_are;
  contend = contention_are;
  host = unbound_are;
  hear = heard_are;
}
