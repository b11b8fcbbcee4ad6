use Rattle.std.proofs.Common.{◌≡◌, ℕ, ◌++◌, filter_map}
use Rattle.std.specs.Int.{bit_at}
use Rattle.radio_model.specs.Meetings.{key_of, rivals_to, hearers_to}
use Rattle.radio_model.proofs.HeardInTurn.{heard_at}
use Rattle.radio_model.proofs.listeners.listeners.Given as goal

abbrev pub invariant-loop-crowd : goal.invariant-loop-crowd
invariant-loop-crowd g l = record {
  pairs : l.hearers ++ filter_map (heard_at (g.M.Links.lines l.links) l.from.node l.ending.x.now (key_of l.ending.profile.now l.ending.x.now)
      (rivals_to l.ending.profile.now l.ending.x.now l.ending.stations.now) l.rest) l.ending.stations.now
      ≡ hearers_to l.ending.profile.now (g.M.Links.lines l.links) l.from.node l.ending.x.now l.ending.stations.now;
  left : (k : ℕ) → bit_at l.rest k ≡ 1 → bit_at l.initial.rest k ≡ 1;
}

abbrev pub decreases-loop-crowd : goal.decreases-loop-crowd
decreases-loop-crowd g l = l.rest
