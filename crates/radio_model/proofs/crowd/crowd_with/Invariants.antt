use Rattle.std.proofs.Common.{◌≡◌, ℕ}
use Rattle.std.specs.Int.{bit_at}
use Rattle.radio_model.specs.Endings.{rivals_of}
use Rattle.radio_model.specs.Meetings.{IsFrom, AddsTo, TellsAt}
use Rattle.radio_model.proofs.crowd.crowd_with.Given as goal

abbrev pub invariant-loop-ready : goal.invariant-loop-ready
invariant-loop-ready g l = record {
  from : IsFrom (g.M.Links.lines l.links) (g.M.Links.nodes l.links) (rivals_of l.ending) l.crowd;
  adds : AddsTo l.fn.known l.crowd;
  tells : TellsAt (g.M.Links.lines l.links) (g.M.Links.nodes l.links) l.ending.profile.now l.ending.x.now l.ending.stations.now
      l.ready (λ k. (bit_at l.fn.places k ≡ 1) × (bit_at l.rest k ≡ 0)) l.crowd;
  left : (k : ℕ) → bit_at l.rest k ≡ 1 → bit_at l.fn.places k ≡ 1;
}

abbrev pub decreases-loop-ready : goal.decreases-loop-ready
decreases-loop-ready g l = l.rest
