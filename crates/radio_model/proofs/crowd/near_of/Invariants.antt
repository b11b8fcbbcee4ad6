use Rattle.std.proofs.Common.{◌≡◌, ℕ}
use Rattle.std.specs.Int.{bit_at}
use Rattle.radio_model.specs.Meetings.{IsNear}
use Rattle.radio_model.proofs.crowd.near_of.Given as goal

abbrev pub invariant-loop-key : goal.invariant-loop-key
invariant-loop-key g l = record {
  near : IsNear (g.M.Links.lines l.links) l.key (g.M.Links.nodes l.links) (λ i. (bit_at l.fn.ready i ≡ 1) × (bit_at l.rest i ≡ 0)) l.near;
  left : (k : ℕ) → bit_at l.rest k ≡ 1 → bit_at l.fn.ready k ≡ 1;
}

abbrev pub decreases-loop-key : goal.decreases-loop-key
decreases-loop-key g l = l.rest
