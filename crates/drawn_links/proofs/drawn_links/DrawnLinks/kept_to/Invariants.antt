use Rattle.std.proofs.Common.{◌≡◌, ◌+◌, ◌*◌, ℕ, slice_index}
use Rattle.std.specs.Int.{bit_at}
use Rattle.drawn_links.specs.DrawnLosses.{is_drawn}
use Rattle.drawn_links.proofs.KeptBits.{IsWithoutSoFar}
use Rattle.drawn_links.proofs.drawn_links.DrawnLinks.kept_to.Given as goal

abbrev pub invariant-loop-rest : goal.invariant-loop-rest
invariant-loop-rest l = record {
  so_far : (j k : ℕ) → l.key ≡ (l.frame * 64 + j) * 16 + k
      → IsWithoutSoFar (λ i. is_drawn l.self.ratios l.self.seed l.frame j k (slice_index l.self.trace.nodes l.from) (slice_index l.self.trace.nodes i))
      l.fn.receivers l.rest l.kept;
  left : (i : ℕ) → bit_at l.rest i ≡ 1 → bit_at l.fn.receivers i ≡ 1;
  still : (i : ℕ) → bit_at l.rest i ≡ 1 → bit_at l.kept i ≡ 1;
}

abbrev pub decreases-loop-rest : goal.decreases-loop-rest
decreases-loop-rest l = l.rest
