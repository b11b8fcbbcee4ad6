use Rattle.std.proofs.Common.{◌≡◌, ◌<◌, ℕ, length, get_or}
use Rattle.radio_model.proofs.medium.places_of.Given as goal

abbrev pub invariant-loop-i : goal.invariant-loop-i
invariant-loop-i l = record {
  all : length l.places.items ≡ 201;
  each : (k : ℕ) → k < l.i → get_or l.places.items (get_or l.nodes k 0) 0 ≡ k;
}
