-- What each of several transmissions reaches.
use Rattle.std.proofs.Common.{◌≡◌, ℕ, ◌+◌, ◌<◌, ◌≤◌, List, All, [], ◌∷◌, ◌++◌, ◌-◌, take, drop, length, get_or, sym, ◌∙◌, ap, subst, arith, inl, inr}
use Rattle.std.proofs.Common.{length-drop, length-take-le}
use Rattle.std.specs.Prelude.{IsPermutation}
use Rattle.std.proofs.lemmas.Bool.{cases_lt}
use Rattle.std.proofs.lemmas.List.{get_or_default, get_or_append_left, get_or_push, get_or-take, get_or-drop}
use Rattle.std.proofs.lemmas.List.Elements.{All-contains, Contains-get_or}
use Rattle.std.proofs.lemmas.List.Sorted.{Contains-permutation, IsPermutation-sym}
use Rattle.lwb_base.specs.Profile.{Numbers}
use Rattle.link_trace.specs.Passes.{Lines}
use Rattle.radio_model.specs.OnAir.{Sending}
use Rattle.radio_model.specs.Reaches.{AreReaches, HoldSame, IsReach}
use Rattle.radio_model.specs.Receptions.{AreNear}
use Rattle.radio_model.specs.declared.receivers.Reach.{Reach}

-- what holds of all holds of them in another order
pub all_permuted : (P : Sending → Type 0) (xs ys : List Sending) → IsPermutation xs ys → All P xs → All P ys
all_permuted P xs ys same all k d below =
    All-contains P xs (get_or ys k d) all (Contains-permutation ys xs (get_or ys k d) (IsPermutation-sym xs ys same) (Contains-get_or ys k d below))

-- what is near among some is so among the same ones
pub near_in_same : (xs ys near : List Sending) (x : Sending) → HoldSame xs ys → AreNear ys x near → AreNear xs x near
near_in_same xs ys near x same are = record {
  among = λ y there. same.back y (are.among y there);
  all = λ y there meets. are.all y (same.into y there) meets;
}

-- what stands for each of the first n
module _ {B : Type 0} (R : Sending → B → Type 0) (sent : List Sending) where
  abbrev pub EachOf : ℕ → List B → Type 0
  EachOf n bs = (k : ℕ) (d : Sending) (e : B) → k < n → R (get_or sent k d) (get_or bs k e)

  pub one_more : (i : ℕ) (x : Sending) (old new : List B) (b : B) → i < length sent → x ≡ get_or sent i x → length old ≡ i → new ≡ old ++ b ∷ []
      → EachOf i old → R x b → EachOf (i + 1) new
  one_more i x old new b below at size pushed each here k d e less = elim (cases_lt k i) [
    | inl before ↦
        subst (λ (c : B). R (get_or sent k d) c)
        (sym (ap (λ (l : List B). get_or l k e) pushed ∙ get_or_append_left old (b ∷ []) e k (omega (arith, before, size)))) (each k d e before)
    | inr after ↦
        let last : k ≡ i = omega (arith, less, after) in
        subst (λ (y : Sending). R y (get_or new k e)) (at ∙ get_or_default sent i x d below ∙ ap (λ (n : ℕ). get_or sent n d) (sym last))
        (subst (λ (c : B). R x c) (sym (ap (λ (l : List B). get_or l k e) pushed ∙ get_or_push old b e k (size ∙ sym last))) here)
  ]

-- of a stretch of them
pub reaches_of_some : (p : Numbers) (lines : Lines) (nodes : List ℕ) (sent : List Sending) (reaches : List Reach) (first count : ℕ) → first ≤ length sent
    → count ≤ length sent - first → AreReaches p lines nodes sent reaches
    → AreReaches p lines nodes (take count (drop first sent)) (take count (drop first reaches))
reaches_of_some p lines nodes sent reaches first count within few are =
    let left = length-drop first sent in
    let also = length-drop first reaches in
    let same = are.one_each in
    let size = length-take-le count (drop first sent) (omega (arith, left, few)) in
    let also_size = length-take-le count (drop first reaches) (omega (arith, also, same, few)) in
    record {
      one_each = omega (arith, size, also_size);
      each = λ k d e below. (
          let inside : k < count = omega (arith, below, size) in
          let at : get_or (take count (drop first sent)) k d ≡ get_or sent (first + k) d =
          get_or-take count (drop first sent) k d inside ∙ get_or-drop first sent k d in
          let reach : get_or (take count (drop first reaches)) k e ≡ get_or reaches (first + k) e =
          get_or-take count (drop first reaches) k e inside ∙ get_or-drop first reaches k e in
          subst (λ (y : Sending). IsReach p lines nodes y (get_or (take count (drop first reaches)) k e)) (sym at)
          (subst (λ (r : Reach). IsReach p lines nodes (get_or sent (first + k) d) r) (sym reach)
          (are.each (first + k) d e (omega (arith, inside, within, few)))));
    }
