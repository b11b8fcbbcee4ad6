-- What is listed frame by frame.
use Rattle.std.proofs.Common.{◌≡◌, ℕ, zero, suc, ◌+◌, ◌<◌, List, [], ◌∷◌, ◌++◌, sym, ◌∙◌, ap, refl, arith, add-one, append-nil}
use Rattle.std.specs.Prelude.{flat_map}
use Rattle.std.specs.List.{range_with_len}
use Rattle.std.proofs.lemmas.Grind.{flat_map-append}
use Rattle.lwb_base.proofs.Lists.{range_next}

-- one frame more
pub frames_more : {Y : Type 0} (F : ℕ → List Y) (n : ℕ) → flat_map F (range_with_len 0 (n + 1)) ≡ flat_map F (range_with_len 0 n) ++ F n
frames_more F n =
    ap (flat_map F) (range_next n) ∙ flat_map-append F (range_with_len 0 n) (n ∷ [])
    ∙ ap (λ (l : List _). flat_map F (range_with_len 0 n) ++ l) (append-nil (F n))

pub frames_alike : {Y : Type 0} (F G : ℕ → List Y) (n : ℕ) → ((g : ℕ) → g < n → F g ≡ G g) → flat_map F (range_with_len 0 n) ≡ flat_map G (range_with_len 0 n)
frames_alike F G zero same = refl
frames_alike F G (suc n) same =
    ap (λ (k : ℕ). flat_map F (range_with_len 0 k)) (sym (add-one n))
    ∙ frames_more F n
    ∙ ap (λ (l : List _). l ++ F n) (frames_alike F G n (λ g less. same g (omega (arith, less))))
    ∙ ap (λ (l : List _). flat_map G (range_with_len 0 n) ++ l) (same n (omega arith))
    ∙ sym (frames_more G n)
    ∙ ap (λ (k : ℕ). flat_map G (range_with_len 0 k)) (add-one n)
