-- The steps in which a node sent, counted off the masks of the senders.
use Rattle.std.proofs.Common.{◌≡◌, ◌<◌, ◌==◌, ◌+◌, ◌∷◌, ◌++◌, [], ℕ, zero, suc, List, Bool, true, false, Option, Some, length, filter, get_or, refl}
use Rattle.std.proofs.Common.{◌∙◌, ap, arith, if◌then◌else◌, append-nil}
use Rattle.std.specs.Int.{bit_at}
use Rattle.std.specs.List.{range_with_len, last_or}
use Rattle.std.proofs.lemmas.List.Elements.{filter-append}
use Rattle.lwb_base.proofs.Lists.{range_next}
use Rattle.plain_bus.specs.FloodMasks.{AreSendersOf}
use Rattle.plain_bus.specs.SlotCosts.{steps_at, steps_in}
use Rattle.plain_bus.proofs.HeardByMasks.{bit_tells}

pub last_pushed : (o : Option ℕ) (xs : List ℕ) (x : ℕ) → last_or o (xs ++ x ∷ []) ≡ Some x
last_pushed o [] x = refl
last_pushed o (y ∷ xs) x = last_pushed (Some y) xs x

module _ (masks : List ℕ) (place n : ℕ) where
  pushed : (b : Bool) → (bit_at (get_or masks n 0) place == 1) ≡ b → steps_at masks place (n + 1) ≡ steps_at masks place n ++ filter
      (λ k. bit_at (get_or masks k 0) place == 1) (n ∷ [])
  pushed b is = ap (filter (λ k. bit_at (get_or masks k 0) place == 1)) (range_next n) ∙ filter-append (λ k. bit_at (get_or masks k 0) place == 1)
      (range_with_len 0 n) (n ∷ [])

  pub one_step_more : (bit_at (get_or masks n 0) place == 1) ≡ true → steps_at masks place (n + 1) ≡ steps_at masks place n ++ n ∷ []
  one_step_more is = pushed true is ∙ ap (λ (b : Bool). steps_at masks place n ++ (if b then n ∷ [] else [])) is

  pub no_step_more : (bit_at (get_or masks n 0) place == 1) ≡ false → steps_at masks place (n + 1) ≡ steps_at masks place n
  no_step_more is = pushed false is ∙ ap (λ (b : Bool). steps_at masks place n ++ (if b then n ∷ [] else [])) is ∙ append-nil (steps_at masks place n)

-- by the masks a node sends in the steps in which it does
same_steps : (p q : ℕ → Bool) (a n : ℕ) → ((k : ℕ) → k < a + n → p k ≡ q k) → filter p (range_with_len a n) ≡ filter q (range_with_len a n)
same_steps p q a zero same = refl
same_steps p q a (suc n) same =
    ap (λ (b : Bool). if b then a ∷ filter p (range_with_len (a + 1) n) else filter p (range_with_len (a + 1) n)) (same a (omega arith))
    ∙ ap (λ (l : List ℕ). if q a then a ∷ l else l) (same_steps p q (a + 1) n (λ k below. same k (omega (arith, below))))

pub steps_told : (sends : ℕ → ℕ → Bool) (nodes masks : List ℕ) (place : ℕ) → AreSendersOf sends nodes masks → length masks ≡ 12 → place < length nodes
    → steps_at masks place (length masks) ≡ steps_in (sends (get_or nodes place 0))
steps_told sends nodes masks place are size below =
    ap (steps_at masks place) size
    ∙ same_steps (λ k. bit_at (get_or masks k 0) place == 1) (sends (get_or nodes place 0)) 0 12
    (λ k few. bit_tells nodes (λ v. sends v k) (get_or masks k 0) place (are k (omega (arith, few, size))) below)
