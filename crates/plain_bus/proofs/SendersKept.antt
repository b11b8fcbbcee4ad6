-- The masks of those who send, step by step.
use Rattle.std.proofs.Common.{◌≡◌, ◌++◌, ◌∷◌, [], ℕ, List, inl, inr, is_some, length, get_or, sym, ◌∙◌, ap, subst, arith, length-append}
use Rattle.std.proofs.lemmas.Bool.{cases_lt}
use Rattle.std.proofs.lemmas.List.{get_or_append_left, get_or_push}
use Rattle.link_trace.specs.Masks.{IsMask}
use Rattle.bus_terms.specs.Flooding.{Setting, moment}
use Rattle.plain_bus.specs.FloodMasks.{AreSenders}

pub senders_more : (s : Setting) (nodes masks more : List ℕ) (mask n : ℕ) → AreSenders s nodes masks → length masks ≡ n
    → IsMask (λ v. is_some ((moment s n).sends v)) nodes mask → more ≡ masks ++ mask ∷ []
    → AreSenders s nodes more
senders_more s nodes masks more mask n are size now is k below =
    elim (cases_lt k (length masks)) [
      | inl before ↦ subst (λ (m : ℕ). IsMask (λ v. is_some ((moment s k).sends v)) nodes m)
          (sym (ap (λ (l : List ℕ). get_or l k 0) is ∙ get_or_append_left masks (mask ∷ []) 0 k before)) (are k before)
      | inr last ↦ (let same : k ≡ n = omega (arith, below, last, size, ap length is, length-append masks (mask ∷ [])) in
          subst (λ (m : ℕ). IsMask (λ v. is_some ((moment s k).sends v)) nodes m)
          (sym (ap (λ (l : List ℕ). get_or l k 0) is ∙ get_or_push masks mask 0 k (size ∙ sym same)))
          (subst (λ (i : ℕ). IsMask (λ v. is_some ((moment s i).sends v)) nodes mask) (sym same) now))
    ]
