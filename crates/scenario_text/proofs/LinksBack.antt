-- A link and the link back are two lines.
use Rattle.std.proofs.Common.{◌≡◌, ℕ, List, [], ◌∷◌, Bool, false, ◌||◌, ◌==◌, ◌∙◌, ap, inl, inr}
use Rattle.std.proofs.lemmas.Bool.{cases_Bool, cond-true, cond-false, false_from_ne_true, and_parts, eqb-true}
use Rattle.std.specs.List.{list_any}
use Rattle.std.specs.Ordering.{is_lt}
use Rattle.std.specs.declared.cmp.Ordering.{Ordering}
use Rattle.link_trace.specs.Order.{with_line, by_link}
use Rattle.link_trace.specs.Passes.{Lines, is_link}
use Rattle.scenario_text.specs.Network.{has_link, with_link_to}

-- a line that does not pass changes nothing
any_with : {L : Type 0} (p : L → Bool) (order : L → L → Ordering) (l : L) (ls : List L) → p l ≡ false → list_any p (with_line order l ls) ≡ list_any p ls
any_with p order l [] not = ap (λ (b : Bool). b || false) not
any_with p order l (x ∷ xs) not =
    elim (cases_Bool (is_lt (order x l))) [
      | inl is ↦ ap (list_any p) (cond-true (is_lt (order x l)) (x ∷ with_line order l xs) (l ∷ x ∷ xs) is)
          ∙ ap (λ (b : Bool). p x || b) (any_with p order l xs not)
      | inr other ↦ ap (list_any p) (cond-false (is_lt (order x l)) (x ∷ with_line order l xs) (l ∷ x ∷ xs) other)
          ∙ ap (λ (b : Bool). b || (p x || list_any p xs)) not
    ]

pub link_back : (u v : ℕ) (t : Lines) → (u ≡ v → ⊥) → has_link (with_link_to u v t) v u ≡ has_link t v u
link_back u v t differ =
    any_with (is_link v u) by_link (record { from = u; to = v }) t.links (false_from_ne_true _ (λ is. differ (eqb-true u v (and_parts (u == v) (v == u) is).0)))
