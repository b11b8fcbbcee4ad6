-- Of a list of receptions one is that of a node, or none is.
use Rattle.std.proofs.Common.{◌≡◌, ◌≢◌, ℕ, ◌<◌, List, [], ◌∷◌, map, filter, get_or, Bool, true, false, ◌==◌, All, AllPairs, Contains, ◌⊎◌, inl, inr, refl}
use Rattle.std.proofs.Common.{sym, ◌∙◌, ap, arith, eqb-true}
use Rattle.std.proofs.lemmas.Bool.{cases_eq, eq-eqb, ne_eqb}
use Rattle.std.proofs.lemmas.List.Elements.{Contains-get_or}
use Rattle.radio_model.specs.declared.sending.Sending.{Sending}
use Rattle.radio_model.specs.OnAir.{Hearing}
use Rattle.lwb_base.proofs.Elements.{not_in_none, contains_head, contains_tail, contains_cases, map_from, pairs_head, pairs_tail}
use Rattle.air_log.proofs.NextDue.{none_passes}

-- what passes a filter
pub filter_yes : {X : Type 0} (p : X → Bool) (x : X) (xs : List X) → p x ≡ true → filter p (x ∷ xs) ≡ x ∷ filter p xs
filter_yes p x xs is = rw is refl

pub filter_no : {X : Type 0} (p : X → Bool) (x : X) (xs : List X) → p x ≡ false → filter p (x ∷ xs) ≡ filter p xs
filter_no p x xs is = rw is refl

-- pairs in two lists, one after the other
pub all_from : {X : Type 0} (P : X → Type 0) (xs : List X) → ((x : X) → Contains xs x → P x) → All P xs
all_from P xs each = λ k d less. each (get_or xs k d) (Contains-get_or xs k d less)

-- one reception of a list is that of v, or none is
module _ (id : ℕ → ℕ) (x : Sending) (v : ℕ) where
  abbrev pub hearing : ℕ → Hearing
  hearing q = record { node = id q; sending = x }

  abbrev pub of : Hearing → Bool
  of h = h.node == v

  pub none_of : (qs : List ℕ) → ((q : ℕ) → Contains qs q → id q ≡ v → ⊥) → filter of (map hearing qs) ≡ []
  none_of qs none =
      none_passes of (map hearing qs) (λ h there is.
      let q = map_from hearing qs h there in
      none q.0 q.1 (ap (λ (g : Hearing). g.node) q.2 ∙ eqb-true h.node v is))

  pub one_of : (qs : List ℕ) (q : ℕ) → AllPairs (λ a b. a < b) qs → ((y z : ℕ) → Contains qs y → Contains qs z → id y ≡ id z → y ≡ z) → Contains qs q
      → id q ≡ v → filter of (map hearing qs) ≡ hearing q ∷ []
  one_of [] q up apart there is = absurd (not_in_none q there)
  one_of (y ∷ ys) q up apart there is = by (contains_cases y ys q there)
      (one_of ys q (pairs_tail (λ a b. a < b) y ys up) (λ b c at_b at_c. apart b c (contains_tail y ys b at_b) (contains_tail y ys c at_c)))
    where
      below : (z : ℕ) → Contains ys z → id y ≡ id z → ⊥
      below z at same = omega (arith, pairs_head (λ a b. a < b) y ys up z at, apart y z (contains_head y ys) (contains_tail y ys z at) same)

      by : (y ≡ q) ⊎ Contains ys q → (Contains ys q → id q ≡ v → filter of (map hearing ys) ≡ hearing q ∷ [])
          → filter of (map hearing (y ∷ ys)) ≡ hearing q ∷ []
      by (inl same) rest =
          let mine : id y ≡ v = ap id same ∙ is in
          filter_yes of (hearing y) (map hearing ys) (eq-eqb (id y) v mine)
          ∙ ap (λ (hs : List Hearing). hearing y ∷ hs) (none_of ys (λ z at other. below z at (mine ∙ sym other)))
          ∙ ap (λ (z : ℕ). hearing z ∷ []) same
      by (inr later) rest =
          filter_no of (hearing y) (map hearing ys) (ne_eqb (id y) v (λ mine. below q later (mine ∙ sym is)))
          ∙ rest later is

  pub search_id : (qs : List ℕ) → ((q : ℕ) × Contains qs q × (id q ≡ v)) ⊎ ((q : ℕ) → Contains qs q → id q ≡ v → ⊥)
  search_id [] = inr (λ q there is. not_in_none q there)
  search_id (y ∷ ys) = by (cases_eq (id y) v) (search_id ys)
    where
      by : (id y ≡ v) ⊎ (id y ≢ v) → ((q : ℕ) × Contains ys q × (id q ≡ v)) ⊎ ((q : ℕ) → Contains ys q → id q ≡ v → ⊥)
          → ((q : ℕ) × Contains (y ∷ ys) q × (id q ≡ v)) ⊎ ((q : ℕ) → Contains (y ∷ ys) q → id q ≡ v → ⊥)
      by (inl is) rest = inl (y, contains_head y ys, is)
      by (inr other) (inl (q, there, is)) = inl (q, contains_tail y ys q there, is)
      by (inr other) (inr none) = inr (λ q there is. elim (contains_cases y ys q there) [ inl same ↦ other (ap id same ∙ is) | inr later ↦ none q later is ])
