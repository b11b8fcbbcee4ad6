-- The nodes of a flood at their places, and a change of one of them.
use Rattle.std.proofs.Common.{◌≡◌, ◌<◌, ℕ, List, [], ◌∷◌, length, set, map, get_or, sym, ◌∙◌, ap, arith, Contains, ◌==◌, eq-eqb, inl, inr, AllPairs}
use Rattle.std.proofs.lemmas.List.{get_or-map, length-map, same_lists, length-set, get_or-set_same, get_or-set_other}
use Rattle.std.proofs.lemmas.Bool.{cond-true, cond-false, cases_eq, cases_order, ne_eqb}
use Rattle.lwb_flood.specs.declared.member.Member.{Member}
use Rattle.lwb_flood.specs.FloodWorlds.{node_of_member, member_changed_at, with_change}

abbrev pub Ascend : List Member → Type 0
Ascend ms = AllPairs (λ a b. a < b) (map node_of_member ms)

-- no node is at two places
apart : (ms : List Member) → Ascend ms → (i j : ℕ) (d : Member) → i < length ms → j < length ms → (get_or ms i d).node ≡ (get_or ms j d).node → i ≡ j
apart ms ascend i j d left right same =
    let at_i = get_or-map node_of_member ms i d 0 left in
    let at_j = get_or-map node_of_member ms j d 0 right in
    let long = length-map ms node_of_member in
    elim (cases_order i j) [
      | inl is ↦ is
      | inr less ↦ elim less [
        | inl before ↦ let up = ascend i j 0 before (omega arith) in absurd (omega arith)
        | inr behind ↦ let up = ascend j i 0 behind (omega arith) in absurd (omega arith)
      ]
    ]

-- a change of the node at a place
pub set_is_change : (f : Member → Member) (ms : List Member) → Ascend ms → (v i : ℕ) (old new : Member) → i < length ms → old ≡ get_or ms i old
    → ((d : Member) → (get_or ms i d).node ≡ v) → new ≡ f old → set ms i new ≡ with_change v f ms
set_is_change f ms ascend v i old new below at is change =
    same_lists (set ms i new) (with_change v f ms) (length-set ms i new ∙ sym (length-map ms (member_changed_at v f)))
    (λ k d within. each k d (omega (arith, length-set ms i new)))
  where
    of_old : old.node ≡ v
    of_old = ap node_of_member at ∙ is old

    each : (k : ℕ) (d : Member) → k < length ms → get_or (set ms i new) k d ≡ get_or (with_change v f ms) k d
    each k d within =
        elim (cases_eq k i) [
          | inl here ↦
              ap (λ (n : ℕ). get_or (set ms i new) n d) here ∙ get_or-set_same ms i new d below ∙ change
              ∙ sym (cond-true (old.node == v) (f old) old (eq-eqb old.node v of_old))
              ∙ ap (member_changed_at v f) at
              ∙ sym (get_or-map (member_changed_at v f) ms i old d below) ∙ ap (λ (n : ℕ). get_or (with_change v f ms) n d) (sym here)
          | inr there ↦
              get_or-set_other ms i k new d there
              ∙ sym (cond-false ((get_or ms k d).node == v) (f (get_or ms k d)) (get_or ms k d)
              (ne_eqb (get_or ms k d).node v (λ e. there (apart ms ascend k i d within below (e ∙ sym (is d))))))
              ∙ sym (get_or-map (member_changed_at v f) ms k d d within)
        ]

-- some place is the node's
pub somewhere : (ms : List Member) (v : ℕ) → Contains (map node_of_member ms) v → ((k : ℕ) (d : Member) → k < length ms → (get_or ms k d).node ≡ v → ⊥) → ⊥
somewhere [] v (k, below, at) none = absurd (omega arith)
somewhere (m ∷ ms) v (k, below, at) none =
    let within : k < length (m ∷ ms) = omega (arith, length-map (m ∷ ms) node_of_member) in
    none k m within (sym (get_or-map node_of_member (m ∷ ms) k m v within) ∙ at)
