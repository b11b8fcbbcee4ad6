-- The places of those who receive.
use Rattle.std.proofs.Common.{◌≡◌, ℕ, zero, suc, ◌<◌, List, [], ◌∷◌, ◌++◌, map, take, length, get_or, Some, refl, sym, ◌∙◌, ap, subst, arith, Contains, inl}
use Rattle.std.proofs.Common.{inr}
use Rattle.std.specs.Prelude.{AllPairs, slice_get}
use Rattle.std.proofs.lemmas.Bool.{cases_eq, cases_lt}
use Rattle.std.proofs.lemmas.List.{map-append, length-map, get_or-map, get_or-take, length-take-le}
use Rattle.std.proofs.lemmas.List.Elements.{All-nil, All-push, All-contains}
use Rattle.std.proofs.lemmas.Option.{slice_get_within, get_or_from_slice_get}
use Rattle.lwb_base.proofs.Elements.{map_contains, map_from}
use Rattle.world_engine.specs.FieldHearings.{StandAtPlaces}

abbrev pub id_at : List ℕ → ℕ → ℕ
id_at ids q = get_or ids q 0

pub no_places : (ids : List ℕ) → StandAtPlaces ids [] []
no_places ids = record { within = All-nil (λ (q : ℕ). q < length ids); stand = refl }

-- the next node is at its place
pub places_more : (ids nodes places : List ℕ) (p v : ℕ) → StandAtPlaces ids nodes places → slice_get ids p ≡ Some v
    → StandAtPlaces ids (nodes ++ v ∷ []) (places ++ p ∷ [])
places_more ids nodes places p v are there = record {
  within = All-push (λ (q : ℕ). q < length ids) places p are.within (slice_get_within ids p v there);
  stand = map-append (id_at ids) places (p ∷ []) ∙ ap (λ (l : List ℕ). l ++ id_at ids p ∷ []) are.stand
      ∙ ap (λ (n : ℕ). nodes ++ n ∷ []) (get_or_from_slice_get ids p v 0 there);
}

module _ (ids nodes places : List ℕ) (are : StandAtPlaces ids nodes places) where
  -- from a place to its node, and back
  pub node_there : (q : ℕ) → Contains places q → Contains nodes (id_at ids q)
  node_there q there = subst (λ (l : List ℕ). Contains l (id_at ids q)) are.stand (map_contains (id_at ids) places q there)

  pub place_there : (v : ℕ) → Contains nodes v → (q : ℕ) × Contains places q × (q < length ids) × (id_at ids q ≡ v)
  place_there v there =
      let w = map_from (id_at ids) places v (subst (λ (l : List ℕ). Contains l v) (sym are.stand) there) in
      (w.0, w.1, All-contains (λ (q : ℕ). q < length ids) places w.0 are.within w.1, w.2)

  -- by ascending ids they ascend
  pub places_ascend : AllPairs (λ a b. a < b) ids → AllPairs (λ a b. a < b) nodes → AllPairs (λ a b. a < b) places
  places_ascend ascend up i j d less below =
      let long : length places ≡ length nodes = sym (length-map places (id_at ids)) ∙ ap length are.stand in
      let at : (k : ℕ) → k < length places → get_or nodes k 0 ≡ id_at ids (get_or places k d) = λ k within. ap (λ (l : List ℕ). get_or l k 0)
      (sym are.stand) ∙ get_or-map (id_at ids) places k d 0 within in
      let ids_less : id_at ids (get_or places i d) < id_at ids (get_or places j d) = let p = at i (omega arith) in let q = at j below in
      let l = up i j 0 less (omega (arith, long)) in omega (arith, p, q, l) in
      let last = are.within i d (omega arith) in
      by_order (get_or places i d) (get_or places j d) ids_less last
    where
      by_order : (a b : ℕ) → id_at ids a < id_at ids b → a < length ids → a < b
      by_order a b less within =
          elim (cases_lt a b) [
            | inl is ↦ is
            | inr not ↦ elim (cases_eq a b) [
              | inl same ↦ let is = ap (id_at ids) same in absurd (omega (arith, less, is))
              | inr apart ↦ let more = ascend b a 0 (omega (arith, not, apart)) within in absurd (omega (arith, more, less))
            ]
          ]

-- ids that ascend are at one place each
pub one_id : (ids : List ℕ) → AllPairs (λ a b. a < b) ids → (p q : ℕ) → p < length ids → q < length ids → id_at ids p ≡ id_at ids q → p ≡ q
one_id ids ascend p q in_p in_q same =
    elim (cases_lt p q) [
      | inl less ↦ let up = ascend p q 0 less in_q in absurd (omega (arith, up, same))
      | inr not ↦ elim (cases_eq p q) [
        | inl is ↦ is
        | inr apart ↦ let up = ascend q p 0 (omega (arith, not, apart)) in_p in absurd (omega (arith, up, same))
      ]
    ]

same_there : (qs : List (ℕ × ℕ)) (k : ℕ) (a b : ℕ × ℕ) → k < length qs → get_or qs k a ≡ get_or qs k b
same_there [] k a b less = absurd (omega arith)
same_there (q ∷ qs) zero a b less = refl
same_there (q ∷ qs) (suc k) a b less = same_there qs k a b (omega arith)

-- who comes next was not there before
pub new_node : (ps : List (ℕ × ℕ)) (i : ℕ) (d : ℕ × ℕ) → AllPairs (λ p q. p.0 < q.0) ps → i < length ps
    → Contains (map (λ (p : ℕ × ℕ). p.0) (take i ps)) (get_or ps i d).0 → ⊥
new_node ps i d ascend below there =
    let w = map_from (λ (p : ℕ × ℕ). p.0) (take i ps) (get_or ps i d).0 there in
    at_place w.0 w.1 w.2
  where
    at_place : (r : ℕ × ℕ) → Contains (take i ps) r → r.0 ≡ (get_or ps i d).0 → ⊥
    at_place r (k, within, at) same =
        let long = length-take-le i ps (omega arith) in
        let less : k < i = omega (arith, long) in
        let here : get_or ps k r ≡ r = sym (get_or-take i ps k r less) ∙ at in
        let up = ascend k i r less below in
        let first = ap (λ (p : ℕ × ℕ). p.0) here in
        let last = ap (λ (p : ℕ × ℕ). p.0) (same_there ps i r d below) in
        absurd (omega (arith, up, first, last, same))
