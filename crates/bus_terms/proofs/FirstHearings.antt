-- First receptions of a flood by steps.
use Rattle.std.proofs.Common.{◌≡◌, ℕ, zero, suc, ◌↔◌, Bool, false, ◌+◌, ◌<◌, true, not, ◌&&◌, ◌||◌, if◌then◌else◌, inl}
use Rattle.std.proofs.Common.{inr, Option, Some, None, refl, sym, ◌∙◌, ap, subst, arith, nat_lt, ◌==◌}
use Rattle.std.proofs.lemmas.Bool.{cases_lt, and_parts, eqb-true, ltb-true}
use Rattle.lwb_base.proofs.Options.{not_both}
use Rattle.bus_terms.specs.Flooding.{Setting, moment, has, candidates, named, pick, agrees, may_hear}
use Rattle.bus_terms.specs.Flooding.{takes, hears, first_heard, Hears, Accepts, accepted, STEPS}
use Rattle.bus_terms.proofs.Options.{inspect, only_from, from_filter, heard_parts, sends_parts, named_parts}

-- what is kept by step n is the first reception
pub record FirstHearing (s : Setting) (n v : ℕ) (h : ℕ × ℕ) : Type 0 where
  pub hears : Hears s v h.1 h.0
  pub before : h.1 < n
  pub none : (i : ℕ) → i < h.1 → (p : ℕ) → Hears s v i p → ⊥

pair_same : (a b : ℕ × ℕ) → Some a ≡ Some b → a ≡ b
pair_same a b is = cc

module _ (s : Setting) where
  kept_as : (k v : ℕ) → (moment s (suc k)).heard v ≡ first_heard ((moment s k).heard v) k (hears s (moment s k) k v)
  unfolding moment
  kept_as k v = refl

  sends_as : (k v : ℕ) → (moment s (suc k)).sends v ≡ (if nat_lt (k + 1) STEPS then hears s (moment s k) k v else None)
  unfolding moment
  sends_as k v = refl

  nothing_kept : (v : ℕ) → (moment s 0).heard v ≡ None
  unfolding moment
  nothing_kept v = refl

  pub none_yet : (n v : ℕ) → (moment s n).heard v ≡ None → (i : ℕ) → i < n → (p : ℕ) → Hears s v i p → ⊥
  none_yet zero v is i less p heard = omega arith
  none_yet (suc n) v is i less p heard =
      by_cases ((moment s n).heard v) (hears s (moment s n) n v) (λ at_old before. none_yet n v at_old i before p heard) refl refl (sym (kept_as n v) ∙ is)
    where
      by_cases : (old : Option (ℕ × ℕ)) (now : Option ℕ) → ((moment s n).heard v ≡ None → i < n → ⊥) → (moment s n).heard v ≡ old
          → hears s (moment s n) n v ≡ now → first_heard old n now ≡ None → ⊥
      by_cases (Some h) now below at_old at_now is = absurd (cc)
      by_cases None (Some o) below at_old at_now is = absurd (cc)
      by_cases None None below at_old at_now is =
          elim (cases_lt i n) [
            | inl before ↦ below at_old before
            | inr more ↦ (let same : i ≡ n = omega arith in
                not_both (hears s (moment s n) n v) p at_now (subst (λ (j : ℕ). hears s (moment s j) j v ≡ Some p) same heard))
          ]

  pub first_hearing : (n v : ℕ) (h : ℕ × ℕ) → (moment s n).heard v ≡ Some h → FirstHearing s n v h
  first_hearing zero v h is = absurd (nothing (sym (nothing_kept v) ∙ is))
    where
      nothing : None ≡ Some h → ⊥
      nothing is = cc
  first_hearing (suc n) v h is = by_cases ((moment s n).heard v) (hears s (moment s n) n v) (λ at. first_hearing n v h at) refl refl (sym (kept_as n v) ∙ is)
    where
      more : (g : ℕ × ℕ) → FirstHearing s n v g → FirstHearing s (suc n) v g
      more g first = (let less = first.before in record { hears = first.hears; before = omega arith; none = first.none })

      by_cases : (old : Option (ℕ × ℕ)) (now : Option ℕ) → ((moment s n).heard v ≡ Some h → FirstHearing s n v h) → (moment s n).heard v ≡ old
          → hears s (moment s n) n v ≡ now → first_heard old n now ≡ Some h → FirstHearing s (suc n) v h
      by_cases (Some g) now below at_old at_now is = more h (below (at_old ∙ is))
      by_cases None None below at_old at_now is = absurd (cc)
      by_cases None (Some o) below at_old at_now is =
          subst (λ (g : ℕ × ℕ). FirstHearing s (suc n) v g) (pair_same (o, n) h is)
          (record { hears = at_now; before = omega arith; none = λ i less p heard. none_yet n v at_old i less p heard })

  agrees_with : (k v o : ℕ) (h : ℕ × ℕ) → Hears s v k o → (moment s k).heard v ≡ Some h → h.0 ≡ o
  agrees_with k v o h is at =
      let m = moment s k in
      let p = heard_parts (may_hear s m v) (λ i. (not (has s.initiators v) || (v == i)) && agrees (m.heard v) i) (pick s m k v) o is in
      let want = and_parts (not (has s.initiators v) || (v == o)) (agrees (m.heard v) o) p.2 in
      eqb-true h.0 o (subst (λ (g : Option (ℕ × ℕ)). agrees g o ≡ true) at want.1)

  pub kept_hearing : (n v o k : ℕ) → k < n → Accepts s v o k → (moment s n).heard v ≡ Some (o, k)
  kept_hearing zero v o k less a = absurd (omega arith)
  kept_hearing (suc n) v o k less a =
      elim (cases_lt k n) [
        | inl before ↦ kept_as n v ∙ ap (λ (g : Option (ℕ × ℕ)). first_heard g n (hears s (moment s n) n v)) (kept_hearing n v o k before a)
        | inr more ↦ (let same : n ≡ k = omega arith in kept_as n v ∙ at_first n same)
      ]
    where
      none_before : (moment s k).heard v ≡ None
      none_before = elim (inspect ((moment s k).heard v)) [
        | inl none ↦ none
        | inr some ↦ (let first = first_hearing k v some.0 some.1 in
            absurd (a.first some.0.1 first.before (first.hears ∙ ap (λ (p : ℕ). Some p) (agrees_with k v o some.0 a.hears some.1))))
      ]

      at_first : (n : ℕ) → n ≡ k → first_heard ((moment s n).heard v) n (hears s (moment s n) n v) ≡ Some (o, k)
      at_first n same =
          subst (λ (i : ℕ). first_heard ((moment s i).heard v) i (hears s (moment s i) i v) ≡ Some (o, k)) (sym same)
          (ap (λ (g : Option (ℕ × ℕ)). first_heard g k (hears s (moment s k) k v)) none_before ∙ ap (λ (w : Option ℕ). first_heard None k w) a.hears)

  -- nothing is received after step 11
  pub heard_in_time : (k v o : ℕ) → Hears s v k o → k < 12
  heard_in_time zero v o is = omega arith
  heard_in_time (suc k) v o is =
      let m = moment s (suc k) in
      let p = heard_parts (may_hear s m v) (λ i. (not (has s.initiators v) || (v == i)) && agrees (m.heard v) i) (pick s m (suc k) v) o is in
      elim (only_from (candidates s m (suc k) v) (named s m (suc k) v) o p.1) [
        | inl all ↦ (let u = from_filter offer s.everyone o all.0 in sent u.0 u.2)
        | inr other ↦ (let u = named_parts offer (s.captured (suc k) v) o other in sent u.0 u.2)
      ]
    where
      offer : ℕ → Option ℕ
      offer u = if s.passes (suc k) u v then (moment s (suc k)).sends u else None

      sent : (u : ℕ) → offer u ≡ Some o → suc k < 12
      sent u is =
          let parts = sends_parts (s.passes (suc k) u v) ((moment s (suc k)).sends u) o is in
          let early = sends_parts (nat_lt (k + 1) STEPS) (hears s (moment s k) k u) o (sym (sends_as k u) ∙ parts.1) in
          let less : k + 1 < 12 = ltb-true (k + 1) 12 early.0 in
          omega arith

  -- the accepted is the first that was received
  pub accepted_first : (v o k : ℕ) → ◌≡◌ {A = Option (ℕ × ℕ)} (accepted s v) (Some (o, k)) ↔ Accepts s v o k
  accepted_first v o k = (to (has s.initiators v) refl, from)
    where
      keeps : (b : Bool) → has s.initiators v ≡ b → ◌≡◌ {A = Option (ℕ × ℕ)} (if b then None else (moment s STEPS).heard v) (Some (o, k))
          → (has s.initiators v ≡ false) × (◌≡◌ {A = Option (ℕ × ℕ)} ((moment s STEPS).heard v) (Some (o, k)))
      keeps true at is = absurd (nothing is)
        where
          nothing : ◌≡◌ {A = Option (ℕ × ℕ)} None (Some (o, k)) → ⊥
          nothing is = cc
      keeps false at is = (at, is)

      takes_part : (i p : ℕ) → Hears s v i p → has s.everyone v ≡ true
      takes_part i p is =
          let m = moment s i in
          let parts = heard_parts (may_hear s m v) (takes s m v) (pick s m i v) p is in
          (and_parts _ _ (and_parts _ _ parts.0).0).0

      to : (b : Bool) → has s.initiators v ≡ b → ◌≡◌ {A = Option (ℕ × ℕ)} (accepted s v) (Some (o, k)) → Accepts s v o k
      to b at is =
          let both = keeps (has s.initiators v) refl is in
          let first = first_hearing STEPS v (o, k) both.1 in
          record { here = takes_part k o first.hears; listens = both.0; hears = first.hears; first = λ i less. first.none i less o }

      from : Accepts s v o k → ◌≡◌ {A = Option (ℕ × ℕ)} (accepted s v) (Some (o, k))
      from a = rw a.listens (kept_hearing STEPS v o k (heard_in_time k v o a.hears) a)
