-- A node sends for one origin alone in a flood: for itself where it initiates, else for the one that it received first.
use Rattle.std.proofs.Common.{◌≡◌, ◌≤◌, ◌<◌, ◌+◌, ◌==◌, ◌||◌, ℕ, zero, suc, Bool, true, false, not, nat_lt, inl, inr, Option, Some, None, if◌then◌else◌}
use Rattle.std.proofs.Common.{refl, sym, ◌∙◌, ap, subst, arith}
use Rattle.std.proofs.lemmas.Bool.{and_parts, eqb-true, false≢true, cases_lt, ltb-true}
use Rattle.std.proofs.lemmas.Option.{same_Some}
use Rattle.bus_terms.specs.Flooding.{Setting, moment, has, agrees, may_hear, takes, hears, pick, first_heard, STEPS}
use Rattle.bus_terms.proofs.Options.{heard_parts, sends_parts}

module _ (s : Setting) (v : ℕ) where
  kept_as : (k : ℕ) → (moment s (suc k)).heard v ≡ first_heard ((moment s k).heard v) k (hears s (moment s k) k v)
  unfolding moment
  kept_as k = refl

  sends_as : (k : ℕ) → (moment s (suc k)).sends v ≡ (if nat_lt (k + 1) STEPS then hears s (moment s k) k v else None)
  unfolding moment
  sends_as k = refl

  begins_as : (moment s 0).sends v ≡ (if has s.initiators v then Some v else None)
  unfolding moment
  begins_as = refl

  -- what is sent in the next step was received in this one
  heard_then : (k o : ℕ) → (moment s (suc k)).sends v ≡ Some o → (nat_lt (k + 1) STEPS ≡ true) × (hears s (moment s k) k v ≡ Some o)
  heard_then k o is = sends_parts (nat_lt (k + 1) STEPS) (hears s (moment s k) k v) o (sym (sends_as k) ∙ is)

  taken : (k o : ℕ) → hears s (moment s k) k v ≡ Some o → takes s (moment s k) v o ≡ true
  taken k o is = (heard_parts (may_hear s (moment s k) v) (takes s (moment s k) v) (pick s (moment s k) k v) o is).2

  -- an initiator sends for itself
  own_or_not : (i e : Bool) → (not i || e) ≡ true → i ≡ true → e ≡ true
  own_or_not true e is on = is
  own_or_not false e is on = absurd (false≢true on)

  pub sends_own : has s.initiators v ≡ true → (k o : ℕ) → (moment s k).sends v ≡ Some o → o ≡ v
  sends_own on zero o is = sym (same_Some v o (sends_parts (has s.initiators v) (Some v) o (sym begins_as ∙ is)).1)
  sends_own on (suc k) o is =
      let both = and_parts (not (has s.initiators v) || (v == o)) (agrees ((moment s k).heard v) o) (taken k o (heard_then k o is).1) in
      sym (eqb-true v o (own_or_not (has s.initiators v) (v == o) both.0 on))

  -- what was received first is kept
  stays : (n k : ℕ) → k ≤ n → (h : ℕ × ℕ) → (moment s k).heard v ≡ Some h → (moment s n).heard v ≡ Some h
  stays zero k le h at = (let same : k ≡ 0 = omega (arith, le) in subst (λ (i : ℕ). (moment s i).heard v ≡ Some h) same at)
  stays (suc n) k le h at = elim (cases_lt k (suc n)) [
    | inl before ↦ kept_as n ∙ ap (λ (g : Option (ℕ × ℕ)). first_heard g n (hears s (moment s n) n v)) (stays n k (omega (arith, before)) h at)
    | inr last ↦ (let same : k ≡ suc n = omega (arith, le, last) in subst (λ (i : ℕ). (moment s i).heard v ≡ Some h) same at)
  ]

  first_is : (k o : ℕ) (old : Option (ℕ × ℕ)) → agrees old o ≡ true → (i : ℕ) × (first_heard old k (Some o) ≡ Some (o, i))
  first_is k o None is = (k, refl)
  first_is k o (Some h) is = (h.1, ap (λ (u : ℕ). Some (u, h.1)) (eqb-true h.0 o is))

  -- another node sends for the one that it received first
  pub sends_first : has s.initiators v ≡ false → (k o : ℕ) → (moment s k).sends v ≡ Some o → (i : ℕ) × ((moment s STEPS).heard v ≡ Some (o, i))
  sends_first off zero o is = absurd (false≢true (sym off ∙ (sends_parts (has s.initiators v) (Some v) o (sym begins_as ∙ is)).0))
  sends_first off (suc k) o is =
      let then_heard = heard_then k o is in
      let both = and_parts (not (has s.initiators v) || (v == o)) (agrees ((moment s k).heard v) o) (taken k o then_heard.1) in
      let first = first_is k o ((moment s k).heard v) both.1 in
      let early : k + 1 < 12 = ltb-true (k + 1) 12 then_heard.0 in (
        first.0,
        stays STEPS (suc k) (omega (arith, early)) (o, first.0)
            (kept_as k ∙ ap (λ (w : Option ℕ). first_heard ((moment s k).heard v) k w) then_heard.1 ∙ first.1),
      )
