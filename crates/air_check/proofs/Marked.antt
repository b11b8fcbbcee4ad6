-- One more reception has its flag.
use Rattle.std.proofs.Common.{◌≡◌, ◌≢◌, ℕ, ◌+◌, ◌*◌, ◌<◌, ◌≤◌, ◌↔◌, ◌⊎◌, inl, inr, List, [], ◌∷◌, ◌++◌, length, set, Bool, true, false}
use Rattle.std.proofs.Common.{refl, sym, ◌∙◌, ap, subst, arith, get_or, Contains}
use Rattle.std.proofs.lemmas.Bool.{cases_lt, cases_eq}
use Rattle.std.proofs.lemmas.List.{length-set, get_or-set_same, get_or-set_other}
use Rattle.std.proofs.lemmas.List.Elements.{Contains-push, Contains-push_cases, Contains-append_left}
use Rattle.radio_model.specs.OnAir.{Hearing, Sending}
use Rattle.air_check.specs.Flags.{flag, AreFlags}

-- the flag of transmission j and node w is new: it is x among those from begin to k, and w is v
pub record IsFresh (sent : List Sending) (v : ℕ) (x : Sending) (begin k j w : ℕ) (d : Sending) : Type 0 where
  pub from : begin ≤ j
  pub to : j < k
  pub node : w ≡ v
  pub there : get_or sent j d ≡ x

-- these flags are new, and no others
pub record IsMarked (sent : List Sending) (old : List Bool) (v : ℕ) (x : Sending) (begin k : ℕ) (new : List Bool) : Type 0 where
  pub size : length new ≡ length old
  pub each : (j w : ℕ) (d : Sending) → j < length sent → w ≤ 200 → (flag new j w ≡ true) ↔ ((flag old j w ≡ true) ⊎ IsFresh sent v x begin k j w d)

module _ (sent : List Sending) (old : List Bool) (v : ℕ) (x : Sending) (begin : ℕ) where
  pub first_marked : IsMarked sent old v x begin begin old
  first_marked = record {
    size = refl;
    each = λ j w d below is_id. (
      λ so. inl so,
      λ either. elim either [ inl so ↦ so | inr fresh ↦ let from = fresh.from in let to = fresh.to in absurd (omega arith) ],
    );
  }

  -- one that is another
  pub passed : (k : ℕ) (new : List Bool) → IsMarked sent old v x begin k new → ((d : Sending) → get_or sent k d ≢ x) → IsMarked sent old v x begin (k + 1) new
  passed k new is other = record {
    size = is.size;
    each = λ j w d below is_id. (
      λ so. elim ((is.each j w d below is_id).0 so) [
        | inl before ↦ inl before
        | inr fresh ↦ let to = fresh.to in inr (record { from = fresh.from; to = omega (arith, to); node = fresh.node; there = fresh.there })
      ],
      λ either. (is.each j w d below is_id).1 (elim either [
        | inl before ↦ inl before
        | inr fresh ↦ elim (cases_eq j k) [
          | inl here ↦ absurd (other d (ap (λ (n : ℕ). get_or sent n d) (sym here) ∙ fresh.there))
          | inr early ↦ let to = fresh.to in inr (record { from = fresh.from; to = omega (arith, to, early); node = fresh.node; there = fresh.there })
        ]
      ]),
    );
  }

  -- one that is x
  pub marked : (k : ℕ) (new : List Bool) → v ≤ 200 → begin ≤ k → k < length sent → length old ≡ length sent * 201 → IsMarked sent old v x begin k new
      → ((d : Sending) → get_or sent k d ≡ x) → IsMarked sent old v x begin (k + 1) (set new (k * 201 + v) true)
  marked k new id from within long is here = record {
    size = length-set new (k * 201 + v) true ∙ is.size;
    each = λ j w d below is_id.
        let size = is.size in
        elim (cases_eq (j * 201 + w) (k * 201 + v)) [
          | inl same ↦
              let at : j ≡ k = omega arith in
              let node : w ≡ v = omega arith in
              let now : flag (set new (k * 201 + v) true) j w ≡ true =
              ap (λ (n : ℕ). get_or (set new (k * 201 + v) true) n false) same ∙ get_or-set_same new (k * 201 + v) true false (omega arith) in (
                λ so. inr (record { from = omega arith; to = omega arith; node = node; there = ap (λ (n : ℕ). get_or sent n d) at ∙ here d }),
                λ either. now,
              )
          | inr other ↦
              let kept : flag (set new (k * 201 + v) true) j w ≡ flag new j w = get_or-set_other new (k * 201 + v) (j * 201 + w) true false other in (
                λ so. elim ((is.each j w d below is_id).0 (sym kept ∙ so)) [
                  | inl before ↦ inl before
                  | inr fresh ↦ let to = fresh.to in inr (record { from = fresh.from; to = omega (arith, to); node = fresh.node; there = fresh.there })
                ],
                λ either. kept ∙ (is.each j w d below is_id).1 (elim either [
                  | inl before ↦ inl before
                  | inr fresh ↦ elim (cases_lt j k) [
                    | inl early ↦ inr (record { from = fresh.from; to = early; node = fresh.node; there = fresh.there })
                    | inr late ↦ let to = fresh.to in let node = fresh.node in absurd (other (let at : j ≡ k = omega arith in omega arith))
                  ]
                ]),
              )
        ];
  }

  -- all have been looked at
  pub flags_more : (end : ℕ) (new : List Bool) → ((k : ℕ) (d : Sending) → k < length sent → (get_or sent k d).start ≡ x.start → (begin ≤ k) × (k < end))
      → IsMarked sent old v x begin end new → (hs : List Hearing) → AreFlags sent hs old → AreFlags sent (hs ++ record { node = v; sending = x } ∷ []) new
  flags_more end new all is hs are = record {
    size = is.size ∙ are.size;
    each = λ j w d below is_id. (
      λ so. elim ((is.each j w d below is_id).0 so) [
        | inl before ↦
            Contains-append_left hs (record { node = v; sending = x } ∷ []) (record { node = w; sending = get_or sent j d })
            ((are.each j w d below is_id).0 before)
        | inr fresh ↦
            let same : record { node = v; sending = x } ≡ record { node = w; sending = get_or sent j d } =
            ap (λ (n : ℕ). let h : Hearing = record { node = n; sending = x } in h) (sym fresh.node)
            ∙ ap (λ (y : Sending). let h : Hearing = record { node = w; sending = y } in h) (sym fresh.there) in
            subst (λ (h : Hearing). Contains (hs ++ record { node = v; sending = x } ∷ []) h) same (Contains-push hs (record { node = v; sending = x }))
      ],
      λ there. (is.each j w d below is_id).1
          (elim (Contains-push_cases hs (record { node = v; sending = x }) (record { node = w; sending = get_or sent j d }) there) [
            | inl before ↦ inl ((are.each j w d below is_id).1 before)
            | inr same ↦
                let node : w ≡ v = ap (λ (h : Hearing). h.node) (sym same) in
                let here : get_or sent j d ≡ x = ap (λ (h : Hearing). h.sending) (sym same) in
                let in_it = all j d below (ap (λ (y : Sending). y.start) here) in
                inr (record { from = in_it.0; to = in_it.1; node = node; there = here })
          ]),
    );
  }
