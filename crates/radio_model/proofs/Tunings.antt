-- How long a node has been tuned to a channel, as the present tuning and the last one tell it.
use Rattle.std.proofs.Common.{◌≡◌, ℕ, ◌<◌, ◌≤◌, ◌-◌, ◌↔◌, ◌⊎◌, inl, inr, Bool, true, ◌&&◌, ◌||◌, ◌==◌}
use Rattle.std.proofs.Common.{nat_le, Option, Some, None, sym, ◌∙◌, subst, arith, eq-eqb}
use Rattle.std.proofs.lemmas.Bool.{and_parts, and_from, or_cases, or_left, or_right, eqb-true, leb-true, le-leb, cases_lt, false≢true}
use Rattle.radio_model.specs.Stations.{goes_on, went_until}
use Rattle.radio_model.specs.declared.tuning.Tuned.{Tuned}
use Rattle.radio_model.specs.declared.tuning.Past.{Past}

-- the present tuning is of the channel, and began by the tick
abbrev pub Goes : Option Tuned → ℕ → ℕ → Type 0
Goes None c k = ⊥
Goes (Some o) c k = (o.rank ≡ c) × (o.since ≤ k)

abbrev pub Went : Option Past → ℕ → ℕ → ℕ → Type 0
Went None c s t = ⊥
Went (Some q) c s t = (q.rank ≡ c) × (q.since ≤ s) × (t ≤ q.until)

goes_true : (tuned : Option Tuned) (c s : ℕ) → goes_on tuned c s ≡ true → Goes tuned c s
goes_true None c s is = false≢true is
goes_true (Some o) c s is = let both = and_parts (o.rank == c) (nat_le o.since s) is in (eqb-true o.rank c both.0, leb-true o.since s both.1)

goes_from : (tuned : Option Tuned) (c s : ℕ) → Goes tuned c s → goes_on tuned c s ≡ true
goes_from None c s is = absurd is
goes_from (Some o) c s is = and_from (o.rank == c) (nat_le o.since s) (eq-eqb o.rank c is.0) (le-leb o.since s is.1)

went_true : (last : Option Past) (c s t : ℕ) → went_until last c s t ≡ true → Went last c s t
went_true None c s t is = false≢true is
went_true (Some q) c s t is =
    let all = and_parts ((q.rank == c) && nat_le q.since s) (nat_le t q.until) is in
    let both = and_parts (q.rank == c) (nat_le q.since s) all.0 in
    (eqb-true q.rank c both.0, leb-true q.since s both.1, leb-true t q.until all.1)

went_from : (last : Option Past) (c s t : ℕ) → Went last c s t → went_until last c s t ≡ true
went_from None c s t is = absurd is
went_from (Some q) c s t is =
    and_from ((q.rank == c) && nat_le q.since s) (nat_le t q.until) (and_from (q.rank == c) (nat_le q.since s) (eq-eqb q.rank c is.0) (le-leb q.since s is.1))
    (le-leb t q.until is.2)

abbrev pub told : Option Tuned → Option Past → ℕ → ℕ → ℕ → Bool
told tuned last c s t = goes_on tuned c s || went_until last c s t

told_true : (tuned : Option Tuned) (last : Option Past) (c s t : ℕ) → told tuned last c s t ≡ true → Goes tuned c s ⊎ Went last c s t
told_true tuned last c s t is =
    elim (or_cases (goes_on tuned c s) (went_until last c s t) is) [ inl a ↦ inl (goes_true tuned c s a) | inr b ↦ inr (went_true last c s t b) ]

told_goes : (tuned : Option Tuned) (last : Option Past) (c s t : ℕ) → Goes tuned c s → told tuned last c s t ≡ true
told_goes tuned last c s t is = or_left (goes_on tuned c s) (went_until last c s t) (goes_from tuned c s is)

pub told_went : (tuned : Option Tuned) (last : Option Past) (c s t : ℕ) → Went last c s t → told tuned last c s t ≡ true
told_went tuned last c s t is = or_right (goes_on tuned c s) (went_until last c s t) (went_from last c s t is)

-- at each tick: some ended tuning is of the channel there, or the present one
abbrev pub All_lit : (ℕ → ℕ → Type 0) → Option Tuned → ℕ → ℕ → ℕ → Type 0
All_lit P tuned c s t = (k : ℕ) → s ≤ k → k < t → P c k ⊎ Goes tuned c k

abbrev pub Tells : (ℕ → ℕ → Type 0) → Option Tuned → Option Past → ℕ → Type 0
Tells P tuned last now = (c s t : ℕ) → now ≤ t → s < t → All_lit P tuned c s t ↔ (told tuned last c s t ≡ true)

pub tells_later : (P : ℕ → ℕ → Type 0) (tuned : Option Tuned) (last : Option Past) (now t : ℕ) → now ≤ t → Tells P tuned last now → Tells P tuned last t
tells_later P tuned last now t later tells c s u after early = tells c s u (omega arith) early

-- the ended tunings, with that of the present one up to t
pub record Closes (P P' : ℕ → ℕ → Type 0) (o : Tuned) (t : ℕ) : Type 0 where
  pub out : (c k : ℕ) → P' c k → P c k ⊎ ((o.rank ≡ c) × (o.since ≤ k) × (k < t))
  pub kept : (c k : ℕ) → P c k → P' c k
  pub added : (c k : ℕ) → o.rank ≡ c → o.since ≤ k → k < t → P' c k

module _ (P P' : ℕ → ℕ → Type 0) (o : Tuned) (last : Option Past) (now t : ℕ) (later : now ≤ t) (began : o.since ≤ now)
    (ended : (c s : ℕ) → Went last c s t → t ≤ o.since)
    (over : (c s u : ℕ) → Went last c s u → u ≤ now) (tells : Tells P (Some o) last now) (past : (c k : ℕ) → P c k → k < now) (closes : Closes P P' o t) where
  past_then : (c k : ℕ) → P' c k → k < t
  past_then c k is = elim (closes.out c k is) [ inl p ↦ let early = past c k p in omega arith | inr q ↦ q.2 ]

  -- nothing lasts from t on
  no_later : (c s u : ℕ) → t ≤ u → s < u → All_lit P' None c s u → u ≡ t
  no_later c s u from some all =
      elim (cases_lt t u) [
        | inl after ↦
            elim (all (u - 1) (omega arith) (omega arith)) [ inl p ↦ let early = past_then c (u - 1) p in absurd (omega arith) | inr none ↦ absurd none ]
        | inr not ↦ omega arith
      ]

  at_t : (c s : ℕ) → s < t → ((k : ℕ) → s ≤ k → k < t → P' c k ⊎ ⊥) → Goes (Some o) c s ⊎ Went last c s t
  at_t c s some all =
      told_true (Some o) last c s t ((tells c s t later some).0 (λ k from until. elim (all k from until) [
        | inl p ↦ elim (closes.out c k p) [ inl before ↦ inl before | inr q ↦ inr (q.0, q.1) ]
        | inr none ↦ absurd none
      ]))

  pub off_late : o.since < t → Tells P' None (Some (record { rank = o.rank; since = o.since; until = t })) t
  off_late some c s u from early = (
    λ all.
        let is : u ≡ t = no_later c s u from early all in
        elim (at_t c s (omega arith) (λ k low high. all k low (omega arith))) [
          | inl goes ↦ told_went None (Some (record { rank = o.rank; since = o.since; until = t })) c s u (goes.0, goes.1, omega arith)
          | inr went ↦ let not = ended c s went in absurd (omega arith)
        ],
    λ is. elim (told_true None (Some (record { rank = o.rank; since = o.since; until = t })) c s u is) [
      | inl none ↦ absurd none
      | inr went ↦ λ k low high. inl (closes.added c k went.0 (let w = went.1 in omega arith) (let w = went.2 in omega arith))
    ],
  )

  pub off_empty : t ≤ o.since → Tells P' None last t
  off_empty none c s u from early = (
    λ all.
        let is : u ≡ t = no_later c s u from early all in
        elim (at_t c s (omega arith) (λ k low high. all k low (omega arith))) [
          | inl goes ↦ let w = goes.1 in absurd (omega arith)
          | inr went ↦ told_went None last c s u (subst (Went last c s) (sym is) went)
        ],
    λ is. elim (told_true None last c s u is) [
      | inl no_one ↦ absurd no_one
      | inr went ↦ λ k low high.
          let by = over c s u went in
          let at : u ≡ t = omega arith in
          elim ((tells c s u (omega arith) early).1 (told_went (Some o) last c s u went) k low high) [
            | inl p ↦ inl (closes.kept c k p)
            | inr goes ↦ inl (closes.added c k goes.0 goes.1 (omega arith))
          ]
    ],
  )

-- a tuning begins at t
module _ (P : ℕ → ℕ → Type 0) (r t : ℕ) (past : (c k : ℕ) → P c k → k < t) where
  -- where it has begun before the end, the channel is its own
  own_channel : (since c s u : ℕ) → t < u → s < u → All_lit P (Some (record { rank = r; since = since })) c s u → r ≡ c
  own_channel since c s u after some all =
      elim (all (u - 1) (omega arith) (omega arith)) [ inl p ↦ let early = past c (u - 1) p in absurd (omega arith) | inr goes ↦ goes.0 ]

  module _ (last : Option Past) (tells : Tells P None last t) (over : (c s u : ℕ) → Went last c s u → u ≤ t) (fresh : (s : ℕ) → Went last r s t → ⊥) where
    before : (c s : ℕ) → s < t → All_lit P (Some (record { rank = r; since = t })) c s t → Went last c s t
    before c s some all =
        elim (told_true None last c s t ((tells c s t (omega arith) some).0
        (λ k low high. elim (all k low high) [ inl p ↦ inl p | inr goes ↦ let w = goes.1 in absurd (omega arith) ]))) [
          | inl none ↦ absurd none
          | inr went ↦ went
        ]

    pub on_fresh : Tells P (Some (record { rank = r; since = t })) last t
    on_fresh c s u from early = (
      λ all. elim (cases_lt t u) [
        | inl after ↦
            let own : r ≡ c = own_channel t c s u after early all in
            elim (cases_lt s t) [
              | inl some ↦ absurd (fresh s (subst (λ (n : ℕ). Went last n s t) (sym own) (before c s some (λ k low high. all k low (omega arith)))))
              | inr late ↦ told_goes (Some (record { rank = r; since = t })) last c s u (own, late)
            ]
        | inr not ↦
            let at : t ≡ u = omega arith in
            told_went (Some (record { rank = r; since = t })) last c s u
            (subst (Went last c s) at (before c s (omega arith) (λ k low high. all k low (omega arith))))
      ],
      λ is. elim (told_true (Some (record { rank = r; since = t })) last c s u is) [
        | inl goes ↦ λ k low high. inr (goes.0, let w = goes.1 in omega arith)
        | inr went ↦ λ k low high. elim ((tells c s u from early).1 (told_went None last c s u went) k low high) [ inl p ↦ inl p | inr none ↦ absurd none ]
      ],
    )

  module _ (q : Past) (tells : Tells P None (Some q) t) (some : q.since < q.until) (same : q.rank ≡ r) (meets : q.until ≡ t) where
    abbrev joined : Option Tuned
    joined = Some (record { rank = r; since = q.since })

    went_of : (c s : ℕ) → s < t → ((k : ℕ) → s ≤ k → k < t → P c k) → Went (Some q) c s t
    went_of c s early all =
        elim (told_true None (Some q) c s t ((tells c s t (omega arith) early).0 (λ k low high. inl (all k low high)))) [
          | inl none ↦ absurd none
          | inr went ↦ went
        ]

    last_tick : (c s : ℕ) → s < t → All_lit P joined c s t → r ≡ c
    last_tick c s early all =
        elim (all (t - 1) (omega arith) (omega arith)) [
          | inl p ↦ sym same ∙ (went_of c (t - 1) (omega arith) (λ k low high. subst (P c) (omega arith) p)).0
          | inr goes ↦ goes.0
        ]

    goes_back : (c s : ℕ) → s < t → All_lit P joined c s t → q.since ≤ s
    goes_back c s early all =
        let own : r ≡ c = last_tick c s early all in
        elim (cases_lt s q.since) [
          | inl less ↦
              (went_of c s early (λ k low high. elim (all k low high) [
                | inl p ↦ p
                | inr goes ↦
                    let w = goes.1 in
                    elim ((tells c q.since t (omega arith) (omega arith)).1 (told_went None (Some q) c q.since t (same ∙ own, omega arith, omega arith)) k
                    (omega arith) high) [ inl p ↦ p | inr none ↦ absurd none ]
              ])).1
          | inr not ↦ not
        ]

    pub on_joined : Tells P joined None t
    on_joined c s u from early = (
      λ all. elim (cases_lt t u) [
        | inl after ↦
            told_goes joined None c s u (
              own_channel q.since c s u after early all,
              elim (cases_lt s t) [ inl less ↦ goes_back c s less (λ k low high. all k low (omega arith)) | inr not ↦ omega arith ],
            )
        | inr not ↦
            told_goes joined None c s u
            (last_tick c s (omega arith) (λ k low high. all k low (omega arith)), goes_back c s (omega arith) (λ k low high. all k low (omega arith)))
      ],
      λ is. elim (told_true joined None c s u is) [
        | inl goes ↦ λ k low high. inr (goes.0, let w = goes.1 in omega arith)
        | inr none ↦ absurd none
      ],
    )
