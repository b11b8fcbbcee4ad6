-- A call to tune a node keeps what the medium tells of its tunings.
use Rattle.std.proofs.Common.{◌≡◌, ℕ, ◌<◌, ◌≤◌, ◌↔◌, ◌⊎◌, inl, inr, Bool, true, false, ◌&&◌, ◌==◌, nat_lt}
use Rattle.std.proofs.Common.{if◌then◌else◌, Option, Some, None, refl, sym, ◌∙◌, subst, arith, eq-eqb}
use Rattle.std.proofs.lemmas.Bool.{cases_lt, cond_both, ltb-true, ltb-false, and_parts, and_from, eqb-true, both_ways}
use Rattle.radio_model.specs.OnAir.{Tuning}
use Rattle.radio_model.specs.Hearing.{Scene}
use Rattle.radio_model.specs.Stations.{station_after_tuning, tuning_in, tuning_out, last_at, meets_at, since_with, is_tuned_to}
use Rattle.radio_model.specs.Holding.{IsOrder, ended_tuning}
use Rattle.radio_model.specs.declared.tuning.Tuned.{Tuned}
use Rattle.radio_model.specs.declared.tuning.Past.{Past}
use Rattle.radio_model.specs.declared.station.Station.{Station}
use Rattle.radio_model.specs.declared.tuning.RadioTuning.{RadioTuning}
use Rattle.radio_model.proofs.Tunings.{Goes, Went, Tells, told_went, tells_later, off_late, off_empty, on_fresh, on_joined}
use Rattle.radio_model.proofs.Scenes.{Lit, with_tuning, lit_same, lit_apart, closed_is, closes_out, closed_same, closed_other}

over_by : (now : ℕ) (tuned : Option Tuned) (last : Option Past) → IsOrder now tuned last → (c s u : ℕ) → Went last c s u → u ≤ now
over_by now tuned None order c s u went = absurd went
over_by now None (Some q) order c s u went = let w = went.2 in let o = order.1 in omega arith
over_by now (Some o) (Some q) order c s u went = let w = went.2 in let a = order.0 in let b = order.2 in omega arith

before_by : (now : ℕ) (o : Tuned) (last : Option Past) → IsOrder now (Some o) last → (c s u : ℕ) → Went last c s u → u ≤ o.since
before_by now o None order c s u went = absurd went
before_by now o (Some q) order c s u went = let w = went.2 in let b = order.2 in omega arith

began_by : (now : ℕ) (o : Tuned) (last : Option Past) → IsOrder now (Some o) last → o.since ≤ now
began_by now o None order = order
began_by now o (Some q) order = order.0

pub order_later : (now t : ℕ) (tuned : Option Tuned) (last : Option Past) → now ≤ t → IsOrder now tuned last → IsOrder t tuned last
order_later now t None None later order = tt
order_later now t (Some o) None later order = omega arith
order_later now t None (Some q) later order = (order.0, let b = order.1 in omega arith)
order_later now t (Some o) (Some q) later order = (let b = order.0 in omega arith, order.1, order.2, order.3)

order_off : (now t : ℕ) (tuned : Option Tuned) (last : Option Past) → now ≤ t → IsOrder now tuned last → IsOrder t None (last_at tuned last t)
order_off now t None None later order = tt
order_off now t None (Some q) later order = (order.0, let b = order.1 in omega arith)
order_off now t (Some o) None later order =
    cond_both (nat_lt o.since t) (Some (record { rank = o.rank; since = o.since; until = t })) None (IsOrder t None)
    (λ is. (ltb-true o.since t is, omega arith)) (λ not. tt)
order_off now t (Some o) (Some q) later order =
    let a = order.0 in
    let b = order.2 in
    cond_both (nat_lt o.since t) (Some (record { rank = o.rank; since = o.since; until = t })) (Some q) (IsOrder t None)
    (λ is. (ltb-true o.since t is, omega arith)) (λ not. (order.1, omega arith))

below_or_at : (x y : ℕ) → x ≤ y → (x < y) ⊎ (x ≡ y)
below_or_at x y le = elim (cases_lt x y) [ inl less ↦ inl less | inr not ↦ inr (omega arith) ]

order_on : (r t : ℕ) (last : Option Past) → IsOrder t None last
    → IsOrder t (Some (record { rank = r; since = since_with last r t })) (if meets_at last r t then None else last)
order_on r t None order = omega arith
order_on r t (Some q) order = by_test ((q.rank == r) && (q.until == t)) refl
  where
    by_test : (b : Bool) → ((q.rank == r) && (q.until == t)) ≡ b
        → IsOrder t (Some (record { rank = r; since = if b then q.since else t })) (if b then None else Some q)
    by_test true is = let a = order.0 in let b = order.1 in omega arith
    by_test false is = (
      omega arith,
      order.0,
      order.1,
      λ same.
          let by = order.1 in
          elim (below_or_at q.until t by) [
            | inl less ↦ less
            | inr at ↦
                absurd (both_ways ((q.rank == r) && (q.until == t)) is (and_from (q.rank == r) (q.until == t) (eq-eqb q.rank r same) (eq-eqb q.until t at)))
          ],
    )

pub tells_same : (P P' : ℕ → ℕ → Type 0) (tuned : Option Tuned) (last : Option Past) (now : ℕ) → ((c k : ℕ) → P c k ↔ P' c k) → Tells P tuned last now
    → Tells P' tuned last now
tells_same P P' tuned last now same tells c s t later early = (
  λ all. (tells c s t later early).0 (λ k low high. elim (all k low high) [ inl p ↦ inl ((same c k).1 p) | inr goes ↦ inr goes ]),
  λ is k low high. elim ((tells c s t later early).1 is k low high) [ inl p ↦ inl ((same c k).0 p) | inr goes ↦ inr goes ],
)

tells_on : (P : ℕ → ℕ → Type 0) (r t : ℕ) (last : Option Past) → ((c k : ℕ) → P c k → k < t) → IsOrder t None last → Tells P None last t
    → Tells P (Some (record { rank = r; since = since_with last r t })) (if meets_at last r t then None else last) t
tells_on P r t None past order tells = on_fresh P r t past None tells (λ c s u went. absurd went) (λ s went. went)
tells_on P r t (Some q) past order tells = by_test ((q.rank == r) && (q.until == t)) refl
  where
    by_test : (b : Bool) → ((q.rank == r) && (q.until == t)) ≡ b
        → Tells P (Some (record { rank = r; since = if b then q.since else t })) (if b then None else Some q) t
    by_test true is =
        let both = and_parts (q.rank == r) (q.until == t) is in
        on_joined P r t past q tells order.0 (eqb-true q.rank r both.0) (eqb-true q.until t both.1)
    by_test false is =
        on_fresh P r t past (Some q) tells (over_by t None (Some q) order)
        (λ s went.
        let by = order.1 in
        let from = went.2 in
        both_ways ((q.rank == r) && (q.until == t)) is (and_from (q.rank == r) (q.until == t) (eq-eqb q.rank r went.0) (eq-eqb q.until t (omega arith))))

-- what is given after a call at t
pub record Told (a : Scene) (v t : ℕ) (tuned : Option Tuned) (last : Option Past) : Type 0 where
  pub tells : Tells (Lit a v) tuned last t
  pub order : IsOrder t tuned last

module _ (a : Scene) (v now t : ℕ) (later : now ≤ t) (past : (c k : ℕ) → Lit a v c k → k < now) where
  told_out : (tuned : Option Tuned) (last : Option Past) → IsOrder now tuned last → Tells (Lit a v) tuned last now
      → Told (with_tuning a (ended_tuning v None t tuned)) v t None (last_at tuned last t)
  told_out None last order tells = record {
    tells = tells_same (Lit a v) (Lit (with_tuning a None) v) None last t (lit_same a v) (tells_later (Lit a v) None last now t later tells);
    order = order_off now t None last later order;
  }
  told_out (Some o) last order tells =
      let P' = Lit (with_tuning a (ended_tuning v None t (Some o))) v in
      let closes = closes_out a v t o in
      record {
        tells = cond_both (nat_lt o.since t) (Some (record { rank = o.rank; since = o.since; until = t })) last (λ (l : Option Past). Tells P' None l t)
            (λ is. off_late (Lit a v) P' o last now t later (began_by now o last order) (λ c s. before_by now o last order c s t)
            (over_by now (Some o) last order) tells past closes (ltb-true o.since t is))
            (λ not. off_empty (Lit a v) P' o last now t later (began_by now o last order) (λ c s. before_by now o last order c s t)
            (over_by now (Some o) last order) tells past closes (ltb-false o.since t not));
        order = order_off now t (Some o) last later order;
      }

  past_out : (o : Option Tuning) → ((y : Tuning) → o ≡ Some y → y.end ≤ t) → (c k : ℕ) → Lit (with_tuning a o) v c k → k < t
  past_out o by c k is =
      elim (lit_apart a o v c k is) [
        | inl ended ↦ let early = past c k ended in omega arith
        | inr new ↦ let end = by new.0 new.1 in let until = new.5 in omega arith
      ]

  pub told_after : (rank : Option ℕ) (st : Station) → IsOrder now st.tuning.now st.tuning.last → Tells (Lit a v) st.tuning.now st.tuning.last now
      → Told (with_tuning a (ended_tuning v rank t st.tuning.now)) v t (station_after_tuning rank t st).tuning.now (station_after_tuning rank t st).tuning.last
  told_after None st order tells = told_out st.tuning.now st.tuning.last order tells
  told_after (Some r) st order tells =
      cond_both (is_tuned_to st.tuning.now r) st.tuning (tuning_in r t (tuning_out t st.tuning))
      (λ (x : RadioTuning). Told (with_tuning a (ended_tuning v (Some r) t st.tuning.now)) v t x.now x.last)
      (λ is. subst (λ (e : Option Tuning). Told (with_tuning a e) v t st.tuning.now st.tuning.last) (sym (closed_same v r t st.tuning.now is)) (record {
        tells = tells_same (Lit a v) (Lit (with_tuning a None) v) st.tuning.now st.tuning.last t (lit_same a v)
            (tells_later (Lit a v) st.tuning.now st.tuning.last now t later tells);
        order = order_later now t st.tuning.now st.tuning.last later order;
      }))
      (λ not.
      let out = told_out st.tuning.now st.tuning.last order tells in
      subst (λ (e : Option Tuning). Told (with_tuning a e) v t (tuning_in r t (tuning_out t st.tuning)).now (tuning_in r t (tuning_out t st.tuning)).last)
      (sym (closed_other v r t st.tuning.now not)) (record {
        tells =
            tells_on (Lit (with_tuning a (ended_tuning v None t st.tuning.now)) v) r t (last_at st.tuning.now st.tuning.last t)
            (past_out (ended_tuning v None t st.tuning.now) (λ y is. omega (arith, (closed_is v None t st.tuning.now y is).end))) out.order out.tells;
        order = order_on r t (last_at st.tuning.now st.tuning.last t) out.order;
      }))

-- before t the ended tunings and the present one are the same
abbrev pub SameBefore : Scene → Scene → ℕ → ℕ → Option Tuned → Option Tuned → Type 0
SameBefore a b v t old new = (c k : ℕ) → k < t → (Lit a v c k ⊎ Goes old c k) ↔ (Lit b v c k ⊎ Goes new c k)

pub same_in : (a : Scene) (v t : ℕ) (tuned : Option Tuned) → SameBefore a (with_tuning a None) v t tuned tuned
same_in a v t tuned c k early = (
  λ is. elim is [ inl p ↦ inl ((lit_same a v c k).0 p) | inr goes ↦ inr goes ],
  λ is. elim is [ inl p ↦ inl ((lit_same a v c k).1 p) | inr goes ↦ inr goes ],
)

same_out : (a : Scene) (v t : ℕ) (tuned : Option Tuned) → SameBefore a (with_tuning a (ended_tuning v None t tuned)) v t tuned None
same_out a v t None c k early = same_in a v t None c k early
same_out a v t (Some o) c k early =
    let closes = closes_out a v t o in (
      λ is. elim is [ inl p ↦ inl (closes.kept c k p) | inr goes ↦ inl (closes.added c k goes.0 goes.1 early) ],
      λ is. elim is [
        | inl p ↦ elim (closes.out c k p) [ inl ended ↦ inl ended | inr q ↦ inr (q.0, q.1) ]
        | inr none ↦ absurd none
      ],
    )

-- what a tuning that begins at t is of before t, by one that it meets, was there
none_new : (P : ℕ → ℕ → Type 0) (r t : ℕ) (last : Option Past) → IsOrder t None last → Tells P None last t → (c k : ℕ) → k < t
    → Goes (Some (record { rank = r; since = since_with last r t })) c k → P c k
none_new P r t None order tells c k early goes = let since = goes.1 in absurd (omega arith)
none_new P r t (Some q) order tells c k early goes = by_test ((q.rank == r) && (q.until == t)) refl goes
  where
    by_test : (b : Bool) → ((q.rank == r) && (q.until == t)) ≡ b → (r ≡ c) × ((if b then q.since else t) ≤ k) → P c k
    by_test true is by =
        let both = and_parts (q.rank == r) (q.until == t) is in
        let until = eqb-true q.until t both.1 in
        let some = order.0 in
        elim ((tells c q.since t (omega arith) (omega arith)).1
        (told_went None (Some q) c q.since t (eqb-true q.rank r both.0 ∙ by.0, omega arith, omega arith)) k by.1 early) [
          | inl p ↦ p
          | inr none ↦ absurd none
        ]
    by_test false is by = let since = by.1 in absurd (omega arith)

pub same_after : (a : Scene) (v now t : ℕ) → now ≤ t → ((c k : ℕ) → Lit a v c k → k < now) → (rank : Option ℕ) (st : Station)
    → IsOrder now st.tuning.now st.tuning.last → Tells (Lit a v) st.tuning.now st.tuning.last now
    → SameBefore a (with_tuning a (ended_tuning v rank t st.tuning.now)) v t st.tuning.now (station_after_tuning rank t st).tuning.now
same_after a v now t later past None st order tells = same_out a v t st.tuning.now
same_after a v now t later past (Some r) st order tells =
    cond_both (is_tuned_to st.tuning.now r) st.tuning (tuning_in r t (tuning_out t st.tuning))
    (λ (x : RadioTuning). SameBefore a (with_tuning a (ended_tuning v (Some r) t st.tuning.now)) v t st.tuning.now x.now)
    (λ is. subst (λ (e : Option Tuning). SameBefore a (with_tuning a e) v t st.tuning.now st.tuning.now)
    (sym (closed_same v r t st.tuning.now is)) (same_in a v t st.tuning.now))
    (λ not. subst (λ (e : Option Tuning). SameBefore a (with_tuning a e) v t st.tuning.now (tuning_in r t (tuning_out t st.tuning)).now)
    (sym (closed_other v r t st.tuning.now not)) begins)
  where
    begins : SameBefore a (with_tuning a (ended_tuning v None t st.tuning.now)) v t st.tuning.now (tuning_in r t (tuning_out t st.tuning)).now
    begins c k early =
        let out = same_out a v t st.tuning.now c k early in
        let told = told_out a v now t later past st.tuning.now st.tuning.last order tells in (
          λ is. elim (out.0 is) [ inl p ↦ inl p | inr none ↦ absurd none ],
          λ is. elim is [
            | inl p ↦ out.1 (inl p)
            | inr goes ↦
                out.1 (inl (none_new (Lit (with_tuning a (ended_tuning v None t st.tuning.now)) v) r t (last_at st.tuning.now st.tuning.last t)
                told.order told.tells c k
                early goes))
          ],
        )
