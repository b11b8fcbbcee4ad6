-- Tunings in order, each until the end of those of its node and channel before it.
use Rattle.std.proofs.Common.{◌≡◌, ℕ, ◌+◌, ◌-◌, ◌<◌, ◌≤◌, ◌⊎◌, inl, inr, List, [], ◌∷◌, ◌++◌, map, take, drop, length, get_or, Bool, true}
use Rattle.std.proofs.Common.{refl, sym, ◌∙◌, ap, subst, arith, Contains, AllPairs, true≢false, length-append}
use Rattle.std.specs.Prelude.{IsPermutation}
use Rattle.std.specs.List.Sorted.{IsSortedBy}
use Rattle.std.specs.Ordering.{nat_cmp, ordering_then, is_lt}
use Rattle.std.proofs.lemmas.Bool.{cases_lt}
use Rattle.std.proofs.lemmas.Bool.Decides.{nat_tests}
use Rattle.std.proofs.lemmas.List.{map-append, get_or_append_left, get_or_push, take_more, drop_more, take_all, get_or_default}
use Rattle.std.proofs.lemmas.List.Quantifiers.{all_pairs_push}
use Rattle.std.proofs.lemmas.List.Sorted.{ranks_by, sorted_far, Contains-permutation, IsPermutation-sym, IsPermutation-map}
use Rattle.std.proofs.lemmas.List.Elements.{Contains-push, Contains-push_cases, Contains-append_left, Contains-get_or}
use Rattle.radio_model.specs.OnAir.{Tuning}
use Rattle.lwb_base.proofs.Elements.{not_in_none, contains_head, contains_tail}
use Rattle.lwb_base.proofs.Orders.{by_three_total, not_below}
use Rattle.air_check.specs.Tunings.{IsNoLater, IsOf, IsListedTuning, AreTuned, IsUntilAfter, tuning_of_tuned}
use Rattle.air_check.specs.declared.tunings.Tuned.{Tuned}

-- these are done with, and none of them is later than one of those to come
pub record IsExtended (done todo es : List Tuned) : Type 0 where
  pub are : AreTuned (map tuning_of_tuned done) es
  pub later : (e r : Tuned) → Contains es e → Contains todo r → IsNoLater e r

pub none_yet : (todo : List Tuned) → IsExtended [] todo []
none_yet todo = record {
  are = record {
    in_order = λ i j d less below. absurd (omega arith);
    of_them = λ e there. absurd (not_in_none e there);
    all = λ t there. absurd (not_in_none t there);
  };
  later = λ e r there also. absurd (not_in_none e there);
}

module _ (done todo es : List Tuned) (r e : Tuned) (is : IsExtended done (r ∷ todo) es) (rest : (q : Tuned) → Contains todo q → IsNoLater r q)
    (node : e.node ≡ r.node) (rank : e.rank ≡ r.rank) (start : e.start ≡ r.start) (until : IsUntilAfter es r e.until) where
  abbrev now : List Tuned
  now = es ++ e ∷ []

  grown : map tuning_of_tuned (done ++ r ∷ []) ≡ map tuning_of_tuned done ++ tuning_of_tuned r ∷ []
  grown = map-append tuning_of_tuned done (r ∷ [])

  before_it : (x : Tuned) → Contains es x → IsNoLater x r
  before_it x there = is.later x r there (contains_head r todo)

  to_it : (x : Tuned) → IsNoLater x r → IsNoLater x e
  to_it x by =
      let n = by.node in
      record {
        node = omega (arith, n, node);
        rank = λ same. (let k = by.rank (same ∙ node) in omega (arith, k, rank));
        start = λ same also. (let k = by.start (same ∙ node) (also ∙ rank) in omega (arith, k, start));
      }

  from_it : (q : Tuned) → IsNoLater r q → IsNoLater e q
  from_it q by =
      let n = by.node in
      record {
        node = omega (arith, n, node);
        rank = λ same. (let k = by.rank (sym node ∙ same) in omega (arith, k, rank));
        start = λ same also. (let k = by.start (sym node ∙ same) (sym rank ∙ also) in omega (arith, k, start));
      }

  more_of : (x : Tuned) → IsOf (map tuning_of_tuned done) x → IsOf (map tuning_of_tuned (done ++ r ∷ [])) x
  more_of x o = record {
    tuning = o.tuning;
    there = subst (λ (l : List Tuning). Contains l o.tuning) (sym grown)
        (Contains-append_left (map tuning_of_tuned done) (tuning_of_tuned r ∷ []) o.tuning o.there);
    node = o.node;
    rank = o.rank;
    start = o.start;
    end = o.end;
  }

  last_there : 0 < length es → Contains es (get_or es (length es - 1) e)
  last_there some = Contains-get_or es (length es - 1) e (omega arith)

  new_of : IsOf (map tuning_of_tuned (done ++ r ∷ [])) e
  new_of = elim until.from [
    | inl own ↦ record {
      tuning = tuning_of_tuned r;
      there = subst (λ (l : List Tuning). Contains l (tuning_of_tuned r)) (sym grown) (Contains-push (map tuning_of_tuned done) (tuning_of_tuned r));
      node = sym node;
      rank = sym rank;
      start = omega (arith, start);
      end = sym own;
    }
    | inr last ↦
        let l = get_or es (length es - 1) e in
        let there = last_there last.0 in
        let by = last.1 e in
        let o = more_of l (is.are.of_them l there) in
        let at = (before_it l there).start by.0 by.1 in
        let from = o.start in
        record {
          tuning = o.tuning;
          there = o.there;
          node = o.node ∙ by.0 ∙ sym node;
          rank = o.rank ∙ by.1 ∙ sym rank;
          start = omega (arith, at, from, start);
          end = o.end ∙ by.2;
        }
  ]

  long : length now ≡ length es + 1
  long = length-append es (e ∷ [])

  kept : (k : ℕ) (d : Tuned) → k < length es → get_or now k d ≡ get_or es k d
  kept k d below = get_or_append_left es (e ∷ []) d k below

  new_at : (k : ℕ) (d : Tuned) → k ≡ length es → get_or now k d ≡ e
  new_at k d at = get_or_push es e d k (sym at)

  -- one of the node and channel of e lasts until e does at most
  lasts_on : (t : Tuning) → (i : IsListedTuning es t) → e.node ≡ t.node → e.rank ≡ t.rank → t.end ≤ e.until
  lasts_on t i same_node same_rank =
      let place : ℕ = i.place in
      let below = i.below in
      let last : ℕ = length es - 1 in
      let l = get_or es last e in
      let first_node = i.node e in
      let first_rank = i.rank e in
      let by = before_it l (last_there (omega (arith, below))) in
      let up = by.node in
      let both : (l.node ≡ t.node) × (l.rank ≡ t.rank) = (elim (cases_lt place last) [
        | inl less ↦
            let of = is.are.in_order place last e less (omega (arith, below)) in
            let n = of.node in
            let same : l.node ≡ t.node = omega (arith, n, up, first_node, node, same_node) in
            let k = of.rank (first_node ∙ sym same) in
            let m = by.rank (same ∙ sym same_node ∙ node) in
            (same, omega (arith, k, m, first_rank, rank, same_rank))
        | inr not ↦
            let at : place ≡ last = omega (arith, below, not) in
            (ap (λ (k : ℕ). (get_or es k e).node) (sym at) ∙ first_node, ap (λ (k : ℕ). (get_or es k e).rank) (sym at) ∙ first_rank)
      ]) in
      let ends = i.lasts last e (omega (arith, below)) (omega (arith, below)) both.0 both.1 in
      let goes = until.lasts e (omega (arith, below)) (both.0 ∙ sym same_node ∙ node) (both.1 ∙ sym same_rank ∙ rank) in
      omega (arith, ends, goes)

  old_in : (t : Tuning) → IsListedTuning es t → IsListedTuning now t
  old_in t i =
      let place : ℕ = i.place in
      let within = i.below in
      record {
        place = place;
        below = omega (arith, within, long);
        node = λ d. ap (λ (x : Tuned). x.node) (kept place d within) ∙ i.node d;
        rank = λ d. ap (λ (x : Tuned). x.rank) (kept place d within) ∙ i.rank d;
        start = λ d. ap (λ (x : Tuned). x.start) (kept place d within) ∙ i.start d;
        lasts = λ k d from below same_node same_rank. elim (cases_lt k (length es)) [
          | inl inside ↦
              let at = kept k d inside in
              let ends = i.lasts k d from inside (ap (λ (x : Tuned). x.node) (sym at) ∙ same_node) (ap (λ (x : Tuned). x.rank) (sym at) ∙ same_rank) in
              omega (arith, ends, ap (λ (x : Tuned). x.until) at)
          | inr end ↦
              let at = new_at k d (omega (arith, end, below, long)) in
              let ends = lasts_on t i (ap (λ (x : Tuned). x.node) (sym at) ∙ same_node) (ap (λ (x : Tuned). x.rank) (sym at) ∙ same_rank) in
              omega (arith, ends, ap (λ (x : Tuned). x.until) at)
        ];
      }

  new_in : IsListedTuning now (tuning_of_tuned r)
  new_in = record {
    place = length es;
    below = omega (arith, long);
    node = λ d. ap (λ (x : Tuned). x.node) (new_at (length es) d refl) ∙ node;
    rank = λ d. ap (λ (x : Tuned). x.rank) (new_at (length es) d refl) ∙ rank;
    start = λ d. ap (λ (x : Tuned). x.start) (new_at (length es) d refl) ∙ start;
    lasts = λ k d from below same_node same_rank.
        let own = until.own in
        omega (arith, own, ap (λ (x : Tuned). x.until) (new_at k d (omega (arith, from, below, long))));
  }

  pub one_extended : IsExtended (done ++ r ∷ []) todo now
  one_extended = record {
    are = record {
      in_order = all_pairs_push IsNoLater es e is.are.in_order (λ k d below. to_it (get_or es k d) (before_it (get_or es k d) (Contains-get_or es k d below)));
      of_them = λ x there. elim (Contains-push_cases es e x there) [
        | inl before ↦ more_of x (is.are.of_them x before)
        | inr same ↦ subst (IsOf (map tuning_of_tuned (done ++ r ∷ []))) same new_of
      ];
      all = λ t there. elim (Contains-push_cases (map tuning_of_tuned done) (tuning_of_tuned r) t (subst (λ (l : List Tuning). Contains l t) grown there)) [
        | inl before ↦ old_in t (is.are.all t before)
        | inr same ↦ subst (IsListedTuning now) same new_in
      ];
    };
    later = λ x q there also. elim (Contains-push_cases es e x there) [
      | inl before ↦ is.later x q before (contains_tail r todo q also)
      | inr same ↦ subst (λ (y : Tuned). IsNoLater y q) same (from_it q (rest q also))
    ];
  }

pub after_last : (es : List Tuned) (e last : Tuned) (until : ℕ) → 0 < length es → last ≡ get_or es (length es - 1) last → e.until ≤ until
    → (last.node ≡ e.node → last.rank ≡ e.rank → last.until ≤ until)
    → ((until ≡ e.until) ⊎ ((last.node ≡ e.node) × (last.rank ≡ e.rank) × (last.until ≡ until))) → IsUntilAfter es e until
after_last es e last until some at own lasts from =
    let same : (d : Tuned) → get_or es (length es - 1) d ≡ last = λ d. get_or_default es (length es - 1) d last (omega arith) ∙ sym at in
    record {
      own = own;
      lasts = λ d more node rank.
          let long = lasts (ap (λ (x : Tuned). x.node) (sym (same d)) ∙ node) (ap (λ (x : Tuned). x.rank) (sym (same d)) ∙ rank) in
          omega (arith, long, ap (λ (x : Tuned). x.until) (same d));
      from = elim from [
        | inl is ↦ inl is
        | inr by ↦ inr (
          some,
          λ d. (
            ap (λ (x : Tuned). x.node) (same d) ∙ by.0,
            ap (λ (x : Tuned). x.rank) (same d) ∙ by.1,
            ap (λ (x : Tuned). x.until) (same d) ∙ by.2,
          ),
        )
      ];
    }

-- one more of a list in order
pub extended_more : (rs es new : List Tuned) (i : ℕ) (r e : Tuned) → AllPairs IsNoLater rs → i < length rs → r ≡ get_or rs i r
    → e.node ≡ r.node → e.rank ≡ r.rank → e.start ≡ r.start → IsUntilAfter es r e.until → IsExtended (take i rs) (drop i rs) es → new ≡ es ++ e ∷ []
    → IsExtended (take (i + 1) rs) (drop (i + 1) rs) new
extended_more rs es new i r e in_order below at node rank start until is pushed =
    let todo : drop i rs ≡ r ∷ drop (i + 1) rs = drop_more rs i r below ∙ ap (λ (x : Tuned). x ∷ drop (i + 1) rs) (sym at) in
    let done : take (i + 1) rs ≡ take i rs ++ r ∷ [] = take_more rs i r below ∙ ap (λ (x : Tuned). take i rs ++ x ∷ []) (sym at) in
    subst (λ (l : List Tuned). IsExtended (take (i + 1) rs) (drop (i + 1) rs) l) (sym pushed)
    (subst (λ (l : List Tuned). IsExtended l (drop (i + 1) rs) (es ++ e ∷ [])) (sym done)
    (one_extended (take i rs) (drop (i + 1) rs) es r e (subst (λ (l : List Tuned). IsExtended (take i rs) l es) todo is)
    (λ q there. (
    let k : ℕ = there.0 in
    let within = there.1 in
    let is_q : get_or rs (i + 1 + k) q ≡ q = sym (Rattle.std.proofs.lemmas.List.get_or-drop (i + 1) rs k q) ∙ there.2 in
    subst (λ (x : Tuned). IsNoLater x q) (get_or_default rs i q r below ∙ sym at)
    (subst (λ (x : Tuned). IsNoLater (get_or rs i q) x) is_q
    (in_order i (i + 1 + k) q (omega arith) (omega (arith, within, Rattle.std.proofs.Common.length-drop (i + 1) rs))))))
    node rank start until))

pub all_extended : (rs es : List Tuned) (i : ℕ) → length rs ≤ i → IsExtended (take i rs) (drop i rs) es → AreTuned (map tuning_of_tuned rs) es
all_extended rs es i over is = subst (λ (l : List Tuned). AreTuned (map tuning_of_tuned l) es) (take_all i rs over) is.are

-- the order of tunings
abbrev pub place_of : Tuned → ℕ × ℕ × ℕ
place_of e = (e.node, e.rank, e.start)

abbrev pub before : Tuned → Tuned → Bool
before e f = is_lt (ordering_then (ordering_then (nat_cmp e.node f.node) (nat_cmp e.rank f.rank)) (nat_cmp e.start f.start))

by_first : (m n p q u v : ℕ) → m < n → is_lt (ordering_then (ordering_then (nat_cmp m n) (nat_cmp p q)) (nat_cmp u v)) ≡ true
by_first m n p q u v less = grind (arith, nat_tests)

by_second : (m n p q u v : ℕ) → m ≡ n → p < q → is_lt (ordering_then (ordering_then (nat_cmp m n) (nat_cmp p q)) (nat_cmp u v)) ≡ true
by_second m n p q u v same less = grind (arith, nat_tests)

by_third : (m n p q u v : ℕ) → m ≡ n → p ≡ q → u < v → is_lt (ordering_then (ordering_then (nat_cmp m n) (nat_cmp p q)) (nat_cmp u v)) ≡ true
by_third m n p q u v same also less = grind (arith, nat_tests)

pub before_pairs : (xs : List Tuned) → IsSortedBy before xs → AllPairs IsNoLater xs
before_pairs xs sorted i j d less below =
    let x = get_or xs i d in
    let y = get_or xs j d in
    let so = sorted_far before (ranks_by by_three_total place_of) xs sorted i j d (omega (arith, less)) below in
    record {
      node = not_below y.node x.node (λ up. true≢false (sym (by_first y.node x.node y.rank x.rank y.start x.start up) ∙ so));
      rank = λ same. not_below y.rank x.rank (λ up. true≢false (sym (by_second y.node x.node y.rank x.rank y.start x.start (sym same) up) ∙ so));
      start = λ same also.
          not_below y.start x.start (λ up. true≢false (sym (by_third y.node x.node y.rank x.rank y.start x.start (sym same) (sym also) up) ∙ so));
    }

-- in another order they are the same tunings
pub same_tunings : (ts : List Tuning) (raw sorts es : List Tuned) → map tuning_of_tuned raw ≡ ts → IsPermutation raw sorts
    → AreTuned (map tuning_of_tuned sorts) es → AreTuned ts es
same_tunings ts raw sorts es is same are =
    let across = IsPermutation-map tuning_of_tuned raw sorts same in
    let back : (t : Tuning) → Contains (map tuning_of_tuned sorts) t → Contains ts t =
    λ t there. subst (λ (l : List Tuning). Contains l t) is
    (Contains-permutation (map tuning_of_tuned sorts) (map tuning_of_tuned raw) t
    (IsPermutation-sym (map tuning_of_tuned raw) (map tuning_of_tuned sorts) across) there) in
    record {
      in_order = are.in_order;
      of_them = λ e there. (
          let o = are.of_them e there in
          record { tuning = o.tuning; there = back o.tuning o.there; node = o.node; rank = o.rank; start = o.start; end = o.end });
      all = λ t there. are.all t
          (Contains-permutation (map tuning_of_tuned raw) (map tuning_of_tuned sorts) t across (subst (λ (l : List Tuning). Contains l t) (sym is) there));
    }
