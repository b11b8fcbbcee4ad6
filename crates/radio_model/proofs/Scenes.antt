-- Tunings in a scene, with those that last and one that ends.
use Rattle.std.proofs.Common.{◌≡◌, ◌≢◌, ℕ, ◌<◌, ◌≤◌, ◌↔◌, ◌⊎◌, inl, inr, ◌++◌, map, true, false, nat_lt, if◌then◌else◌, Option, Some}
use Rattle.std.proofs.Common.{None, filter_map, option_to_list, refl, sym, ◌∙◌, ap, subst, arith, Contains, AllPairs}
use Rattle.std.proofs.lemmas.List.Elements.{Contains-append_left, Contains-append_right, Contains-append_cases}
use Rattle.std.proofs.lemmas.Bool.{cond_both, cond-true, cond-false, ltb-false}
use Rattle.radio_model.specs.OnAir.{Tuning}
use Rattle.radio_model.specs.Hearing.{Scene, IsTuned}
use Rattle.radio_model.specs.Stations.{MediumState, id_of_station, is_tuned_to}
use Rattle.radio_model.specs.Holding.{lasting, lasting_at, as_it_stands, ended_tuning}
use Rattle.radio_model.specs.declared.tuning.Tuned.{Tuned}
use Rattle.radio_model.specs.declared.station.Station.{Station}
use Rattle.lwb_base.proofs.Elements.{in_filter, filter_from, in_option, of_option}
use Rattle.radio_model.proofs.Places.{one_station}
use Rattle.radio_model.proofs.Tunings.{Goes, Closes}

-- at each tick, by the ended tunings of a scene
abbrev pub Lit : Scene → ℕ → ℕ → ℕ → Type 0
Lit a v c k = IsTuned a v c k

abbrev pub with_tuning : Scene → Option Tuning → Scene
with_tuning a o = record a { tunings = a.tunings ++ option_to_list o }

-- what lasts is of this station
lasts_as : (v : ℕ) (tuned : Option Tuned) (t : ℕ) (k : Tuning) → lasting v tuned t ≡ Some k
    → (o : Tuned) × (tuned ≡ Some o) × (k ≡ record { rank = o.rank; node = v; start = o.since; end = t })
lasts_as v None t k is = cc
lasts_as v (Some o) t k is = (o, refl, cc)

goes_as : (o : Tuned) (tuned : Option Tuned) (c k : ℕ) → tuned ≡ Some o → o.rank ≡ c → o.since ≤ k → Goes tuned c k
goes_as o tuned c k is rank since = subst (λ (p : Option Tuned). Goes p c k) (sym is) (rank, since)

lasts_from : (v : ℕ) (tuned : Option Tuned) (t c k : ℕ) → Goes tuned c k
    → (y : Tuning) × (lasting v tuned t ≡ Some y) × (y.node ≡ v) × (y.rank ≡ c) × (y.start ≤ k) × (y.end ≡ t)
lasts_from v None t c k goes = absurd goes
lasts_from v (Some o) t c k goes = (record { rank = o.rank; node = v; start = o.since; end = t }, refl, refl, goes.0, goes.1, refl)

-- a station of the node is tuned to the channel, and was by the tick
pub record Lasts (m : MediumState) (v c k : ℕ) : Type 0 where
  pub station : Station
  pub there : Contains m.stations station
  pub node : station.node ≡ v
  pub goes : Goes station.tuning.now c k

pub lit_or_lasts : (m : MediumState) (a : Scene) (t v c k : ℕ) → IsTuned (as_it_stands m t a) v c k → Lit a v c k ⊎ Lasts m v c k
lit_or_lasts m a t v c k is =
    elim (Contains-append_cases a.tunings (filter_map (lasting_at t) m.stations) is.tuning is.there) [
      | inl ended ↦ inl (record { tuning = is.tuning; there = ended; node = is.node; rank = is.rank; since = is.since; until = is.until })
      | inr lasts ↦
          let w = filter_from (lasting_at t) m.stations is.tuning lasts in
          let l = lasts_as w.0.node w.0.tuning.now t is.tuning w.2 in
          let since = is.since in
          inr (record {
            station = w.0;
            there = w.1;
            node = sym (ap (λ (y : Tuning). y.node) l.2) ∙ is.node;
            goes = goes_as l.0 w.0.tuning.now c k l.1 (sym (ap (λ (y : Tuning). y.rank) l.2) ∙ is.rank) (omega (arith, ap (λ (y : Tuning). y.start) l.2));
          })
    ]

pub lit_stands : (m : MediumState) (a : Scene) (t v c k : ℕ) → Lit a v c k → IsTuned (as_it_stands m t a) v c k
lit_stands m a t v c k is = record {
  tuning = is.tuning;
  there = Contains-append_left a.tunings (filter_map (lasting_at t) m.stations) is.tuning is.there;
  node = is.node;
  rank = is.rank;
  since = is.since;
  until = is.until;
}

pub lasts_stands : (m : MediumState) (a : Scene) (t v c k : ℕ) → k < t → Lasts m v c k → IsTuned (as_it_stands m t a) v c k
lasts_stands m a t v c k early is =
    let st = is.station in
    let l = lasts_from st.node st.tuning.now t c k is.goes in
    record {
      tuning = l.0;
      there = Contains-append_right a.tunings (filter_map (lasting_at t) m.stations) l.0 (in_filter (lasting_at t) m.stations st l.0 is.there l.1);
      node = l.2 ∙ is.node;
      rank = l.3;
      since = l.4;
      until = omega (arith, l.5);
    }

pub stands : (m : MediumState) (a : Scene) (st : Station) (t c k : ℕ) → AllPairs (λ a b. a < b) (map id_of_station m.stations) → Contains m.stations st → k < t
    → IsTuned (as_it_stands m t a) st.node c k ↔ (Lit a st.node c k ⊎ Goes st.tuning.now c k)
stands m a st t c k ascend there early = (apart, together)
  where
    apart : IsTuned (as_it_stands m t a) st.node c k → Lit a st.node c k ⊎ Goes st.tuning.now c k
    apart is =
        elim (lit_or_lasts m a t st.node c k is) [
          | inl ended ↦ inl ended
          | inr l ↦ inr (subst (λ (s : Station). Goes s.tuning.now c k) (one_station m.stations ascend l.station st l.there there l.node) l.goes)
        ]

    together : Lit a st.node c k ⊎ Goes st.tuning.now c k → IsTuned (as_it_stands m t a) st.node c k
    together (inl is) = lit_stands m a t st.node c k is
    together (inr goes) = lasts_stands m a t st.node c k early (record { station = st; there = there; node = refl; goes = goes })

-- one more tuning or none
pub lit_more : (a : Scene) (o : Option Tuning) (v c k : ℕ) → Lit a v c k → Lit (with_tuning a o) v c k
lit_more a o v c k is = record {
  tuning = is.tuning;
  there = Contains-append_left a.tunings (option_to_list o) is.tuning is.there;
  node = is.node;
  rank = is.rank;
  since = is.since;
  until = is.until;
}

pub lit_apart : (a : Scene) (o : Option Tuning) (v c k : ℕ) → Lit (with_tuning a o) v c k
    → Lit a v c k ⊎ ((y : Tuning) × (o ≡ Some y) × (y.node ≡ v) × (y.rank ≡ c) × (y.start ≤ k) × (k < y.end))
lit_apart a o v c k is =
    elim (Contains-append_cases a.tunings (option_to_list o) is.tuning is.there) [
      | inl ended ↦ inl (record { tuning = is.tuning; there = ended; node = is.node; rank = is.rank; since = is.since; until = is.until })
      | inr new ↦ inr (is.tuning, in_option o is.tuning new, is.node, is.rank, is.since, is.until)
    ]

pub lit_same : (a : Scene) (v c k : ℕ) → Lit a v c k ↔ Lit (with_tuning a None) v c k
lit_same a v c k = (lit_more a None v c k, λ is. elim (lit_apart a None v c k is) [ inl ended ↦ ended | inr new ↦ none_is new.0 new.1 ])
  where
    none_is : (y : Tuning) → (let none : Option Tuning = None in none ≡ Some y) → Lit a v c k
    none_is y is = cc

-- of another node
pub lit_other : (a : Scene) (o : Option Tuning) (v u c k : ℕ) → ((y : Tuning) → o ≡ Some y → y.node ≡ v) → u ≢ v → Lit a u c k ↔ Lit (with_tuning a o) u c k
lit_other a o v u c k of other =
    (lit_more a o u c k, λ is. elim (lit_apart a o u c k is) [ inl ended ↦ ended | inr new ↦ absurd (other (sym new.2 ∙ of new.0 new.1)) ])

-- the present tuning ends at t
pub closes_late : (a : Scene) (v t : ℕ) (o : Tuned) → Closes (Lit a v) (Lit (with_tuning a (lasting v (Some o) t)) v) o t
closes_late a v t o = record {
  out = λ c k is. elim (lit_apart a (lasting v (Some o) t) v c k is) [
    | inl ended ↦ inl ended
    | inr new ↦
        let l = lasts_as v (Some o) t new.0 new.1 in
        let same : o ≡ l.0 = some_same o l.0 l.1 in
        let start = new.4 in
        let end = new.5 in
        inr (
          ap (λ (p : Tuned). p.rank) same ∙ sym (ap (λ (y : Tuning). y.rank) l.2) ∙ new.3,
          omega (arith, ap (λ (p : Tuned). p.since) same, ap (λ (y : Tuning). y.start) l.2),
          omega (arith, ap (λ (y : Tuning). y.end) l.2),
        )
  ];
  kept = lit_more a (lasting v (Some o) t) v;
  added = λ c k rank since early. record {
    tuning = record { rank = o.rank; node = v; start = o.since; end = t };
    there =
        Contains-append_right a.tunings (option_to_list (lasting v (Some o) t)) (record { rank = o.rank; node = v; start = o.since; end = t })
        (of_option (lasting v (Some o) t) (record { rank = o.rank; node = v; start = o.since; end = t }) refl);
    node = refl;
    rank = rank;
    since = since;
    until = early;
  };
}
  where
    some_same : (p q : Tuned) → (let x : Option Tuned = Some p in x ≡ Some q) → p ≡ q
    some_same p q is = cc

pub closes_empty : (a : Scene) (v t : ℕ) (o : Tuned) → t ≤ o.since → Closes (Lit a v) (Lit (with_tuning a None) v) o t
closes_empty a v t o none = record {
  out = λ c k is. inl ((lit_same a v c k).1 is);
  kept = λ c k is. (lit_same a v c k).0 is;
  added = λ c k rank since early. absurd (omega arith);
}

pub closes_out : (a : Scene) (v t : ℕ) (o : Tuned) → Closes (Lit a v) (Lit (with_tuning a (ended_tuning v None t (Some o))) v) o t
closes_out a v t o =
    cond_both (nat_lt o.since t) (lasting v (Some o) t) None (λ (e : Option Tuning). Closes (Lit a v) (Lit (with_tuning a e) v) o t)
    (λ is. closes_late a v t o)
    (λ not. closes_empty a v t o (ltb-false o.since t not))

-- what a call to tune ends
pub closed_same : (v r t : ℕ) (tuned : Option Tuned) → is_tuned_to tuned r ≡ true → ended_tuning v (Some r) t tuned ≡ None
closed_same v r t None is = refl
closed_same v r t (Some o) is = cond-true (is_tuned_to (Some o) r) None (if nat_lt o.since t then lasting v (Some o) t else None) is

pub closed_other : (v r t : ℕ) (tuned : Option Tuned) → is_tuned_to tuned r ≡ false → ended_tuning v (Some r) t tuned ≡ ended_tuning v None t tuned
closed_other v r t None is = refl
closed_other v r t (Some o) is = cond-false (is_tuned_to (Some o) r) None (if nat_lt o.since t then lasting v (Some o) t else None) is

-- it is of that node, and over by then
pub record IsClosed (v t : ℕ) (y : Tuning) : Type 0 where
  pub node : y.node ≡ v
  pub end : y.end ≡ t

out_is : (v t : ℕ) (o : Tuned) (y : Tuning) → ended_tuning v None t (Some o) ≡ Some y → IsClosed v t y
out_is v t o y =
    cond_both (nat_lt o.since t) (lasting v (Some o) t) None (λ (e : Option Tuning). e ≡ Some y → IsClosed v t y) (λ is same. late same) (λ not same. none same)
  where
    late : lasting v (Some o) t ≡ Some y → IsClosed v t y
    late same = let l = lasts_as v (Some o) t y same in record { node = ap (λ (z : Tuning). z.node) l.2; end = ap (λ (z : Tuning). z.end) l.2 }

    none : (let e : Option Tuning = None in e ≡ Some y) → IsClosed v t y
    none same = cc

in_is : (v r t : ℕ) (o : Tuned) (y : Tuning) → ended_tuning v (Some r) t (Some o) ≡ Some y → IsClosed v t y
in_is v r t o y =
    cond_both (is_tuned_to (Some o) r) None (ended_tuning v None t (Some o)) (λ (e : Option Tuning). e ≡ Some y → IsClosed v t y) (λ is same. none same)
    (λ not same. out_is v t o y same)
  where
    none : (let e : Option Tuning = None in e ≡ Some y) → IsClosed v t y
    none same = cc

pub closed_is : (v : ℕ) (rank : Option ℕ) (t : ℕ) (tuned : Option Tuned) (y : Tuning) → ended_tuning v rank t tuned ≡ Some y → IsClosed v t y
closed_is v rank t None y is = cc
closed_is v None t (Some o) y is = out_is v t o y is
closed_is v (Some r) t (Some o) y is = in_is v r t o y is
