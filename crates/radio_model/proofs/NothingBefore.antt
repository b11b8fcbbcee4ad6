-- What a call does at t changes nothing before t.
use Rattle.std.proofs.Common.{◌≡◌, ℕ, ◌<◌, ◌≤◌, ◌⊎◌, inl, inr, List, [], ◌∷◌, ◌++◌, map, ◌==◌, Option, Some, None, is_none, find}
use Rattle.std.proofs.Common.{filter_map, option_to_list, refl, sym, ◌∙◌, ap, subst, arith, Contains, AllPairs}
use Rattle.std.specs.List.{cons_option}
use Rattle.std.proofs.lemmas.Bool.{cond_both, eqb-true, eqb-false}
use Rattle.std.proofs.lemmas.List.Elements.{Contains-append_cases, Contains-append_left}
use Rattle.lwb_base.specs.Profile.{Numbers}
use Rattle.radio_model.specs.OnAir.{Sending, Tuning}
use Rattle.radio_model.specs.Hearing.{Scene, IsTuned}
use Rattle.radio_model.specs.Stations.{MediumState, id_of_station, nodes_of, is_station_of, station_of, station_after_tuning, station_after_start}
use Rattle.radio_model.specs.Stations.{station_after_end, next_sending, station_changed_at, medium_after_change}
use Rattle.radio_model.specs.Holding.{Agree, Holds, lasting_at, as_it_stands, ended_tuning, tuned_of, sending_at_start, after_tuning, after_starting}
use Rattle.radio_model.specs.declared.tuning.Tuned.{Tuned}
use Rattle.radio_model.specs.declared.station.Station.{Station}
use Rattle.lwb_base.proofs.Elements.{in_option, contains_head, contains_tail, map_contains, map_from}
use Rattle.radio_model.proofs.OneStation.{node_stays}
use Rattle.radio_model.proofs.Changes.{retuned_keeps}
use Rattle.radio_model.proofs.Tunings.{Goes, Tells}
use Rattle.radio_model.proofs.Scenes.{Lit, with_tuning, lit_or_lasts, lit_stands, lasts_stands, lit_more, lit_apart, lit_other, closed_is}
use Rattle.radio_model.proofs.Retuned.{SameBefore, same_after}
use Rattle.radio_model.proofs.OneCall.{found_member, lit_moves, tells_by, past_lit}

-- only time passes
stands_also : (m : MediumState) (a : Scene) (s t v c k : ℕ) → k < t → IsTuned (as_it_stands m s a) v c k → IsTuned (as_it_stands m t a) v c k
stands_also m a s t v c k early is = elim (lit_or_lasts m a s v c k is) [ inl ended ↦ lit_stands m a t v c k ended | inr l ↦ lasts_stands m a t v c k early l ]

pub by_waiting : (m : MediumState) (s t : ℕ) (a : Scene) → s ≤ t → Agree s (as_it_stands m s a) (as_it_stands m t a)
by_waiting m s t a later = record {
  numbers = refl;
  lines = refl;
  sendings = λ y early. (λ there. there, λ there. there);
  tuned = λ v c k early. (stands_also m a s t v c k (omega arith), stands_also m a t s v c k early);
}

-- a change that leaves the tunings
module _ (f : Station → Station) (v t : ℕ) (same : (st : Station) → lasting_at t (f st) ≡ lasting_at t st) where
  same_lasting : (xs : List Station) → filter_map (lasting_at t) (map (station_changed_at v f) xs) ≡ filter_map (lasting_at t) xs
  same_lasting [] = refl
  same_lasting (st ∷ xs) =
      ap (λ (o : Option Tuning). cons_option o (filter_map (lasting_at t) (map (station_changed_at v f) xs)))
      (cond_both (st.node == v) (f st) st (λ (s : Station). lasting_at t s ≡ lasting_at t st) (λ _. same st) (λ _. refl))
      ∙ ap (λ (l : List Tuning). cons_option (lasting_at t st) l) (same_lasting xs)

  same_tunings : (m : MediumState) (a : Scene)
      → a.tunings ++ filter_map (lasting_at t) m.stations ≡ a.tunings ++ filter_map (lasting_at t) (medium_after_change t v f m).stations
  same_tunings m a = ap (λ (l : List Tuning). a.tunings ++ l) (sym (same_lasting m.stations))

pub by_ending : (m : MediumState) (v t : ℕ) (a : Scene) → Agree t (as_it_stands m t a) (as_it_stands (medium_after_change t v station_after_end m) t a)
by_ending m v t a =
    let same = same_tunings station_after_end v t (λ st. refl) m a in
    record {
      numbers = refl;
      lines = refl;
      sendings = λ y early. (λ there. there, λ there. there);
      tuned =
          λ u c k early. (
            lit_moves (as_it_stands m t a) (as_it_stands (medium_after_change t v station_after_end m) t a) u c k same,
            lit_moves (as_it_stands (medium_after_change t v station_after_end m) t a) (as_it_stands m t a) u c k (sym same),
          );
    }

-- what begins at t
begins_at : (p : Numbers) (t : ℕ) (packet : List ℕ) (o : Option Station) (y : Sending) → sending_at_start p t packet o ≡ Some y → y.start ≡ t
begins_at p t packet None y = none
  where
    none : (let e : Option Sending = None in e ≡ Some y) → y.start ≡ t
    none same = cc
begins_at p t packet (Some st) y =
    cond_both (is_none st.sending) (next_sending p t packet st.node st.tuning.now) None (λ (e : Option Sending). e ≡ Some y → y.start ≡ t)
    (λ _. next st.tuning.now)
    (λ _ same. none same)
  where
    none : (let e : Option Sending = None in e ≡ Some y) → y.start ≡ t
    none same = cc

    next : (tuned : Option Tuned) → next_sending p t packet st.node tuned ≡ Some y → y.start ≡ t
    next None same = cc
    next (Some o) same = cc

pub by_starting : (m : MediumState) (v t : ℕ) (packet : List ℕ) (a : Scene)
    → Agree t (as_it_stands m t a) (as_it_stands (medium_after_change t v (station_after_start m.numbers t packet) m) t (after_starting m v t packet a))
by_starting m v t packet a =
    let f = station_after_start m.numbers t packet in
    let new = sending_at_start m.numbers t packet (station_of m v) in
    let same = same_tunings f v t (λ st. refl) m a in
    record {
      numbers = refl;
      lines = refl;
      sendings = λ y early. (
        λ there. Contains-append_left a.sendings (option_to_list new) y there,
        λ there. elim (Contains-append_cases a.sendings (option_to_list new) y there) [
          | inl old ↦ old
          | inr now ↦ absurd (omega (arith, begins_at m.numbers t packet (station_of m v) y (in_option new y now)))
        ],
      );
      tuned =
          λ u c k early. (
            lit_moves (as_it_stands m t a) (as_it_stands (medium_after_change t v f m) t (after_starting m v t packet a)) u c k same,
            lit_moves (as_it_stands (medium_after_change t v f m) t (after_starting m v t packet a)) (as_it_stands m t a) u c k (sym same),
          );
    }

-- what is found is the node's
found_is : (xs : List Station) (v : ℕ) (st : Station) → find (is_station_of v) xs ≡ Some st → Contains xs st × (st.node ≡ v)
found_is [] v st = λ is. none is
  where
    none : (let o : Option Station = None in o ≡ Some st) → Contains [] st × (st.node ≡ v)
    none is = cc
found_is (x ∷ xs) v st =
    cond_both (x.node == v) (Some x) (find (is_station_of v) xs) (λ (o : Option Station). o ≡ Some st → Contains (x ∷ xs) st × (st.node ≡ v))
    (λ same is. here (eqb-true x.node v same) is)
    (λ _ is. let rest = found_is xs v st is in (contains_tail x xs st rest.0, rest.1))
  where
    here : x.node ≡ v → (let o : Option Station = Some x in o ≡ Some st) → Contains (x ∷ xs) st × (st.node ≡ v)
    here node is = let same : x ≡ st = cc in subst (λ (s : Station). Contains (x ∷ xs) s × (s.node ≡ v)) same (contains_head x xs, node)

module _ (m : MediumState) (ascend : AllPairs (λ a b. a < b) (nodes_of m)) (a : Scene) (h : Holds m a) (v : ℕ) (rank : Option ℕ) (t : ℕ) (later : m.now ≤ t)
  where
    abbrev change : Station → Station
    change = station_after_tuning rank t

    abbrev ending : Option Tuning
    ending = ended_tuning v rank t (tuned_of (station_of m v))

    abbrev behind : MediumState
    behind = medium_after_change t v change m

    abbrev scene : Scene
    scene = with_tuning a ending

    here : (st : Station) → Contains m.stations st → st.node ≡ v → SameBefore a scene v t st.tuning.now (change st).tuning.now
    here st there node =
        let at : ending ≡ ended_tuning v rank t st.tuning.now =
        ap (λ (o : Option Station). ended_tuning v rank t (tuned_of o)) (ap (station_of m) (sym node) ∙ found_member m.stations st ascend there) in
        let old : Tells (Lit a v) st.tuning.now st.tuning.last m.now =
        subst (λ (n : ℕ). Tells (Lit a n) st.tuning.now st.tuning.last m.now) node (tells_by m a ascend st there m.now (h.tuned st there)) in
        subst (λ (e : Option Tuning). SameBefore a (with_tuning a e) v t st.tuning.now (change st).tuning.now) (sym at)
        (same_after a v m.now t later (λ c k. past_lit m a h v c k) rank st (h.orderly st there).tunings old)

    each : (st : Station) → Contains m.stations st → SameBefore a scene st.node t st.tuning.now (station_changed_at v change st).tuning.now
    each st there =
        cond_both (st.node == v) (change st) st (λ (s : Station). SameBefore a scene st.node t st.tuning.now s.tuning.now)
        (λ same.
        let node = eqb-true st.node v same in
        subst (λ (n : ℕ). SameBefore a scene n t st.tuning.now (change st).tuning.now) (sym node) (here st there node))
        (λ not c k early.
        let other = lit_other a ending v st.node c k (λ y is. (closed_is v rank t (tuned_of (station_of m v)) y is).node) (eqb-false st.node v not) in (
          λ is. elim is [ inl p ↦ inl (other.0 p) | inr goes ↦ inr goes ],
          λ is. elim is [ inl p ↦ inl (other.1 p) | inr goes ↦ inr goes ],
        ))

    on : (u c k : ℕ) → k < t → IsTuned (as_it_stands m t a) u c k → IsTuned (as_it_stands behind t scene) u c k
    on u c k early is =
        elim (lit_or_lasts m a t u c k is) [
          | inl ended ↦ lit_stands behind scene t u c k (lit_more a ending u c k ended)
          | inr l ↦ elim ((each l.station l.there c k early).0 (inr l.goes)) [
            | inl ended ↦ lit_stands behind scene t u c k (subst (λ (n : ℕ). Lit scene n c k) l.node ended)
            | inr goes ↦ lasts_stands behind scene t u c k early (record {
              station = station_changed_at v change l.station;
              there = map_contains (station_changed_at v change) m.stations l.station l.there;
              node = node_stays change v (retuned_keeps rank t).node l.station ∙ l.node;
              goes = goes;
            })
          ]
        ]

    -- what a station before the call has lit
    was : (st : Station) (u c k : ℕ) → Contains m.stations st → st.node ≡ u → k < t
        → (Lit scene st.node c k ⊎ Goes (station_changed_at v change st).tuning.now c k)
        → IsTuned (as_it_stands m t a) u c k
    was st u c k there node early is =
        elim ((each st there c k early).1 is) [
          | inl ended ↦ lit_stands m a t u c k (subst (λ (n : ℕ). Lit a n c k) node ended)
          | inr goes ↦ lasts_stands m a t u c k early (record { station = st; there = there; node = node; goes = goes })
        ]

    closed_was : (o : Option Station) → station_of m v ≡ o → (y : Tuning) → ended_tuning v rank t (tuned_of o) ≡ Some y
        → (st : Station) × Contains m.stations st × (st.node ≡ v)
    closed_was None found y is = cc
    closed_was (Some st) found y is = let w = found_is m.stations v st found in (st, w.0, w.1)

    back : (u c k : ℕ) → k < t → IsTuned (as_it_stands behind t scene) u c k → IsTuned (as_it_stands m t a) u c k
    back u c k early is =
        elim (lit_or_lasts behind scene t u c k is) [
          | inl lit ↦ elim (lit_apart a ending u c k lit) [
            | inl ended ↦ lit_stands m a t u c k ended
            | inr new ↦
                let w = closed_was (station_of m v) refl new.0 new.1 in
                let node : w.0.node ≡ u = w.2 ∙ sym (closed_is v rank t (tuned_of (station_of m v)) new.0 new.1).node ∙ new.2 in
                was w.0 u c k w.1 node early (inl (subst (λ (n : ℕ). Lit scene n c k) (sym node) lit))
          ]
          | inr l ↦
              let w = map_from (station_changed_at v change) m.stations l.station l.there in
              let node : w.0.node ≡ u = sym (node_stays change v (retuned_keeps rank t).node w.0) ∙ ap id_of_station w.2 ∙ l.node in
              was w.0 u c k w.1 node early (inr (subst (λ (s : Station). Goes s.tuning.now c k) (sym w.2) l.goes))
        ]

    pub by_tuning : Agree t (as_it_stands m t a) (as_it_stands behind t (after_tuning m v rank t a))
    by_tuning = record {
      numbers = refl;
      lines = refl;
      sendings = λ y early. (λ there. there, λ there. there);
      tuned = λ u c k early. (on u c k early, back u c k early);
    }
