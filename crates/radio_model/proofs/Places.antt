-- The stations at their places, and a change of one of them.
use Rattle.std.proofs.Common.{◌≡◌, ◌+◌, ◌<◌, ℕ, zero, suc, List, [], ◌∷◌, ◌++◌, length, take, set, map, get_or, Some, find}
use Rattle.std.proofs.Common.{refl, sym, ◌∙◌, ap, subst, arith, Contains, ◌==◌, eq-eqb, inl, inr, AllPairs}
use Rattle.std.proofs.lemmas.List.{take_more, length-take-le, get_or-map, length-map, same_lists, length-set, get_or-set_same, get_or-set_other}
use Rattle.std.proofs.lemmas.List.Elements.{All-map}
use Rattle.std.proofs.lemmas.Bool.{cond-true, cond-false, cond_both, cases_eq, cases_order, ne_eqb}
use Rattle.lwb_base.specs.Profile.{Numbers, IsProfile}
use Rattle.link_trace.specs.Masks.{AreNodes}
use Rattle.radio_model.specs.Stations.{MediumState, IsMedium, id_of_station, nodes_of, is_station_of, station_changed_at, medium_after_change, fresh}
use Rattle.radio_model.specs.Stations.{stations_from, first_state}
use Rattle.radio_model.specs.declared.station.Station.{Station}
use Rattle.radio_model.proofs.OneStation.{nodes_stay}

-- no node is at two places
pub apart : (xs : List Station) → AllPairs (λ a b. a < b) (map id_of_station xs) → (i j : ℕ) (d : Station) → i < length xs → j < length xs
    → (get_or xs i d).node ≡ (get_or xs j d).node → i ≡ j
apart xs ascend i j d left right same =
    let at_i = get_or-map id_of_station xs i d 0 left in
    let at_j = get_or-map id_of_station xs j d 0 right in
    let long = length-map xs id_of_station in
    elim (cases_order i j) [
      | inl is ↦ is
      | inr less ↦ elim less [
        | inl before ↦ let up = ascend i j 0 before (omega arith) in absurd (omega arith)
        | inr behind ↦ let up = ascend j i 0 behind (omega arith) in absurd (omega arith)
      ]
    ]

pub same_at : (ys : List Station) (k : ℕ) (d e : Station) → k < length ys → get_or ys k d ≡ get_or ys k e
same_at [] k d e below = absurd (omega arith)
same_at (y ∷ ys) zero d e below = refl
same_at (y ∷ ys) (suc k) d e below = same_at ys k d e (omega arith)

-- two stations of one node are one
pub one_station : (xs : List Station) → AllPairs (λ a b. a < b) (map id_of_station xs) → (s u : Station) → Contains xs s → Contains xs u → s.node ≡ u.node
    → s ≡ u
one_station xs ascend s u (i, left, at_s) (j, right, at_u) same =
    let there_u : get_or xs j s ≡ u = same_at xs j s u right ∙ at_u in
    let is : i ≡ j = apart xs ascend i j s left right (ap id_of_station at_s ∙ same ∙ sym (ap id_of_station there_u)) in
    sym at_s ∙ ap (λ (k : ℕ). get_or xs k s) is ∙ there_u

-- a change of the station at a place is one of the node that is there
pub changed_there : (f : Station → Station) (xs : List Station) → AllPairs (λ a b. a < b) (map id_of_station xs) → (v i : ℕ) (old new : Station) → i < length xs
    → old ≡ get_or xs i old → old.node ≡ v → new ≡ f old
    → set xs i new ≡ map (station_changed_at v f) xs
changed_there f xs ascend v i old new below at is change =
    same_lists (set xs i new) (map (station_changed_at v f) xs) (length-set xs i new ∙ sym (length-map xs (station_changed_at v f)))
    (λ k d within. each k d (omega (arith, length-set xs i new)))
  where
    node_there : (d : Station) → (get_or xs i d).node ≡ v
    node_there d = sym (get_or-map id_of_station xs i d v below) ∙ get_or-map id_of_station xs i old v below ∙ ap id_of_station (sym at) ∙ is

    each : (k : ℕ) (d : Station) → k < length xs → get_or (set xs i new) k d ≡ get_or (map (station_changed_at v f) xs) k d
    each k d within =
        elim (cases_eq k i) [
          | inl here ↦
              ap (λ (n : ℕ). get_or (set xs i new) n d) here ∙ get_or-set_same xs i new d below ∙ change
              ∙ sym (cond-true (old.node == v) (f old) old (eq-eqb old.node v is))
              ∙ ap (station_changed_at v f) at
              ∙ sym (get_or-map (station_changed_at v f) xs i old d below) ∙ ap (λ (n : ℕ). get_or (map (station_changed_at v f) xs) n d) (sym here)
          | inr there ↦
              get_or-set_other xs i k new d there
              ∙ sym (cond-false ((get_or xs k d).node == v) (f (get_or xs k d)) (get_or xs k d)
              (ne_eqb (get_or xs k d).node v (λ e. there (apart xs ascend k i d within below (e ∙ sym (node_there d))))))
              ∙ sym (get_or-map (station_changed_at v f) xs k d d within)
        ]

-- the node's station is found
pub found : (xs : List Station) (v i : ℕ) (st : Station) → AllPairs (λ a b. a < b) (map id_of_station xs) → i < length xs → st ≡ get_or xs i st → st.node ≡ v
    → find (is_station_of v) xs ≡ Some st
found xs v i st ascend below at is =
    by_place xs i below at (λ k less same. omega (arith, apart xs ascend k i st (omega arith) below (same ∙ sym is ∙ ap id_of_station at)))
  where
    by_place : (ys : List Station) (j : ℕ) → j < length ys → st ≡ get_or ys j st → ((k : ℕ) → k < j → (get_or ys k st).node ≡ v → ⊥)
        → find (is_station_of v) ys ≡ Some st
    by_place [] j below at before = absurd (omega arith)
    by_place (y ∷ ys) zero below at before =
        cond-true (y.node == v) (Some y) (find (is_station_of v) ys) (eq-eqb y.node v (sym (ap id_of_station at) ∙ is)) ∙ ap (λ (s : Station). Some s) (sym at)
    by_place (y ∷ ys) (suc j) below at before =
        cond-false (y.node == v) (Some y) (find (is_station_of v) ys) (ne_eqb y.node v (λ e. before 0 (omega arith) e))
        ∙ by_place ys j (omega arith) at (λ k less same. before (suc k) (omega arith) same)

-- a change keeps the node, its place and its room
pub record Keeps (f : Station → Station) : Type 0 where
  pub node : (st : Station) → (f st).node ≡ st.node
  pub place : (st : Station) → (f st).place ≡ st.place
  pub room : (st : Station) → (f st).ended.capacity ≡ st.ended.capacity

module _ (f : Station → Station) (keeps : Keeps f) (v : ℕ) where
  pub place_kept : (st : Station) → (station_changed_at v f st).place ≡ st.place
  place_kept st = cond_both (st.node == v) (f st) st (λ (s : Station). s.place ≡ st.place) (λ is. keeps.place st) (λ other. refl)

  pub room_kept : (st : Station) → (station_changed_at v f st).ended.capacity ≡ st.ended.capacity
  room_kept st = cond_both (st.node == v) (f st) st (λ (s : Station). s.ended.capacity ≡ st.ended.capacity) (λ is. keeps.room st) (λ other. refl)

  pub still_medium : (t : ℕ) (m : MediumState) → IsMedium m → IsMedium (medium_after_change t v f m)
  still_medium t m is = record {
    profile = is.profile;
    nodes = subst AreNodes (sym (nodes_stay f v keeps.node m.stations)) is.nodes;
    places =
        λ k d below. ap (λ (s : Station). s.place)
        (get_or-map (station_changed_at v f) m.stations k d d (omega (arith, length-map m.stations (station_changed_at v f))))
        ∙ place_kept (get_or m.stations k d) ∙ is.places k d (omega (arith, length-map m.stations (station_changed_at v f)));
    rooms = All-map (λ (s : Station). s.ended.capacity ≡ 13) (station_changed_at v f) m.stations
        (λ k d below. room_kept (get_or m.stations k d) ∙ is.rooms k d below);
  }

-- the nodes at first
pub one_more_station : (k : ℕ) (vs : List ℕ) (v : ℕ) → stations_from k (vs ++ v ∷ []) ≡ stations_from k vs ++ fresh v (k + length vs) ∷ []
one_more_station k [] v = ap (λ (n : ℕ). fresh v n ∷ []) (omega arith)
one_more_station k (u ∷ vs) v =
    ap (λ (l : List Station). fresh u k ∷ l) (one_more_station (k + 1) vs v ∙ ap (λ (n : ℕ). stations_from (k + 1) vs ++ fresh v n ∷ []) (omega arith))

pub stations_more : (vs : List ℕ) (i v : ℕ) → i < length vs → v ≡ get_or vs i v
    → stations_from 0 (take (i + 1) vs) ≡ stations_from 0 (take i vs) ++ fresh v i ∷ []
stations_more vs i v below at =
    ap (stations_from 0) (take_more vs i v below ∙ ap (λ (n : ℕ). take i vs ++ n ∷ []) (sym at))
    ∙ one_more_station 0 (take i vs) v
    ∙ ap (λ (n : ℕ). stations_from 0 (take i vs) ++ fresh v n ∷ []) (omega (arith, length-take-le i vs (omega arith)))

pub nodes_from : (k : ℕ) (vs : List ℕ) → map id_of_station (stations_from k vs) ≡ vs
nodes_from k [] = refl
nodes_from k (v ∷ vs) = ap (λ (l : List ℕ). v ∷ l) (nodes_from (k + 1) vs)

places_from : (k : ℕ) (vs : List ℕ) (i : ℕ) (d : Station) → i < length (stations_from k vs) → (get_or (stations_from k vs) i d).place ≡ k + i
places_from k [] i d below = absurd (omega arith)
places_from k (v ∷ vs) zero d below = omega arith
places_from k (v ∷ vs) (suc i) d below = omega (arith, places_from (k + 1) vs i d (omega arith))

rooms_from : (k : ℕ) (vs : List ℕ) (i : ℕ) (d : Station) → i < length (stations_from k vs) → (get_or (stations_from k vs) i d).ended.capacity ≡ 13
rooms_from k [] i d below = absurd (omega arith)
rooms_from k (v ∷ vs) zero d below = refl
rooms_from k (v ∷ vs) (suc i) d below = rooms_from (k + 1) vs i d (omega arith)

pub first_is_medium : (p : Numbers) (nodes : List ℕ) → IsProfile p → AreNodes nodes → IsMedium (first_state p nodes)
first_is_medium p nodes profile are = record {
  profile = profile;
  nodes = subst AreNodes (sym (nodes_from 0 nodes)) are;
  places = λ k d below. omega (arith, places_from 0 nodes k d below);
  rooms = λ k d below. rooms_from 0 nodes k d below;
}

-- a call that changes the station at a place
module _ (m : MediumState) (is : IsMedium m) (f : Station → Station) (keeps : Keeps f) (v t i : ℕ) (old new : Station) (below : i < length m.stations)
    (at : old ≡ get_or m.stations i old) (of : old.node ≡ v) (change : new ≡ f old) where
  abbrev changed : List Station → MediumState
  changed xs = record { numbers = m.numbers; now = t; stations = xs }

  pub after_is : changed (set m.stations i new) ≡ medium_after_change t v f m
  after_is = ap changed (changed_there f m.stations is.nodes.ascending v i old new below at of change)

  pub after_medium : IsMedium (changed (set m.stations i new))
  after_medium = subst IsMedium (sym after_is) (still_medium f keeps v t m is)

  pub nodes_same : nodes_of (changed (set m.stations i new)) ≡ nodes_of m
  nodes_same = ap nodes_of after_is ∙ nodes_stay f v keeps.node m.stations
