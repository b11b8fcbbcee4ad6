-- A change of the station of one node, seen by a look at any node's.
use Rattle.std.proofs.Common.{◌≡◌, ◌≢◌, ℕ, inl, inr, List, [], ◌∷◌, map, ◌==◌, Some, find, refl, sym, ◌∙◌, ap, option_map, eq-eqb}
use Rattle.std.proofs.lemmas.Bool.{cond-true, cond-false, cases_eq, ne_eqb}
use Rattle.radio_model.specs.Stations.{MediumState, KeepsNode, id_of_station, nodes_of, is_station_of, station_of, station_changed_at, medium_after_change}
use Rattle.radio_model.specs.declared.station.Station.{Station}

module _ (f : Station → Station) (v : ℕ) where
  changed_is : (st : Station) → st.node ≡ v → station_changed_at v f st ≡ f st
  changed_is st node = cond-true (st.node == v) (f st) st (eq-eqb st.node v node)

  unchanged_is : (st : Station) → st.node ≢ v → station_changed_at v f st ≡ st
  unchanged_is st other = cond-false (st.node == v) (f st) st (ne_eqb st.node v other)

  found_at : (xs : List Station) (w : ℕ) (st : Station) → st.node ≡ w → find (is_station_of w) (st ∷ xs) ≡ Some st
  found_at xs w st node = cond-true (st.node == w) (Some st) (find (is_station_of w) xs) (eq-eqb st.node w node)

  found_behind : (xs : List Station) (w : ℕ) (st : Station) → st.node ≢ w → find (is_station_of w) (st ∷ xs) ≡ find (is_station_of w) xs
  found_behind xs w st other = cond-false (st.node == w) (Some st) (find (is_station_of w) xs) (ne_eqb st.node w other)

  module _ (keeps : KeepsNode f) where
    pub node_stays : (st : Station) → (station_changed_at v f st).node ≡ st.node
    node_stays st =
        elim (cases_eq st.node v) [ inl node ↦ ap id_of_station (changed_is st node) ∙ keeps st | inr other ↦ ap id_of_station (unchanged_is st other) ]

    pub nodes_stay : (xs : List Station) → map id_of_station (map (station_changed_at v f) xs) ≡ map id_of_station xs
    nodes_stay [] = refl
    nodes_stay (st ∷ xs) =
        ap (λ (n : ℕ). n ∷ map id_of_station (map (station_changed_at v f) xs)) (node_stays st) ∙ ap (λ (l : List ℕ). st.node ∷ l) (nodes_stay xs)

    -- of any node: what is found, changed
    found_changed : (xs : List Station) (w : ℕ)
        → find (is_station_of w) (map (station_changed_at v f) xs) ≡ option_map (station_changed_at v f) (find (is_station_of w) xs)
    found_changed [] w = refl
    found_changed (st ∷ xs) w =
        elim (cases_eq st.node w) [
          | inl node ↦
              found_at (map (station_changed_at v f) xs) w (station_changed_at v f st) (node_stays st ∙ node)
              ∙ ap (option_map (station_changed_at v f)) (sym (found_at xs w st node))
          | inr other ↦
              found_behind (map (station_changed_at v f) xs) w (station_changed_at v f st) (λ same. other (sym (node_stays st) ∙ same))
              ∙ found_changed xs w ∙ ap (option_map (station_changed_at v f)) (sym (found_behind xs w st other))
        ]

  -- of the node itself it is the change, of another nothing
  as_change : (xs : List Station) → option_map (station_changed_at v f) (find (is_station_of v) xs) ≡ option_map f (find (is_station_of v) xs)
  as_change [] = refl
  as_change (st ∷ xs) =
      elim (cases_eq st.node v) [
        | inl node ↦ ap (option_map (station_changed_at v f)) (found_at xs v st node) ∙ ap (λ (s : Station). Some s) (changed_is st node)
            ∙ ap (option_map f) (sym (found_at xs v st node))
        | inr other ↦ ap (option_map (station_changed_at v f)) (found_behind xs v st other) ∙ as_change xs
            ∙ ap (option_map f) (sym (found_behind xs v st other))
      ]

  as_none : (xs : List Station) (w : ℕ) → w ≢ v → option_map (station_changed_at v f) (find (is_station_of w) xs) ≡ find (is_station_of w) xs
  as_none [] w apart = refl
  as_none (st ∷ xs) w apart =
      elim (cases_eq st.node w) [
        | inl node ↦ ap (option_map (station_changed_at v f)) (found_at xs w st node)
            ∙ ap (λ (s : Station). Some s) (unchanged_is st (λ same. apart (sym node ∙ same))) ∙ sym (found_at xs w st node)
        | inr other ↦ ap (option_map (station_changed_at v f)) (found_behind xs w st other) ∙ as_none xs w apart ∙ sym (found_behind xs w st other)
      ]

pub same_nodes : (m : MediumState) (t v : ℕ) (f : Station → Station) → KeepsNode f → nodes_of (medium_after_change t v f m) ≡ nodes_of m
same_nodes m t v f keeps = nodes_stay f v keeps m.stations

pub changed_station : (m : MediumState) (t v : ℕ) (f : Station → Station) → KeepsNode f
    → station_of (medium_after_change t v f m) v ≡ option_map f (station_of m v)
changed_station m t v f keeps = found_changed f v keeps m.stations v ∙ as_change f v m.stations

pub other_station : (m : MediumState) (t v : ℕ) (f : Station → Station) → KeepsNode f → (w : ℕ) → w ≢ v
    → station_of (medium_after_change t v f m) w ≡ station_of m w
other_station m t v f keeps w apart = found_changed f v keeps m.stations w ∙ as_none f v m.stations w apart
