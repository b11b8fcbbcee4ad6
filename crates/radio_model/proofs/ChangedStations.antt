-- What the medium keeps of a node, after a change at one.
use Rattle.std.proofs.Common.{◌≡◌, ◌≢◌, ℕ, List, [], ◌∷◌, find, Option, Some, ◌==◌, ◌∙◌, sym, ap, eq-eqb, inl, inr, option_map}
use Rattle.std.proofs.lemmas.Bool.{cond-true, cond-false, ne_eqb, cases_eq}
use Rattle.radio_model.specs.declared.station.Station.{Station}
use Rattle.radio_model.specs.Stations.{MediumState, station_of, is_station_of, medium_after_change}
use Rattle.radio_model.proofs.Places.{Keeps}
use Rattle.radio_model.proofs.OneStation.{changed_station, other_station}

pub node_of_station : (xs : List Station) (u : ℕ) (st : Station) → find (is_station_of u) xs ≡ Some st → st.node ≡ u
node_of_station [] u st at = cc
node_of_station (s ∷ xs) u st at =
    elim (cases_eq s.node u) [
      | inl is ↦ let here : Some s ≡ Some st =
          sym (cond-true (s.node == u) (Some s) (find (is_station_of u) xs) (eq-eqb s.node u is)) ∙ at in sym (some_node here) ∙ is
      | inr not ↦ node_of_station xs u st (sym (cond-false (s.node == u) (Some s) (find (is_station_of u) xs) (ne_eqb s.node u not)) ∙ at)
    ]
  where
    some_node : {x y : Station} → (let o : Option Station = Some x in o ≡ Some y) → x.node ≡ y.node
    some_node is = cc

module _ (f : Station → Station) (keeps : Keeps f) (v : ℕ) (m : MediumState) (t : ℕ) where
  -- that of the node is changed
  pub station_changed : (st : Station) → station_of m v ≡ Some st → station_of (medium_after_change t v f m) v ≡ Some (f st)
  station_changed st at = changed_station m t v f keeps.node ∙ ap (option_map f) at

  -- that of another is not
  pub station_other : (u : ℕ) (st : Station) → u ≢ v → station_of m u ≡ Some st → station_of (medium_after_change t v f m) u ≡ Some st
  station_other u st not at = other_station m t v f keeps.node u not ∙ at
