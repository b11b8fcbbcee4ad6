-- Stations are at the places that they name.
use Rattle.std.proofs.Common.{◌≡◌, ℕ, ◌<◌, List, length, get_or, sym, ◌∙◌, ap, subst, arith, All, Contains}
use Rattle.std.proofs.lemmas.List.{get_or-map, length-map}
use Rattle.radio_model.specs.Stations.{MediumState, IsMedium, id_of_station, nodes_of}
use Rattle.radio_model.specs.Marks.{ArePlaces}
use Rattle.radio_model.specs.Meetings.{IsPlaceOf}
use Rattle.radio_model.specs.declared.medium.Medium.TheInside.{Inside}
use Rattle.radio_model.specs.declared.station.Station.{Station}

pub all_placed : (m : MediumState) (nodes : List ℕ) → IsMedium m → nodes ≡ nodes_of m → All (λ (st : Station). IsPlaceOf nodes st.place st.node) m.stations
all_placed m nodes is same k d below =
    let st = get_or m.stations k d in
    let place = is.places k d below in
    record {
      below = omega (arith, ap length same, length-map m.stations id_of_station);
      there = ap (λ (l : List ℕ). get_or l st.place 0) same ∙ ap (λ (n : ℕ). get_or (nodes_of m) n 0) place ∙ get_or-map id_of_station m.stations k d 0 below;
    }

-- what a medium keeps, as its callers see it
abbrev pub seen : Inside → MediumState
seen w = record { numbers = w.profile; now = w.time; stations = w.stations.items }

-- the station at a place is that of the node
pub record StandsFor (m : MediumState) (v i : ℕ) (st : Station) : Type 0 where
  pub below : i < length m.stations
  pub at : st ≡ get_or m.stations i st
  pub node : st.node ≡ v

-- where the list of places has a node, its station is
pub found_station : (w : Inside) (m : MediumState) (told : List ℕ) (v i : ℕ) (st : Station) → seen w ≡ m → told ≡ w.places.items
    → ArePlaces (nodes_of (seen w)) w.places.items → Contains (nodes_of m) v
    → ((nodes : List ℕ) → ArePlaces nodes told → Contains nodes v → (i < length nodes) × (get_or nodes i 0 ≡ v)) → st ≡ get_or w.stations.items i st
    → StandsFor (seen w) v i st
found_station w m told v i st view same are there found at =
    let place = found (nodes_of (seen w)) (subst (ArePlaces (nodes_of (seen w))) (sym same) are)
    (subst (λ (s : MediumState). Contains (nodes_of s) v) (sym view) there) in
    let below : i < length w.stations.items = omega (arith, place.0, length-map w.stations.items id_of_station) in
    record { below = below; at = at; node = ap id_of_station at ∙ sym (get_or-map id_of_station w.stations.items i st 0 below) ∙ place.1 }
