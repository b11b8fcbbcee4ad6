-- What the medium holds, before and after a call that changes the station of one node.
use Rattle.std.proofs.Common.{◌≡◌, ◌≢◌, ℕ, ◌<◌, ◌≤◌, ◌↔◌, List, map, true, ◌==◌, Some, find, refl, sym, ◌∙◌, ap, subst, arith, Contains, AllPairs}
use Rattle.std.proofs.lemmas.Bool.{cond_both, eqb-true, eqb-false, eq-eqb, cond-true}
use Rattle.radio_model.specs.OnAir.{Sending, Tuning}
use Rattle.radio_model.specs.Hearing.{Scene}
use Rattle.radio_model.specs.Stations.{MediumState, IsMedium, id_of_station, is_station_of, on_air, covers, station_changed_at, medium_after_change}
use Rattle.radio_model.specs.Holding.{Holds, IsKept, TunedFrom, as_it_stands}
use Rattle.radio_model.specs.declared.station.Station.{Station}
use Rattle.lwb_base.proofs.Elements.{map_contains, map_from}
use Rattle.radio_model.proofs.Places.{found, Keeps, still_medium}
use Rattle.radio_model.proofs.Tunings.{Tells}
use Rattle.radio_model.proofs.Scenes.{Lit, stands}

-- the node's station is the one that is found
pub found_member : (xs : List Station) (st : Station) → AllPairs (λ a b. a < b) (map id_of_station xs) → Contains xs st
    → find (is_station_of st.node) xs ≡ Some st
found_member xs st ascend (k, below, at) = found xs st.node k st ascend below (sym at) refl

-- the scene has the same tunings
pub lit_moves : (a b : Scene) (v c k : ℕ) → a.tunings ≡ b.tunings → Lit a v c k → Lit b v c k
lit_moves a b v c k same is = record {
  tuning = is.tuning;
  there = subst (λ (l : List Tuning). Contains l is.tuning) same is.there;
  node = is.node;
  rank = is.rank;
  since = is.since;
  until = is.until;
}

-- what the scene says of a station's tunings, with and without those that last
module _ (m : MediumState) (a : Scene) (ascend : AllPairs (λ a b. a < b) (map id_of_station m.stations)) (st : Station) (there : Contains m.stations st) where
  abbrev pub Tuned_right : ℕ → Type 0
  Tuned_right now = (channel start t : ℕ) → now ≤ t → start < t → TunedFrom (as_it_stands m t a) st.node channel start t ↔ (covers st channel start t ≡ true)

  pub tells_by : (now : ℕ) → Tuned_right now → Tells (Lit a st.node) st.tuning.now st.tuning.last now
  tells_by now right c s t later early = (
    λ all. (right c s t later early).0 (λ k low high. (stands m a st t c k ascend there high).1 (all k low high)),
    λ is k low high. (stands m a st t c k ascend there high).0 ((right c s t later early).1 is k low high),
  )

  pub right_by : (now : ℕ) → Tells (Lit a st.node) st.tuning.now st.tuning.last now → Tuned_right now
  right_by now tells c s t later early = (
    λ all. (tells c s t later early).0 (λ k low high. (stands m a st t c k ascend there high).0 (all k low high)),
    λ is k low high. (stands m a st t c k ascend there high).1 ((tells c s t later early).1 is k low high),
  )

pub past_lit : (m : MediumState) (a : Scene) → Holds m a → (v c k : ℕ) → Lit a v c k → k < m.now
past_lit m a h v c k is = let until = is.until in let past = h.past is.tuning is.there in omega arith

-- a call at t that changes the station of v
module _ (m : MediumState) (is : IsMedium m) (f : Station → Station) (keeps : Keeps f) (v t : ℕ) where
  abbrev pub changed : MediumState
  changed = medium_after_change t v f m

  pub ascend_after : AllPairs (λ a b. a < b) (map id_of_station changed.stations)
  ascend_after = (still_medium f keeps v t m is).nodes.ascending

  -- each station was one before
  pub was : (st : Station) → Contains changed.stations st → (s : Station) × Contains m.stations s × (station_changed_at v f s ≡ st)
  was st there = map_from (station_changed_at v f) m.stations st there

  pub is_there : (st : Station) → Contains m.stations st → Contains changed.stations (station_changed_at v f st)
  is_there st there = map_contains (station_changed_at v f) m.stations st there

  -- what is true of the changed one and of all others is true of each
  pub each_after : (P : Station → Type 0) → ((st : Station) → Contains m.stations st → st.node ≡ v → P (f st))
      → ((st : Station) → Contains m.stations st → st.node ≢ v → P st) → (st : Station) → Contains changed.stations st → P st
  each_after P here there st in_it =
      let w = was st in_it in
      subst P w.2
      (cond_both (w.0.node == v) (f w.0) w.0 P (λ same. here w.0 w.1 (eqb-true w.0.node v same)) (λ other. there w.0 w.1 (eqb-false w.0.node v other)))

  pub at_v : (st : Station) → st.node ≡ v → station_changed_at v f st ≡ f st
  at_v st same = cond-true (st.node == v) (f st) st (eq-eqb st.node v same)

  -- where the change leaves all that is on the air
  module _ (same_air : (st : Station) → on_air (f st) ≡ on_air st) where
    air_same : (st : Station) → on_air (station_changed_at v f st) ≡ on_air st
    air_same st = cond_both (st.node == v) (f st) st (λ (s : Station). on_air s ≡ on_air st) (λ _. same_air st) (λ _. refl)

    pub kept_on : (y : Sending) → IsKept m y → IsKept changed y
    kept_on y kept = record {
      station = station_changed_at v f kept.station;
      there = is_there kept.station kept.there;
      kept = subst (λ (l : List Sending). Contains l y) (sym (air_same kept.station)) kept.kept;
    }

    pub kept_back : (y : Sending) → IsKept changed y → IsKept m y
    kept_back y kept =
        let w = was kept.station kept.there in
        record { station = w.0; there = w.1; kept = subst (λ (l : List Sending). Contains l y) (ap on_air (sym w.2) ∙ air_same w.0) kept.kept }
