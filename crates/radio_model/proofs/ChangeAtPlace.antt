-- A call that leaves what the station of a node has on the air leaves what the medium keeps about it.
use Rattle.std.proofs.Common.{◌≡◌, ℕ, ◌≤◌, ◌^◌, List, Some, get_or, set, sym, ◌∙◌, ap, subst, All}
use Rattle.radio_model.specs.Ages.{IsAged}
use Rattle.radio_model.specs.Marks.{IsMark, IsNewest, AreMarks, AreAlike, ArePlaces}
use Rattle.radio_model.specs.Recent.{AreRecent}
use Rattle.radio_model.specs.Stations.{MediumState, IsMedium, nodes_of, on_air, medium_after_change}
use Rattle.radio_model.specs.declared.mark.Mark.{Mark}
use Rattle.radio_model.specs.declared.medium.Medium.TheInside.{Inside}
use Rattle.radio_model.specs.declared.sending.Sending.{Sending}
use Rattle.radio_model.specs.declared.station.Station.{Station}
use Rattle.radio_model.proofs.Marked.{marks_stay}
use Rattle.radio_model.proofs.Origins.{alike_kept}
use Rattle.radio_model.proofs.PlacedStations.{StandsFor, seen}
use Rattle.radio_model.proofs.Places.{Keeps, after_is, after_medium, nodes_same}
use Rattle.radio_model.proofs.RecentPlaces.{recent_stay}

-- the mark and the newest transmission stay, and none is begun
pub record StaysOnAir (old new : Station) : Type 0 where
  pub marked : (e : Mark) → IsMark (on_air old) e → IsMark (on_air new) e
  pub newest : (y : Sending) → IsNewest (on_air new) y → IsNewest (on_air old) y
  pub back : (y : Sending) → IsNewest (on_air old) y → IsNewest (on_air new) y
  pub runs : (x : Sending) → new.sending ≡ Some x → old.sending ≡ Some x

-- the change of the station of node v
module _ (w : Inside) (is : IsMedium (seen w)) (f : Station → Station) (keeps : Keeps f) (v t i : ℕ) (old new : Station) (at : StandsFor (seen w) v i old)
    (change : new ≡ f old) where
  abbrev m : MediumState
  m = seen w

  abbrev changed : MediumState
  changed = record { numbers = m.numbers; now = t; stations = set m.stations i new }

  pub state_after : (s : MediumState) → seen w ≡ s → changed ≡ medium_after_change t v f s
  state_after s view = after_is m is f keeps v t i old new at.below at.at at.node change ∙ ap (medium_after_change t v f) view

  pub still_placed : ArePlaces (nodes_of m) w.places.items → ArePlaces (nodes_of changed) w.places.items
  still_placed = subst (λ (l : List ℕ). ArePlaces l w.places.items) (sym (nodes_same m is f keeps v t i old new at.below at.at at.node change))

  pub still_a_medium : IsMedium changed
  still_a_medium = after_medium m is f keeps v t i old new at.below at.at at.node change

  -- what is kept stays so
  pub all_kept : ArePlaces (nodes_of m) w.places.items × AreMarks m.stations w.marks.items × AreAlike m.now m.stations w.marks.items
      × ((w.delta ≡ w.profile.delta) × (w.delta ≤ 2 ^ 32)) × AreRecent m.now m.stations w.marks.items w.recent → m.now ≤ t → StaysOnAir old (f old)
      → All (λ (st : Station). IsAged t st.ended.items) changed.stations
      → IsMedium changed × ArePlaces (nodes_of changed) w.places.items × AreMarks changed.stations w.marks.items × AreAlike t changed.stations w.marks.items
      × ((w.delta ≡ w.profile.delta) × (w.delta ≤ 2 ^ 32)) × All (λ (st : Station). IsAged t st.ended.items) changed.stations
      × AreRecent t changed.stations w.marks.items w.recent
  all_kept (placed, marks, alike, delta, recent) later stays aged = (
    still_a_medium,
    still_placed placed,
    marks_stay m.stations w.marks.items i new marks (λ e.
        subst (λ (st : Station). IsMark (on_air st) (get_or w.marks.items i e)) (sym change)
        (stays.marked (get_or w.marks.items i e)
        (subst (λ (st : Station). IsMark (on_air st) (get_or w.marks.items i e)) (sym at.at) (marks.each i old e at.below)))),
    alike_kept m.now t m.stations w.marks.items i old new at.below at.at (ap (λ (s : Station). s.node) change ∙ keeps.node old)
        (λ y newest. stays.newest y (subst (λ (st : Station). IsNewest (on_air st) y) change newest))
        (λ y newest. subst (λ (st : Station). IsNewest (on_air st) y) (sym change) (stays.back y newest)) later alike,
    delta,
    aged,
    recent_stay m.now t m.stations w.marks.items w.recent i old new at.below at.at
        (λ x runs. stays.runs x (sym (ap (λ (s : Station). s.sending) change) ∙ runs)) later recent,
  )
