use Rattle.std.proofs.Common.{◌≡◌, ℕ, ◌≤◌, ◌^◌, inl, inr, ◌∙◌, ap, map, subst, sym, All, List, get_or, length, replicate, arith}
use Rattle.lwb_base.specs.Profile.{Numbers, IsProfile}
use Rattle.radio_model.specs.Stations.{IsMedium, id_of_station}
use Rattle.radio_model.specs.declared.station.Station.{Station}
use Rattle.radio_model.specs.Holding.{Holds, nothing_yet}
use Rattle.radio_model.proofs.AtFirst.{holds_at_first}
use Rattle.radio_model.specs.Ages.{IsAged}
use Rattle.radio_model.proofs.EndedSendings.{aged_first}
use Rattle.radio_model.proofs.Places.{first_is_medium, nodes_from}
use Rattle.radio_model.specs.Marks.{AreMarks, AreAlike, ArePlaces}
use Rattle.radio_model.proofs.Origins.{alike_first}
use Rattle.radio_model.proofs.Marked.{marks_first}
use Rattle.std.proofs.lemmas.List.{get_or-replicate}
use Rattle.radio_model.specs.Recent.{AreRecent, no_recent}
use Rattle.radio_model.specs.declared.mark.Mark.{Mark}
use Rattle.radio_model.proofs.RecentPlaces.{recent_first}
use Rattle.radio_model.proofs.medium.Medium.new.Goals as goal

small_delta : (p : Numbers) (delta : ℕ) → delta ≡ p.delta → IsProfile p → delta ≤ 2 ^ 32
small_delta p delta is (inl one) = omega (arith, is, ap (λ (q : Numbers). q.delta) one)
small_delta p delta is (inr two) = omega (arith, is, ap (λ (q : Numbers). q.delta) two.0)

pub invariant_of-result : goal.invariant_of-result
invariant_of-result c = (
  subst (λ (xs : List Station). IsMedium (record { numbers = c.args.profile.now; now = 0; stations = xs })) (sym c.in_ok-stations.ensures)
      (first_is_medium c.args.profile.now c.args.nodes.now c.delta-delta.ensures.made c.requires),
  subst (λ (l : List ℕ). ArePlaces l c.in_ok-places.places.items)
      (sym (ap (map id_of_station) c.in_ok-stations.ensures ∙ nodes_from 0 c.args.nodes.now)) c.in_ok-places.ensures,
  subst (λ (xs : List Station). AreMarks xs c.in_ok-marks.marks.items) (sym c.in_ok-stations.ensures)
      (marks_first c.args.nodes.now c.in_ok-marks.marks.items (omega (arith, c.in_ok-marks.ensures.len)) (λ k e below.
      let all : c.in_ok-marks.marks.items ≡ replicate (length c.args.nodes.now) c.none.result = c.in_ok-marks.ensures.items_if_clones_equal (λ y is. is) in
      omega (
        arith,
        ap (λ (mk : Mark). mk.end)
            (ap (λ (l : List Mark). get_or l k e) all ∙ get_or-replicate (length c.args.nodes.now) k c.none.result e below ∙ c.none.ensures),
      ))),
  subst (λ (xs : List Station). AreAlike 0 xs c.in_ok-marks.marks.items) (sym c.in_ok-stations.ensures)
      (alike_first c.args.nodes.now c.in_ok-marks.marks.items),
  (c.delta-delta.ensures.value, small_delta c.args.profile.now c.delta-delta.result c.delta-delta.ensures.value c.delta-delta.ensures.made),
  subst (λ (xs : List Station). All (λ (st : Station). IsAged 0 st.ended.items) xs) (sym c.in_ok-stations.ensures) (aged_first 0 c.args.nodes.now),
  subst (AreRecent 0 c.in_ok-stations.stations.items c.in_ok-marks.marks.items) (sym c.none-2.ensures)
      (subst (λ (xs : List Station). AreRecent 0 xs c.in_ok-marks.marks.items no_recent) (sym c.in_ok-stations.ensures)
      (recent_first c.args.nodes.now c.in_ok-marks.marks.items (λ k e below.
      let all : c.in_ok-marks.marks.items ≡ replicate (length c.args.nodes.now) c.none.result = c.in_ok-marks.ensures.items_if_clones_equal (λ y is. is) in
      omega (
        arith,
        ap (λ (mk : Mark). mk.end)
            (ap (λ (l : List Mark). get_or l k e) all ∙ get_or-replicate (length c.args.nodes.now) k c.none.result e below ∙ c.none.ensures),
      )))),
)

pub returns-clause-holds : goal.returns-clause-holds
returns-clause-holds c =
    λ lines.
    subst (λ (xs : List Station). Holds (record { numbers = c.args.profile.now; now = 0; stations = xs }) (nothing_yet c.args.profile.now lines))
    (sym c.in_ok-stations.ensures)
    (holds_at_first c.args.profile.now c.args.nodes.now c.delta-delta.ensures.made c.requires lines)
