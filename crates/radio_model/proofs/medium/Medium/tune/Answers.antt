use Rattle.std.proofs.Common.{◌≡◌, ap, ◌∙◌, ◌≤◌, List, Option, subst, sym}
use Rattle.radio_model.specs.Stations.{MediumState, IsMedium, station_of, station_after_tuning, tuning_at, over_after}
use Rattle.radio_model.specs.Holding.{Holds, after_tuning}
use Rattle.radio_model.specs.Marks.{IsMark, IsNewest}
use Rattle.radio_model.specs.declared.sending.Sending.{Sending}
use Rattle.radio_model.specs.declared.station.Station.{Station}
use Rattle.radio_model.specs.declared.tuning.RadioTuning.{RadioTuning}
use Rattle.radio_model.proofs.AfterTuning.{holds_after_tuning}
use Rattle.radio_model.proofs.ChangeAtPlace.{all_kept, state_after}
use Rattle.radio_model.proofs.Changes.{retuned_keeps}
use Rattle.radio_model.proofs.EndedSendings.{aged_same, retuned_ended}
use Rattle.radio_model.proofs.Marked.{retuned_on_air}
use Rattle.radio_model.proofs.Places.{found}
use Rattle.radio_model.proofs.PlacedStations.{StandsFor, found_station, seen}
use Rattle.radio_model.proofs.TunedStations.{sends_still}
use Rattle.radio_model.proofs.medium.Medium.tune.Goals as goal
use Rattle.radio_model.proofs.medium.Medium.tune.Goals.{After-index_mut-station, After-tune-over}

station : (c : After-index_mut-station) → StandsFor (seen c.self.inside) c.args.node c.place_of-place.result c.index_mut-station.result.now
station c =
    found_station c.self.inside c.args.self.now c.deref.result.now c.args.node c.place_of-place.result c.index_mut-station.result.now c.self.view_is
    c.deref.ensures.value c.self.invariant.1 c.requires.node c.place_of-place.ensures c.index_mut-station.ensures.value

-- the station with its new tuning
abbrev tuned : (c : After-tune-over) → Station
tuned c = record (c.index_mut-station.result.now) { tuning = c.tune-over.new.self }

tuned_is : (c : After-tune-over) → tuned c ≡ station_after_tuning c.args.rank c.args.t c.index_mut-station.result.now
tuned_is c = ap (λ (x : RadioTuning). record (c.index_mut-station.result.now) { tuning = x }) c.tune-over.ensures.after

pub invariant_of-self : goal.invariant_of-self
invariant_of-self c =
    let m = seen c.self.inside in
    let i = c.place_of-place.result in
    let old = c.index_mut-station.result.now in
    let back = goal.at.invariant_of-self c in
    let at = station back.After-index_mut-station in
    let new = tuned back.After-tune-over in
    let is_new = tuned_is back.After-tune-over in
    let later : m.now ≤ c.args.t = subst (λ (s : MediumState). s.now ≤ c.args.t) (sym c.self.view_is) c.requires.time.later in
    let same = retuned_on_air c.args.rank c.args.t old in
    all_kept c.self.inside c.self.invariant.0 (station_after_tuning c.args.rank c.args.t) (retuned_keeps c.args.rank c.args.t) c.args.node c.args.t i old
    new at is_new
    (c.self.invariant.1, c.self.invariant.2, c.self.invariant.3, c.self.invariant.4, c.self.invariant.6) later
    (record {
      marked = λ e. subst (λ (l : List Sending). IsMark l e) (sym same);
      newest = λ y. subst (λ (l : List Sending). IsNewest l y) same;
      back = λ y. subst (λ (l : List Sending). IsNewest l y) (sym same);
      runs = λ x runs. sym (sends_still c.args.rank c.args.t old) ∙ runs;
    })
    (aged_same m.now c.args.t i m.stations old new later c.self.invariant.5 at.below at.at
    (ap (λ (s : Station). s.ended) is_new ∙ retuned_ended c.args.rank c.args.t old))

pub returns-clause-state : goal.returns-clause-state
returns-clause-state c =
    let back = goal.at.returns-clause-state c in
    state_after c.self.inside c.self.invariant.0 (station_after_tuning c.args.rank c.args.t) (retuned_keeps c.args.rank c.args.t) c.args.node c.args.t
    c.place_of-place.result c.index_mut-station.result.now (tuned back.After-tune-over) (station back.After-index_mut-station)
    (tuned_is back.After-tune-over) c.args.self.now c.self.view_is

pub returns-clause-holds : goal.returns-clause-holds
returns-clause-holds c =
    λ a h.
    let m = c.args.self.now in
    let is : IsMedium m = subst IsMedium c.self.view_is c.self.invariant.0 in
    subst (λ (s : MediumState). Holds s (after_tuning m c.args.node c.args.rank c.args.t a)) (sym (returns-clause-state c))
    (holds_after_tuning m is a h c.args.node c.args.rank c.args.t c.requires.time.later)

pub returns-clause-over : goal.returns-clause-over
returns-clause-over c =
    let at = station (goal.at.returns-clause-over c).After-index_mut-station in
    let same = found c.self.inside.stations.items c.args.node c.place_of-place.result c.index_mut-station.result.now c.self.invariant.0.nodes.ascending
    at.below at.at at.node in
    c.tune-over.ensures.over ∙ ap (λ (o : Option Station). over_after c.args.rank c.args.t (tuning_at o)) (sym same)
    ∙ ap (λ (s : MediumState). over_after c.args.rank c.args.t (tuning_at (station_of s c.args.node))) c.self.view_is
