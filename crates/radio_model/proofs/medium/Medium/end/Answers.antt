use Rattle.std.proofs.Common.{◌≡◌, ◌∙◌, ◌≤◌, Option, Some, None, ap, subst, sym}
use Rattle.radio_model.specs.Stations.{MediumState, station_after_end, Ends}
use Rattle.radio_model.specs.declared.sending.Sending.{Sending}
use Rattle.radio_model.specs.declared.station.Station.{Station}
use Rattle.radio_model.proofs.ChangeAtPlace.{all_kept, state_after}
use Rattle.radio_model.proofs.PlacedStations.{StandsFor, found_station, seen}
use Rattle.radio_model.specs.Holding.{Holds}
use Rattle.radio_model.proofs.AfterEnding.{holds_after_ending}
use Rattle.radio_model.proofs.Named.{names_who_hears, names_one_sender, names_in_order}
use Rattle.radio_model.proofs.SendingAtPlace.{aged_after_ending}
use Rattle.radio_model.proofs.Marked.{mark_finished}
use Rattle.radio_model.proofs.Origins.{newest_finished, newest_unfinished}
use Rattle.radio_model.proofs.Changes.{finished_keeps}
use Rattle.radio_model.proofs.medium.Medium.end.Given.{Over}
use Rattle.radio_model.proofs.medium.Medium.end.Goals as goal
use Rattle.radio_model.proofs.medium.Medium.end.Goals.{After-index_mut-station}

none_runs : (x : Sending) → (let o : Option Sending = None in o ≡ Some x) → ⊥
none_runs x is = cc

station : (g : Over) (c : After-index_mut-station g) → StandsFor (seen c.self.inside) c.args.node c.place_of-place.result c.index_mut-station.result.now
station g c =
    found_station c.self.inside c.args.self.now c.deref.result.now c.args.node c.place_of-place.result c.index_mut-station.result.now c.self.view_is
    c.deref.ensures.value c.self.invariant.1 c.requires.node c.place_of-place.ensures c.index_mut-station.ensures.value

pub invariant_of-self : goal.invariant_of-self
invariant_of-self g c =
    let m = seen c.self.inside in
    let i = c.place_of-place.result in
    let old = c.index_mut-station.result.now in
    let at = station g (goal.at.invariant_of-self g c).After-index_mut-station in
    let later : m.now ≤ c.args.t = subst (λ (s : MediumState). s.now ≤ c.args.t) (sym c.self.view_is) c.requires.time.later in
    let ends : Ends m c.args.node c.args.t = subst (λ (s : MediumState). Ends s c.args.node c.args.t) (sym c.self.view_is) c.requires.sends in
    let room : old.ended.capacity ≡ 13 = ap (λ (st : Station). st.ended.capacity) at.at ∙ c.self.invariant.0.rooms i old at.below in
    all_kept c.self.inside c.self.invariant.0 station_after_end finished_keeps c.args.node c.args.t i old c.finish.new.self at c.finish.ensures
    (c.self.invariant.1, c.self.invariant.2, c.self.invariant.3, c.self.invariant.4, c.self.invariant.6) later
    (record {
      marked = λ e. mark_finished old e room;
      newest = newest_finished old room;
      back = newest_unfinished old room;
      runs = λ x runs. absurd (none_runs x runs);
    })
    (aged_after_ending m c.self.invariant.0 c.args.node i c.args.t old c.finish.new.self at.below at.at at.node later ends c.self.invariant.5 c.finish.ensures)

pub returns-clause-state : goal.returns-clause-state
returns-clause-state g c =
    state_after c.self.inside c.self.invariant.0 station_after_end finished_keeps c.args.node c.args.t c.place_of-place.result
    c.index_mut-station.result.now c.finish.new.self (station g (goal.at.returns-clause-state g c).After-index_mut-station) c.finish.ensures
    c.args.self.now c.self.view_is

pub returns-clause-hearers : goal.returns-clause-hearers
returns-clause-hearers g c =
    names_who_hears c.args.self.now c.hearers-hearers.ensures.kept c.args.node c.args.t c.requires.sends
    (g.M.Links.lines c.args.links.now) c.hearers-hearers.result c.hearers-hearers.ensures.list
    c.requires.node c.requires.time.later

pub returns-clause-sender : goal.returns-clause-sender
returns-clause-sender g c =
    names_one_sender c.args.self.now c.hearers-hearers.ensures.kept c.args.node c.args.t c.requires.sends
    (g.M.Links.lines c.args.links.now) c.hearers-hearers.result c.hearers-hearers.ensures.list

pub returns-clause-ascending : goal.returns-clause-ascending
returns-clause-ascending g c =
    names_in_order c.args.self.now c.hearers-hearers.ensures.kept c.args.node c.args.t c.requires.sends
    (g.M.Links.lines c.args.links.now) c.hearers-hearers.result c.hearers-hearers.ensures.list

pub returns-clause-holds : goal.returns-clause-holds
returns-clause-holds g c =
    λ a h.
    subst (λ (s : MediumState). Holds s a) (sym (returns-clause-state g c))
    (holds_after_ending c.args.self.now c.hearers-hearers.ensures.kept a h c.args.node c.args.t c.requires.time.later c.requires.sends)
