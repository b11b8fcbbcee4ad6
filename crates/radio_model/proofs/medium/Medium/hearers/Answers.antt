use Rattle.std.proofs.Common.{List, ◌≡◌, ◌+◌, ◌≤◌, ◌^◌, ◌∙◌, ℕ, Some, None, Option, All, ap, subst, sym, arith, IfSome}
use Rattle.std.proofs.lemmas.List.{length-map}
use Rattle.std.specs.Int.{bit_at}
use Rattle.radio_model.specs.Ages.{IsAged}
use Rattle.radio_model.specs.Stations.{MediumState, nodes_of, station_of, sending_of_station, Ends}
use Rattle.radio_model.specs.Meetings.{hearers_to, IsPlaceOf}
use Rattle.radio_model.specs.declared.sending.Sending.{Sending}
use Rattle.radio_model.specs.declared.station.Station.{Station}
use Rattle.radio_model.proofs.Origins.{alike_to}
use Rattle.radio_model.specs.Stations.{id_of_station}
use Rattle.radio_model.proofs.PlacedStations.{StandsFor, all_placed, found_station, seen}
use Rattle.radio_model.proofs.NextToEnding.{among_recent, busy_recent, close_recent}
use Rattle.radio_model.proofs.SendingAtPlace.{runs_there, times_there, hearers_there}
use Rattle.radio_model.proofs.medium.Medium.hearers.Given.{Over}
use Rattle.radio_model.proofs.medium.Medium.hearers.Goals as goal
use Rattle.radio_model.proofs.medium.Medium.hearers.Goals.{After-index-from}

none_sent : (x : Sending) → (let o : Option Sending = None in o ≡ Some x) → ⊥
none_sent x is = cc

station : (g : Over) (c : After-index-from g) → StandsFor (seen c.self.inside) c.args.node c.place_of-place.result c.index-from.result.now
station g c =
    found_station c.self.inside c.args.self.now c.deref.result.now c.args.node c.place_of-place.result c.index-from.result.now c.self.view_is
    c.deref.ensures.value c.self.invariant.1 c.requires.node c.place_of-place.ensures c.index-from.ensures

ends : (g : Over) (c : After-index-from g) → Ends (seen c.self.inside) c.args.node c.args.t
ends g c = subst (λ (s : MediumState). Ends s c.args.node c.args.t) (sym c.self.view_is) c.requires.sends

sealed : (g : Over) (c : After-index-from g) → g.M.Links.nodes c.args.links.now ≡ nodes_of (seen c.self.inside)
sealed g c = c.requires.seal ∙ ap nodes_of (sym c.self.view_is)

times : (g : Over) (c : After-index-from g) (x : Sending) → c.index-from.result.now.sending ≡ Some x
    → (x.start ≤ 2 ^ 46) × (x.end ≤ 2 ^ 46) × All (λ (s : Station). IsAged x.end s.ended.items) c.self.inside.stations.items
times g c x is =
    let at = station g c in
    times_there (seen c.self.inside) c.self.invariant.0 c.args.node c.place_of-place.result c.index-from.result.now at.below at.at at.node c.args.t (ends g c)
    c.requires.small (subst (λ (s : MediumState). s.now ≤ c.args.t) (sym c.self.view_is) c.requires.later) c.self.invariant.5 x is

pub unreachable-requires : goal.unreachable-requires
unreachable-requires g c =
    let back = (goal.at.unreachable-requires g c).After-index-from in
    let at = station g back in
    none_sent (ends g back).sending (sym c.in_default.is ∙ runs_there (seen c.self.inside) c.self.invariant.0 c.args.node c.place_of-place.result
    c.index-from.result.now at.below at.at at.node c.args.t (ends g back))

pub of-requires : goal.of-requires
of-requires g c = (times g (goal.at.of-requires g c).After-index-from c.in-Some.x c.in-Some.is).0

pub listeners-requires-clause-ending : goal.listeners-requires-clause-ending
listeners-requires-clause-ending g c =
    let back = (goal.at.listeners-requires-clause-ending g c).After-index-from in
    let m = seen c.self.inside in
    let at = station g back in
    let small = times g back c.in-Some.x c.in-Some.is in
    rw (c.deref-2.ensures.value, c.deref-3.ensures.value)
    (record {
      start = small.0;
      end = small.1;
      key = c.of.ensures;
      opens = c.frame_start-opens.ensures;
      delta = c.self.invariant.4;
      few = omega (arith, c.self.invariant.0.nodes.few, length-map m.stations id_of_station);
      seal = sealed g back;
      placed = all_placed m (g.M.Links.nodes c.args.links.now) c.self.invariant.0 (sealed g back);
      in_order = c.self.invariant.0.places;
      aged = small.2;
      marks = c.self.invariant.2;
      alike = alike_to m.now m.stations c.self.inside.marks.items c.place_of-place.result c.index-from.result.now c.index.result.now c.in-Some.x
          c.self.invariant.3 (record { below = at.below; station = sym c.index-from.ensures; mark = sym c.index.ensures }) c.in-Some.is;
      among = among_recent m.numbers m.now m.stations c.self.inside.marks.items c.self.inside.recent c.self.invariant.2 c.self.invariant.6
          c.place_of-place.result c.index-from.result.now c.in-Some.x at.below (ap (λ (s : Station). s.sending) (sym at.at) ∙ c.in-Some.is);
      busy = λ k d below one. busy_recent m.now m.stations c.self.inside.marks.items c.self.inside.recent c.self.invariant.2 c.self.invariant.6 c.in-Some.x k d
          (ap (λ (n : ℕ). bit_at n k) (sym c.busy.ensures) ∙ one);
      close_by = λ so. close_recent m.now m.stations c.self.inside.marks.items c.self.inside.recent c.self.invariant.6 c.place_of-place.result
          c.index-from.result.now c.in-Some.x at.below (ap (λ (s : Station). s.sending) (sym at.at) ∙ c.in-Some.is) c.index.result.now.origin
          c.frame_start-opens.result (c.in-Some.x.start + c.self.inside.delta) (sym c.is_close.ensures ∙ so);
    })

pub listeners-requires-clause-from : goal.listeners-requires-clause-from
listeners-requires-clause-from g c =
    let back = (goal.at.listeners-requires-clause-from g c).After-index-from in
    let nodes = g.M.Links.nodes c.args.links.now in
    subst (λ (s : Station). IsPlaceOf nodes s.place s.node) (sym c.index-from.ensures)
    (all_placed (seen c.self.inside) nodes c.self.invariant.0 (sealed g back) c.place_of-place.result c.index-from.result.now (station g back).below)

pub returns-clause-list : goal.returns-clause-list
returns-clause-list g c =
    let m = seen c.self.inside in
    let at = station g (goal.at.returns-clause-list g c).After-index-from in
    let st = c.index-from.result.now in
    let x = c.in-Some.x in
    let lines = g.M.Links.lines c.args.links.now in
    let heard = c.listeners.result in
    let told : heard ≡ hearers_to m.numbers lines c.args.node x m.stations =
    c.listeners.ensures ∙ ap (λ (l : List Station). hearers_to m.numbers lines st.node x l) c.deref-2.ensures.value
    ∙ ap (λ (v : ℕ). hearers_to m.numbers lines v x m.stations) at.node in
    subst (λ (s : MediumState). IfSome (sending_of_station (station_of s c.args.node)) (λ y. heard ≡ hearers_to s.numbers lines c.args.node y s.stations))
    c.self.view_is
    (hearers_there m c.self.invariant.0 c.args.node c.place_of-place.result st at.below at.at at.node lines heard x c.in-Some.is told)
