use Rattle.std.proofs.Common.{◌≡◌, ◌+◌, ◌<◌, ℕ, List, length, set, get_or, Some, is_some, refl, ap, ◌∙◌, ◌≤◌, sym, subst, arith}
use Rattle.lwb_base.specs.Profile.{airtime}
use Rattle.radio_model.specs.Stations.{MediumState, IsMedium, station_after_start, medium_after_change, can_send, station_of, IsTime}
use Rattle.radio_model.specs.Ages.{IsAged}
use Rattle.radio_model.specs.Marks.{AreMarks, AreAlike, IsOrigin, no_mark}
use Rattle.radio_model.specs.declared.mark.Mark.{Mark}
use Rattle.radio_model.proofs.Places.{found}
use Rattle.radio_model.proofs.PlacedStations.{StandsFor, found_station, seen}
use Rattle.radio_model.specs.Holding.{Holds, after_starting}
use Rattle.radio_model.proofs.AfterStarting.{holds_after_starting}
use Rattle.radio_model.proofs.ChangeAtPlace.{state_after, still_a_medium, still_placed}
use Rattle.radio_model.proofs.EndedSendings.{aged_same}
use Rattle.radio_model.proofs.BegunOrigins.{after_start, begins_if}
use Rattle.std.proofs.lemmas.List.Elements.{Contains-get_or}
use Rattle.std.specs.Int.{bit_at}
use Rattle.radio_model.specs.Recent.{AreRecent}
use Rattle.radio_model.proofs.RecentPlaces.{recent_after_start}
use Rattle.radio_model.specs.declared.sending.Sending.{Sending}
use Rattle.radio_model.specs.declared.station.Station.{Station}
use Rattle.radio_model.proofs.Changes.{started_keeps}
use Rattle.radio_model.proofs.medium.Medium.start.Goals as goal
use Rattle.radio_model.proofs.medium.Medium.start.Goals.{After-index_mut-station, After-start-rank}

pub origin_of-origin-requires-clause-within : goal.origin_of-origin-requires-clause-within
origin_of-origin-requires-clause-within c =
    subst (λ (l : List Station). (k : ℕ) → bit_at c.self.inside.recent.places k ≡ 1 → k < length l) (sym c.deref-2.ensures.value) c.self.invariant.6.within

station : (c : After-index_mut-station) → StandsFor (seen c.self.inside) c.args.node c.place_of-place.result c.index_mut-station.result.now
station c =
    found_station c.self.inside c.args.self.now c.deref.result.now c.args.node c.place_of-place.result c.index_mut-station.result.now c.self.view_is
    c.deref.ensures.value c.self.invariant.1 c.requires.node c.place_of-place.ensures c.index_mut-station.ensures.value

end_is : (c : After-start-rank) → c.args.t + c.airtime.result ≡ c.args.t + airtime c.self.inside.profile (length c.args.packet.now)
end_is c = ap (λ (n : ℕ). c.args.t + n) (c.airtime.ensures.value ∙ ap (airtime c.self.inside.profile) c.length.ensures.value)

started : (c : After-start-rank)
    → c.start-rank.new.self ≡ station_after_start c.self.inside.profile c.args.t c.args.packet.now c.index_mut-station.result.now
started c = c.start-rank.ensures.state c.self.inside.profile (end_is c)

pub raise-requires : goal.raise-requires
raise-requires c = omega (arith, (station (goal.at.raise-requires c).After-index_mut-station).below, c.self.invariant.2.one_each)

pub invariant_of-self : goal.invariant_of-self
invariant_of-self c =
    let back = goal.at.invariant_of-self c in
    let m = seen c.self.inside in
    let old = c.index_mut-station.result.now in
    let at = station back.After-index_mut-station in
    let is_started = started back.After-start-rank in
    let later : m.now ≤ c.args.t = subst (λ (s : MediumState). s.now ≤ c.args.t) (sym c.self.view_is) c.requires.time.later in
    let p = m.numbers in
    let t = c.args.t in
    let packet = c.args.packet.now in
    let i = c.place_of-place.result in
    let marks = c.self.inside.marks.items in
    let new = c.start-rank.new.self in
    let aged = subst (λ (st : Station). IsAged m.now st.ended.items) (sym at.at) (c.self.invariant.5 i old at.below) in
    let still : (k : ℕ) (d : Station) (y : Sending) → k < length m.stations → (get_or m.stations k d).sending ≡ Some y → t ≤ y.end = λ k d y inside runs.
    (subst (λ (s : MediumState). IsTime s t) (sym c.self.view_is) c.requires.time).running (get_or m.stations k d) y
    (Contains-get_or m.stations k d inside) runs in
    let from : IsOrigin m.stations marks i t packet c.origin_of-origin.result =
    subst (λ (l : List Mark). IsOrigin m.stations l i t packet c.origin_of-origin.result) c.deref-3.ensures.value
    (subst (λ (l : List Station). IsOrigin l c.deref-3.result.now i t packet c.origin_of-origin.result) c.deref-2.ensures.value c.origin_of-origin.ensures) in
    let after = after_start p m.now t
    (t + c.airtime.result) packet m.stations marks i old new c.origin_of-origin.result at.below at.at is_started (end_is back.After-start-rank) aged later
    c.self.invariant.2 c.self.invariant.3 from c.start-rank.result c.start-rank.ensures.value in (
      still_a_medium c.self.inside c.self.invariant.0 (station_after_start p t packet) (started_keeps p t packet) c.args.node t i old new at is_started,
      still_placed c.self.inside c.self.invariant.0 (station_after_start p t packet) (started_keeps p t packet) c.args.node t i old new at is_started
          c.self.invariant.1,
      subst (AreMarks (set m.stations i new)) (sym (c.raise.ensures no_mark)) after.0,
      subst (AreAlike t (set m.stations i new)) (sym (c.raise.ensures no_mark)) after.1,
      c.self.invariant.4,
      aged_same m.now t i m.stations old new later c.self.invariant.5 at.below at.at (ap (λ (s : Station). s.ended) is_started),
      subst (λ (l : List Mark). AreRecent t (set m.stations i new) l c.next-self-inside.result) (sym (c.raise.ensures no_mark))
          (recent_after_start p m.now t (t + c.airtime.result) packet m.stations marks i old new c.origin_of-origin.result c.self.inside.recent
          c.next-self-inside.result at.below at.at
          is_started later c.self.invariant.2 still c.self.invariant.6 c.start-rank.result c.start-rank.ensures.value
          (λ some. c.next-self-inside.ensures.starts (c.is_some-starts.ensures ∙ some))
          (λ none. c.next-self-inside.ensures.stays (c.is_some-starts.ensures ∙ none))),
    )

pub returns-clause-value : goal.returns-clause-value
returns-clause-value c =
    let old = c.index_mut-station.result.now in
    let at = station (goal.at.returns-clause-value c).After-index_mut-station in
    c.is_some-starts.ensures ∙ ap is_some c.start-rank.ensures.value ∙ begins_if old.tuning.now old.sending
    ∙ ap can_send (sym (found c.self.inside.stations.items c.args.node c.place_of-place.result old c.self.invariant.0.nodes.ascending at.below at.at at.node))
    ∙ ap (λ (s : MediumState). can_send (station_of s c.args.node)) c.self.view_is

pub returns-clause-state : goal.returns-clause-state
returns-clause-state c =
    let back = goal.at.returns-clause-state c in
    let p = c.self.inside.profile in
    let packet = c.args.packet.now in
    state_after c.self.inside c.self.invariant.0 (station_after_start p c.args.t packet) (started_keeps p c.args.t packet) c.args.node c.args.t
    c.place_of-place.result c.index_mut-station.result.now c.start-rank.new.self (station back.After-index_mut-station) (started back.After-start-rank)
    (seen c.self.inside) refl
    ∙ ap (λ (s : MediumState). medium_after_change c.args.t c.args.node (station_after_start s.numbers c.args.t packet) s) c.self.view_is

pub returns-clause-holds : goal.returns-clause-holds
returns-clause-holds c =
    λ a h.
    let m = c.args.self.now in
    let is : IsMedium m = subst IsMedium c.self.view_is c.self.invariant.0 in
    let length = c.length.ensures.range in
    subst (λ (s : MediumState). Holds s (after_starting m c.args.node c.args.t c.args.packet.now a)) (sym (returns-clause-state c))
    (holds_after_starting m is a h c.args.node c.requires.node c.args.t c.requires.time.later c.args.packet.now (omega arith) (omega arith))
