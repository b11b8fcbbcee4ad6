use Rattle.std.proofs.Common.{◌<◌, ◌∙◌, ℕ, List, get_or, length, sym, subst, arith}
use Rattle.radio_model.specs.Meetings.{key_of, passes_at, IsCrowd, rivals_in, no_crowd}
use Rattle.radio_model.specs.declared.crowd.Crowd.{Crowd}
use Rattle.link_trace.specs.Masks.{IsMaskAmong}
use Rattle.radio_model.specs.declared.rivals.Key.{Key}
use Rattle.radio_model.specs.declared.rivals.Rival.{Rival}
use Rattle.radio_model.specs.declared.station.Station.{Station}
use Rattle.radio_model.proofs.Alike.{along_comes}
use Rattle.radio_model.proofs.Crowds.{nobody_comes}
use Rattle.radio_model.proofs.Early.{early_comes}
use Rattle.radio_model.proofs.EndingPlaces.{the_station, alike_at}
use Rattle.radio_model.proofs.Marked.{no_rivals_aside}
use Rattle.radio_model.proofs.crowd.crowd_at.Goals as goal
use Rattle.radio_model.proofs.crowd.crowd_at.Goals.{then-comes_along-via-then-comes_along, then-comes_along-via-else-comes_along+then-is_aside}

pub bounds-ending-i-2 : goal.bounds-ending-i-2
bounds-ending-i-2 g c = omega (arith, c.from-i.ensures, c.requires.ending.marks.one_each, c.requires.place)

pub brought_from-brought-requires-clause-by_end : goal.brought_from-brought-requires-clause-by_end
brought_from-brought-requires-clause-by_end g c =
    let e = c.args.ending.now in
    let below : c.from-i.result < length e.stations.now = omega (arith, c.from-i.ensures, c.requires.place) in
    (c.requires.ending.aged c.from-i.result c.index-ending-i.result below).by_end

pub returns-then-comes_along : goal.returns-then-comes_along
returns-then-comes_along g c =
    let lines = g.M.Links.lines c.args.links.now in
    let nodes = g.M.Links.nodes c.args.links.now in
    let e = c.args.ending.now in
    let is = c.requires.ending in
    let p = e.profile.now in
    let x = e.x.now in
    let k = c.from-i.result in
    let st = get_or e.stations.now k c.index-ending-i.result in
    let mk = get_or e.marks.now k c.index-ending-i-2.result in
    let below : k < length e.stations.now = omega (arith, c.from-i.ensures, c.requires.place) in
    let marked = is.marks.each k c.index-ending-i.result c.index-ending-i-2.result below in
    let alike = alike_at nodes e is k c.index-ending-i.result c.index-ending-i-2.result below in
    λ d.
    subst (λ (s : Station). IsCrowd lines nodes c.args.among (rivals_in p x s) c.none.result)
    (the_station e.stations.now k c.args.place c.index-ending-i.result d c.from-i.ensures c.requires.place)
    (subst (λ (w : Crowd). IsCrowd lines nodes c.args.among (rivals_in p x st) w) (sym c.none.ensures)
    (elim c.then-comes_along.branch [
      | then-comes_along-via-then-comes_along w ↦
          along_comes p x st mk e.origin e.delta marked alike is.delta.0 (sym c.comes_along.ensures ∙ w.if-comes_along.true) lines nodes c.args.among
      | then-comes_along-via-else-comes_along+then-is_aside w ↦
          subst (λ (rs : List Rival). IsCrowd lines nodes c.args.among rs no_crowd)
          (sym (no_rivals_aside p x st mk marked (sym w.is_aside.ensures ∙ w.if-is_aside.true))) (nobody_comes lines nodes c.args.among)
    ]))

pub returns-then-comes_early : goal.returns-then-comes_early
returns-then-comes_early g c =
    let lines = g.M.Links.lines c.args.links.now in
    let nodes = g.M.Links.nodes c.args.links.now in
    let e = c.args.ending.now in
    let is = c.requires.ending in
    let p = e.profile.now in
    let x = e.x.now in
    let k = c.from-i.result in
    let st = get_or e.stations.now k c.index-ending-i.result in
    let mk = get_or e.marks.now k c.index-ending-i-2.result in
    let below : k < length e.stations.now = omega (arith, c.from-i.ensures, c.requires.place) in
    let placed = is.placed k c.index-ending-i.result below in
    let marked = is.marks.each k c.index-ending-i.result c.index-ending-i-2.result below in
    let alike = alike_at nodes e is k c.index-ending-i.result c.index-ending-i-2.result below in
    λ d.
    subst (λ (s : Station). IsCrowd lines nodes c.args.among (rivals_in p x s) (record { mixed = 0; spoiled = c.reach_of.result }))
    (the_station e.stations.now k c.args.place c.index-ending-i.result d c.from-i.ensures c.requires.place)
    (early_comes p x st mk e.origin e.opens marked alike is.opens (sym c.is_aside.ensures ∙ c.if-is_aside.false)
    (sym c.comes_early.ensures ∙ c.if-comes_early.true) lines nodes c.args.among c.reach_of.result
    (subst (λ (n : ℕ). IsMaskAmong (λ v. passes_at lines (key_of p x) n v) nodes c.args.among c.reach_of.result) placed.there
    (subst (λ (q : Key). IsMaskAmong (λ v. passes_at lines q (get_or nodes st.place 0) v) nodes c.args.among c.reach_of.result) is.key c.reach_of.ensures)))

pub returns : goal.returns
returns g c =
    let lines = g.M.Links.lines c.args.links.now in
    let nodes = g.M.Links.nodes c.args.links.now in
    let e = c.args.ending.now in
    let st = get_or e.stations.now c.from-i.result c.index-ending-i.result in
    let b = c.brought_from-brought.result in
    let crowd : IsCrowd lines nodes c.args.among (rivals_in e.profile.now e.x.now st) (record { mixed = b.mixed; spoiled = b.spoiled }) =
    record { mixed = c.brought_from-brought.ensures.mixed; spoiled = c.brought_from-brought.ensures.spoiled } in
    λ d.
    subst (λ (s : Station). IsCrowd lines nodes c.args.among (rivals_in e.profile.now e.x.now s) (record { mixed = b.mixed; spoiled = b.spoiled }))
    (the_station e.stations.now c.from-i.result c.args.place c.index-ending-i.result d c.from-i.ensures c.requires.place) crowd
