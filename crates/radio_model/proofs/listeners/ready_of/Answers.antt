use Rattle.std.proofs.Common.{◌≡◌, ◌<◌, ℕ, ◌∙◌, get_or, length, sym, subst, ap, arith}
use Rattle.std.proofs.lemmas.List.{get_or_default}
use Rattle.radio_model.specs.Ages.{IsAged}
use Rattle.radio_model.specs.Marks.{IsMark}
use Rattle.radio_model.specs.Meetings.{is_ready}
use Rattle.radio_model.specs.Stations.{on_air, fresh}
use Rattle.radio_model.specs.declared.mark.Mark.{Mark}
use Rattle.radio_model.specs.declared.station.Station.{Station}
use Rattle.radio_model.proofs.Those.{all_left, stays, goes, is_none, none_left}
use Rattle.radio_model.proofs.listeners.ready_of.Goals as goal
use Rattle.radio_model.proofs.listeners.ready_of.Goals.{After-from-i, After-is_ready}

-- the place that is looked at is one of the stations
inside : (c : After-from-i) → c.from-i.result < length c.args.stations.now
inside c =
    let i = c.from-i.ensures in
    let was = c.loop-rest.invariant (fresh 0 0) in
    let k = c.lowest-place.result in
    omega (arith, i, c.requires.within k (was.among k (was.left k c.lowest-place.ensures.set)))

-- and its answer is that of its station
answered : (c : After-is_ready) (d : Station) → c.from-i.result < length c.args.stations.now
    → is_ready c.args.x.now (get_or c.args.stations.now c.lowest-place.result d) ≡ c.is_ready.result
answered c d below =
    let sts = c.args.stations.now in
    let k = c.lowest-place.result in
    let st = c.index-stations-i.result in
    let i = c.from-i.ensures in
    ap (is_ready c.args.x.now)
    (get_or_default sts k d st (omega (arith, i, below)) ∙ ap (λ (n : ℕ). get_or sts n st) (sym i) ∙ sym c.index-stations-i.is)
    ∙ sym c.is_ready.ensures

pub bounds-stations-i : goal.bounds-stations-i
bounds-stations-i c = inside c

pub bounds-marks-i : goal.bounds-marks-i
bounds-marks-i c =
    let below = inside (goal.at.bounds-marks-i c).After-from-i in
    omega (arith, below, c.requires.marks.one_each)

pub is_ready-requires-clause-own : goal.is_ready-requires-clause-own
is_ready-requires-clause-own c =
    subst (λ (st : Station). IsAged c.args.x.now.end st.ended.items) (sym c.index-stations-i.is)
    (c.requires.aged c.from-i.result c.index-stations-i.result (inside (goal.at.is_ready-requires-clause-own c).After-from-i))

pub is_ready-requires-clause-mark : goal.is_ready-requires-clause-mark
is_ready-requires-clause-mark c =
    subst (λ (m : Mark). IsMark (on_air c.index-stations-i.result) m) (sym c.index-marks-i.is)
    (subst (λ (st : Station). IsMark (on_air st) (get_or c.args.marks.now c.from-i.result c.index-marks-i.result)) (sym c.index-stations-i.is)
    (c.requires.marks.each c.from-i.result c.index-stations-i.result c.index-marks-i.result
    (inside (goal.at.is_ready-requires-clause-mark c).After-from-i)))

pub loop-rest-init : goal.loop-rest-init
loop-rest-init c = λ d. all_left (λ k. is_ready c.args.x.now (get_or c.args.stations.now k d)) c.args.places

pub loop-rest-preserved-then-not-is_ready : goal.loop-rest-preserved-then-not-is_ready
loop-rest-preserved-then-not-is_ready c =
    let back = goal.at.loop-rest-preserved-then-not-is_ready c in
    λ d. goes (λ n. is_ready c.args.x.now (get_or c.args.stations.now n d)) c.args.places c.loop-rest.ready c.loop-rest.rest c.without-rest.result
    c.lowest-place.result (c.loop-rest.invariant d) c.without-rest.ensures.cleared c.without-rest.ensures.others c.without-ready.result
    c.without-ready.ensures.cleared c.without-ready.ensures.others (answered back.After-is_ready d (inside back.After-from-i) ∙ c.if-not-is_ready.true)

pub loop-rest-preserved : goal.loop-rest-preserved
loop-rest-preserved c =
    let back = goal.at.loop-rest-preserved c in
    λ d. stays (λ n. is_ready c.args.x.now (get_or c.args.stations.now n d)) c.args.places c.loop-rest.ready c.loop-rest.rest c.without-rest.result
    c.lowest-place.result (c.loop-rest.invariant d) c.without-rest.ensures.cleared c.without-rest.ensures.others
    (answered back.After-is_ready d (inside back.After-from-i) ∙ c.if-not-is_ready.false)

pub returns : goal.returns
returns c = λ d. none_left (λ k. is_ready c.args.x.now (get_or c.args.stations.now k d)) c.args.places c.loop-rest.ready c.loop-rest.rest
    (is_none c.loop-rest.rest c.is_empty.result c.is_empty.ensures c.loop-rest-test.false) (c.loop-rest.invariant d)
