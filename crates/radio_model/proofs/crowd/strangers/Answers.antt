use Rattle.std.proofs.Common.{◌<◌, ℕ, ◌∙◌, not, get_or, length, sym, ap, arith, Bool}
use Rattle.std.proofs.lemmas.List.{get_or_default}
use Rattle.radio_model.specs.Marks.{comes_close, no_mark}
use Rattle.radio_model.specs.declared.mark.Mark.{Mark}
use Rattle.radio_model.proofs.Those.{all_left, stays, goes, is_none, none_left}
use Rattle.radio_model.proofs.crowd.strangers.Goals as goal

pub bounds-marks-from : goal.bounds-marks-from
bounds-marks-from c =
    let i = c.from.ensures in
    let was = c.loop-origin.invariant no_mark in
    let k = c.lowest-place.result in
    omega (arith, i, c.requires.within k (was.among k (was.left k c.lowest-place.ensures.set)))

pub loop-origin-init : goal.loop-origin-init
loop-origin-init c = λ d. all_left (λ k. not (comes_close c.args.opens c.args.latest c.args.x.now c.args.origin (get_or c.args.marks.now k d))) c.args.places

pub loop-origin-preserved-then-comes_close : goal.loop-origin-preserved-then-comes_close
loop-origin-preserved-then-comes_close c =
    let mks = c.args.marks.now in
    let k = c.lowest-place.result in
    let mk = c.index-marks-from.result in
    let was = c.loop-origin.invariant mk in
    let below : k < length mks = c.requires.within k (was.among k (was.left k c.lowest-place.ensures.set)) in
    let test : Mark → Bool = λ m. not (comes_close c.args.opens c.args.latest c.args.x.now c.args.origin m) in
    λ d. goes (λ n. test (get_or mks n d)) c.args.places c.loop-origin.strange c.loop-origin.rest c.without-rest.result k (c.loop-origin.invariant d)
    c.without-rest.ensures.cleared c.without-rest.ensures.others c.without-strange.result c.without-strange.ensures.cleared
    c.without-strange.ensures.others
    (ap test (get_or_default mks k d mk below ∙ ap (λ (n : ℕ). get_or mks n mk) (sym c.from.ensures) ∙ sym c.index-marks-from.is)
    ∙ ap not (sym c.comes_close.ensures ∙ c.if-comes_close.true))

pub loop-origin-preserved : goal.loop-origin-preserved
loop-origin-preserved c =
    let mks = c.args.marks.now in
    let k = c.lowest-place.result in
    let mk = c.index-marks-from.result in
    let was = c.loop-origin.invariant mk in
    let below : k < length mks = c.requires.within k (was.among k (was.left k c.lowest-place.ensures.set)) in
    let test : Mark → Bool = λ m. not (comes_close c.args.opens c.args.latest c.args.x.now c.args.origin m) in
    λ d. stays (λ n. test (get_or mks n d)) c.args.places c.loop-origin.strange c.loop-origin.rest c.without-rest.result k (c.loop-origin.invariant d)
    c.without-rest.ensures.cleared c.without-rest.ensures.others
    (ap test (get_or_default mks k d mk below ∙ ap (λ (n : ℕ). get_or mks n mk) (sym c.from.ensures) ∙ sym c.index-marks-from.is)
    ∙ ap not (sym c.comes_close.ensures ∙ c.if-comes_close.false))

pub returns : goal.returns
returns c = λ d. none_left (λ k. not (comes_close c.args.opens c.args.latest c.args.x.now c.args.origin (get_or c.args.marks.now k d))) c.args.places
    c.loop-origin.strange c.loop-origin.rest
    (is_none c.loop-origin.rest c.is_empty.result c.is_empty.ensures c.loop-origin-test.false) (c.loop-origin.invariant d)
