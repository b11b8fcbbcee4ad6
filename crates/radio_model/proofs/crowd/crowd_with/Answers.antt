use Rattle.std.proofs.Common.{◌≡◌, ◌<◌, ℕ, ◌∙◌, get_or, length, inl, inr, sym, subst, ap, arith}
use Rattle.std.proofs.lemmas.Bool.{cases_eq}
use Rattle.std.proofs.lemmas.List.{get_or_default}
use Rattle.std.proofs.lemmas.Nat.Bits.{bit_at-zero}
use Rattle.std.specs.Int.{bit_at}
use Rattle.radio_model.specs.Stations.{fresh}
use Rattle.radio_model.specs.Meetings.{rivals_in, rivals_to, IsFrom, AddsTo, HasBitsOf}
use Rattle.radio_model.specs.declared.crowd.Crowd.{Crowd}
use Rattle.radio_model.proofs.Gathered.{adds_none, from_more, adds_more, tells_more}
use Rattle.radio_model.proofs.HeardInTurn.{none_but}
use Rattle.radio_model.proofs.Those.{is_none}
use Rattle.radio_model.proofs.crowd.crowd_with.Goals as goal

pub crowd_at-other-requires-clause-place : goal.crowd_at-other-requires-clause-place
crowd_at-other-requires-clause-place g c =
    c.requires.within c.lowest-place.result (c.loop-ready.invariant.left c.lowest-place.result c.lowest-place.ensures.set)

pub returns-then-is_empty-clause-none : goal.returns-then-is_empty-clause-none
returns-then-is_empty-clause-none g c =
    let lines = g.M.Links.lines c.args.links.now in
    let nodes = g.M.Links.nodes c.args.links.now in
    let p = c.args.ending.now.profile.now in
    let x = c.args.ending.now.x.now in
    let sts = c.args.ending.now.stations.now in
    let k = c.lowest-place.result in
    let st = get_or sts k (fresh 0 0) in
    let below : k < length sts = c.requires.within k (c.loop-ready.invariant.left k c.lowest-place.ensures.set) in
    let at : st ≡ get_or sts k st = get_or_default sts k (fresh 0 0) st below in
    let from : IsFrom lines nodes (rivals_to p x sts) c.with-crowd.result =
    subst (λ (w : Crowd). IsFrom lines nodes (rivals_to p x sts) w) (sym c.with-crowd.ensures)
    (from_more lines nodes p x sts k st below at c.left_of-asked.result c.loop-ready.crowd c.crowd_at-other.result (c.crowd_at-other.ensures (fresh 0 0))
    c.loop-ready.invariant.from) in
    λ i one. from.spoiled i (none_but c.args.ready c.with-crowd.result.spoiled
    c.left_of.result i c.left_of.ensures
    (is_none c.left_of.result c.is_empty-in-loop-ready.result c.is_empty-in-loop-ready.ensures c.if-is_empty.true) one)

pub loop-ready-init : goal.loop-ready-init
loop-ready-init g c =
    let lines = g.M.Links.lines c.args.links.now in
    let nodes = g.M.Links.nodes c.args.links.now in
    record {
      from = c.requires.known;
      adds = adds_none lines nodes c.args.ending.now.profile.now c.args.ending.now.x.now c.args.ending.now.stations.now c.args.known;
      tells = λ k i d inside one done. absurd (omega (arith, done.0, done.1));
      left = λ k one. one;
    }

pub loop-ready-preserved : goal.loop-ready-preserved
loop-ready-preserved g c =
    let lines = g.M.Links.lines c.args.links.now in
    let nodes = g.M.Links.nodes c.args.links.now in
    let p = c.args.ending.now.profile.now in
    let x = c.args.ending.now.x.now in
    let sts = c.args.ending.now.stations.now in
    let k = c.lowest-place.result in
    let new = c.without-rest.result in
    let st = get_or sts k (fresh 0 0) in
    let a = c.loop-ready.crowd in
    let b = c.crowd_at-other.result in
    let below : k < length sts = c.requires.within k (c.loop-ready.invariant.left k c.lowest-place.ensures.set) in
    let at : st ≡ get_or sts k st = get_or_default sts k (fresh 0 0) st below in
    record {
      from = subst (λ (w : Crowd). IsFrom lines nodes (rivals_to p x sts) w) (sym c.with-crowd.ensures)
          (from_more lines nodes p x sts k st below at c.left_of-asked.result a b (c.crowd_at-other.ensures (fresh 0 0)) c.loop-ready.invariant.from);
      adds = subst (λ (w : Crowd). AddsTo c.args.known w) (sym c.with-crowd.ensures)
          (adds_more lines nodes p x sts k st below at c.left_of-asked.result a b
          (c.crowd_at-other.ensures (fresh 0 0)) c.args.known c.loop-ready.invariant.adds);
      tells = λ j i d inside one done. subst (λ (w : Crowd). HasBitsOf lines nodes (rivals_in p x (get_or sts j d)) i w) (sym c.with-crowd.ensures)
          (tells_more lines nodes p x sts k st below at c.left_of-asked.result a b
          (c.crowd_at-other.ensures (fresh 0 0)) c.args.ready c.args.places c.loop-ready.rest new
          (λ j one clean. c.left_of-asked.ensures j ∙ omega (arith, one, clean)) c.without-rest.ensures.others
          c.loop-ready.invariant.tells j i d inside one done);
      left = λ j one. elim (cases_eq j k) [
        | inl here ↦ absurd (omega (arith, one, c.without-rest.ensures.cleared, ap (bit_at new) here))
        | inr other ↦ c.loop-ready.invariant.left j (sym (c.without-rest.ensures.others j other) ∙ one)
      ];
    }

pub returns-clause-tells : goal.returns-clause-tells
returns-clause-tells g c =
    let over : c.loop-ready.rest ≡ 0 = is_none c.loop-ready.rest c.is_empty.result c.is_empty.ensures c.loop-ready-test.false in
    λ k i d inside asked one. c.loop-ready.invariant.tells k i d inside asked (one, ap (λ (n : ℕ). bit_at n k) over ∙ bit_at-zero k)
