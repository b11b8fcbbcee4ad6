use Rattle.std.proofs.Common.{◌≡◌, ◌≤◌, ◌^◌, ◌++◌, ◌∷◌, [], length, sym, ap, arith, rules}
use Rattle.std.proofs.lemmas.List.{length_push}
use Rattle.std.proofs.lemmas.List.Elements.{All-contains}
use Rattle.radio_model.specs.OnAir.{Sending}
use Rattle.radio_model.specs.Reaches.{IsReach}
use Rattle.radio_model.proofs.AreReached.{one_more}
use Rattle.radio_model.proofs.transmissions.reaches_of.Goals as goal

pub reach_of-requires-clause-start : goal.reach_of-requires-clause-start
reach_of-requires-clause-start c =
    All-contains (λ (y : Sending). y.start ≤ 2 ^ 46) c.args.sent.now c.x-item.result c.requires.early (c.loop-x.x-index, c.loop-x-test.true, sym c.x-item.is)

pub loop-x-preserved : goal.loop-x-preserved
loop-x-preserved c =
    let sent = c.args.sent.now in
    let x = c.x-item.result in
    let r = c.reach_of.result in
    let old = c.loop-x.reaches.items in
    let pushed : c.push.new.self.items ≡ old ++ r ∷ [] = search rules in
    let size = ap length pushed in
    let longer = length_push old r in
    record {
      one_each = omega (arith, size, longer, c.loop-x.invariant.one_each);
      each = one_more (IsReach c.args.profile.now c.args.trace.now.lines c.args.nodes.now) sent c.loop-x.x-index x old c.push.new.self.items r
          c.loop-x-test.true c.x-item.is c.loop-x.invariant.one_each pushed c.loop-x.invariant.each c.reach_of.ensures;
    }

pub returns : goal.returns
returns c = record {
  one_each = omega (arith, c.loop-x.invariant.one_each, c.loop-x-test.false, c.loop-x.auto);
  each = λ k d e below. c.loop-x.invariant.each k d e (omega (arith, below, c.loop-x-test.false));
}
