use Rattle.std.proofs.Common.{sym, ◌∙◌, ◌≡◌, ◌≤◌, ◌<◌, length, arith}
use Rattle.std.specs.Int.{bit_at}
use Rattle.std.proofs.lemmas.Bool.{eqb-true}
use Rattle.plain_bus.specs.FloodMasks.{traced}
use Rattle.plain_bus.proofs.PlacesSeen.{all_seen, none_seen, seen_below}
use Rattle.plain_bus.proofs.ReachedNodes.{IsWithin, more_from, more_within, nobody_reached}
use Rattle.plain_bus.proofs.reaching.reached_by.Goals as goal

pub loop-among-init : goal.loop-among-init
loop-among-init g c = record {
  within = none_seen (IsWithin (traced (g.M.Links.lines c.args.links.now) (g.M.Links.nodes c.args.links.now)) c.args.flood.now c.args.step c.args.among 0)
      c.args.senders;
  from = nobody_reached (traced (g.M.Links.lines c.args.links.now) (g.M.Links.nodes c.args.links.now)) c.args.flood.now c.args.step c.args.senders;
}

pub loop-among-preserved : goal.loop-among-preserved
loop-among-preserved g c =
    let t = traced (g.M.Links.lines c.args.links.now) (g.M.Links.nodes c.args.links.now) in
    let f = c.args.flood.now in
    let place = c.lowest-place.result in
    let below : place < length t.nodes = omega (arith, c.if-from-count.false, c.from.ensures, c.requires.sealed) in
    let sends : bit_at c.args.senders place ≡ 1 = c.loop-among.invariant.within.left place c.lowest-place.ensures.set in
    record {
      within = rw c.or-reached.ensures (more_within t f c.args.step c.args.senders c.args.among c.except-left.result c.loop-among.reached
          c.to_mask_among-more.result place below c.except-left.ensures c.to_mask_among-more.ensures
          c.loop-among.rest c.without-rest.result c.loop-among.invariant.within c.without-rest.ensures.cleared c.without-rest.ensures.others);
      from = rw c.or-reached.ensures (more_from t f c.args.step c.args.senders c.args.among c.except-left.result c.loop-among.reached
          c.to_mask_among-more.result place below c.except-left.ensures c.to_mask_among-more.ensures c.loop-among.invariant.from sends);
    }

pub returns-then-from-count : goal.returns-then-from-count
returns-then-from-count g c =
    let t = traced (g.M.Links.lines c.args.links.now) (g.M.Links.nodes c.args.links.now) in
    let within = IsWithin t c.args.flood.now c.args.step c.args.among c.loop-among.reached in
    let out : length t.nodes ≤ c.lowest-place.result = omega (arith, c.if-from-count.true, c.from.ensures, c.requires.sealed) in
    record {
      some = c.loop-among.invariant.from;
      none = λ i j near asked none inside sends. seen_below within c.args.senders c.loop-among.rest c.loop-among.invariant.within c.lowest-place.result
          (length t.nodes) c.lowest-place.ensures.first out j inside sends i near asked none inside;
    }

pub returns : goal.returns
returns g c = record {
  some = c.loop-among.invariant.from;
  none = λ i j near asked none inside sends. all_seen (IsWithin (traced (g.M.Links.lines c.args.links.now)
      (g.M.Links.nodes c.args.links.now)) c.args.flood.now c.args.step c.args.among c.loop-among.reached) c.args.senders c.loop-among.rest
      c.loop-among.invariant.within (eqb-true c.loop-among.rest 0 (sym c.is_empty.ensures ∙ c.loop-among-test.false)) j sends i near asked none inside;
}
