use Rattle.std.proofs.Common.{◌∙◌, ◌≤◌, sym, length, arith}
use Rattle.std.proofs.lemmas.Bool.{eqb-true}
use Rattle.plain_bus.proofs.OffersRead.{IsNot, absent_gives}
use Rattle.plain_bus.proofs.PlacesSeen.{all_seen, seen_below}
use Rattle.plain_bus.proofs.offers.sent_by.Goals as goal

pub returns-in_default : goal.returns-in_default
returns-in_default c give are =
    let xs = c.args.stations.now in
    let out : length xs ≤ c.lowest-place.result = omega (arith, c.from.ensures, c.in_default.ensures.lookup) in
    sym (absent_gives give xs c.args.from are c.args.node
    (seen_below (IsNot xs c.args.node) c.args.from c.loop-node.rest c.loop-node.invariant c.lowest-place.result (length xs) c.lowest-place.ensures.first out))

pub returns : goal.returns
returns c give are =
    let xs = c.args.stations.now in
    sym (absent_gives give xs c.args.from are c.args.node
    (λ k near one. all_seen (IsNot xs c.args.node) c.args.from c.loop-node.rest c.loop-node.invariant
    (eqb-true c.loop-node.rest 0 (sym c.is_empty.ensures ∙ c.loop-node-test.false)) k one))
