use Rattle.std.proofs.Common.{sym, ◌∙◌, ◌≤◌, length, arith}
use Rattle.std.proofs.lemmas.Bool.{eqb-true}
use Rattle.plain_bus.proofs.OffersRead.{SendsNone, nothing_given}
use Rattle.plain_bus.proofs.PlacesSeen.{all_seen, seen_below}
use Rattle.plain_bus.proofs.offers.first_sent.Goals as goal

pub returns-in_default : goal.returns-in_default
returns-in_default c give are =
    let xs = c.args.stations.now in
    let out : length xs ≤ c.lowest-place.result = omega (arith, c.from.ensures, c.in_default.ensures.lookup) in
    nothing_given give xs c.args.from are
    (seen_below (SendsNone xs) c.args.from c.loop-rest.rest c.loop-rest.invariant c.lowest-place.result (length xs) c.lowest-place.ensures.first out)

pub returns : goal.returns
returns c give are =
    let xs = c.args.stations.now in
    nothing_given give xs c.args.from are
    (λ k near one. all_seen (SendsNone xs) c.args.from c.loop-rest.rest c.loop-rest.invariant
    (eqb-true c.loop-rest.rest 0 (sym c.is_empty.ensures ∙ c.loop-rest-test.false)) k one)
