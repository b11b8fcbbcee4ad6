use Rattle.std.proofs.Common.{ℕ, ◌≡◌, ◌<◌, ◌≤◌, ◌∙◌, ap, sym, get_or, length, arith}
use Rattle.std.proofs.lemmas.Bool.{eqb-true}
use Rattle.plain_bus.proofs.OffersRead.{SendsOnly, all_given, sends_only}
use Rattle.plain_bus.proofs.PlacesSeen.{all_seen, one_seen, seen_below}
use Rattle.plain_bus.proofs.offers.all_send.Goals as goal

pub returns-in_default : goal.returns-in_default
returns-in_default c give are =
    let xs = c.args.stations.now in
    let out : length xs ≤ c.lowest-place.result = omega (arith, c.from.ensures, c.in_default.ensures.lookup) in
    all_given give xs c.args.from are c.args.origin
    (seen_below (SendsOnly xs c.args.origin) c.args.from c.loop-origin.rest c.loop-origin.invariant c.lowest-place.result (length xs)
    c.lowest-place.ensures.first out)

pub loop-origin-preserved : goal.loop-origin-preserved
loop-origin-preserved c =
    let xs = c.args.stations.now in
    let i = c.lowest-place.result in
    let x = c.in-Some.station.now in
    let below : i < length xs = omega (arith, c.from.ensures, c.in-Some.ensures.lookup.3.0) in
    let at : x ≡ get_or xs i x = c.in-Some.ensures.lookup.1 ∙ ap (λ (n : ℕ). get_or xs n x) c.from.ensures in
    one_seen (SendsOnly xs c.args.origin) c.args.from c.loop-origin.rest c.loop-origin.invariant c.without-rest.result i c.without-rest.ensures.cleared
    c.without-rest.ensures.others
    (sends_only xs c.args.from i x below at c.args.origin (sym c.differs.ensures ∙ c.if-differs.false))

pub returns : goal.returns
returns c give are =
    let xs = c.args.stations.now in
    all_given give xs c.args.from are c.args.origin
    (λ k near one. all_seen (SendsOnly xs c.args.origin) c.args.from c.loop-origin.rest c.loop-origin.invariant
    (eqb-true c.loop-origin.rest 0 (sym c.is_empty.ensures ∙ c.loop-origin-test.false)) k one)
