use Rattle.std.proofs.Common.{sym, ◌∙◌}
use Rattle.std.proofs.lemmas.Bool.{eqb-true}
use Rattle.plain_bus.specs.FloodMasks.{traced}
use Rattle.plain_bus.proofs.SteppedByMasks.{nothing_changes}
use Rattle.plain_bus.proofs.station.Stations.go_on.Goals as goal

pub returns-then-is_empty-clause-at : goal.returns-then-is_empty-clause-at
returns-then-is_empty-clause-at g c s m flood known at =
    nothing_changes s (traced (g.M.Links.lines c.args.links.now) (g.M.Links.nodes c.args.links.now)) c.args.flood.now c.args.step m flood known c.args.self.now
    at (eqb-true c.args.self.now.senders 0 (sym c.is_empty.ensures ∙ c.if-is_empty.true))

pub returns-in-Some-clause-at : goal.returns-in-Some-clause-at
returns-in-Some-clause-at g c s m flood known at =
    c.pass_all.ensures.at s m flood (λ v there. flood.lone c.in-Some.origin v c.in-Some.is there) known at
