use Rattle.link_trace.proofs.Inserted.{found_there, not_found_there}
use Rattle.link_trace.proofs.in_order.find_line.Goals as goal

pub returns-clause-found : goal.returns-clause-found
returns-clause-found g c =
    let facts = c.binary_search.ensures in
    found_there g.L.Ord.cmp g.met.L.Ord.total c.args.lines.now c.args.line.now c.requires c.binary_search.result facts.bound facts.position

pub returns-clause-absent : goal.returns-clause-absent
returns-clause-absent g c =
    let facts = c.binary_search.ensures in
    not_found_there g.L.Ord.cmp g.met.L.Ord.total c.args.lines.now c.args.line.now c.requires c.binary_search.result facts.bound facts.position
