use Rattle.std.proofs.Common.{◌∙◌, ◌<◌, length, sym, arith}
use Rattle.std.proofs.lemmas.Bool.{eqb-false}
use Rattle.stream_table.proofs.CodeOrder.{replaced, replaced_ascends, added, added_ascends}
use Rattle.stream_table.proofs.code_order.put.Goals as goal

pub returns-in-Ok-clause-after : goal.returns-in-Ok-clause-after
returns-in-Ok-clause-after g c =
    replaced g.T.Coded.code_of c.args.list.now.items c.as_slice.result.now c.args.item c.code.result c.in-Ok.place c.as_slice.ensures.value c.code.ensures
    c.requires g.row.N c.set.new.list.items c.in-Ok.ensures.found c.set.ensures

pub returns-in-Ok-clause-ascends : goal.returns-in-Ok-clause-ascends
returns-in-Ok-clause-ascends g c =
    replaced_ascends g.T.Coded.code_of c.args.list.now.items c.as_slice.result.now c.args.item c.code.result c.in-Ok.place c.as_slice.ensures.value
    c.code.ensures c.requires c.set.new.list.items c.in-Ok.ensures.found c.set.ensures

pub returns-else-is_full-clause-after : goal.returns-else-is_full-clause-after
returns-else-is_full-clause-after g c =
    let xs = c.args.list.now.items in
    let apart = eqb-false (length xs) g.row.N (sym c.is_full.ensures.value ∙ c.if-is_full.false) in
    let room : length xs < g.row.N = omega (arith, apart, c.is_full.ensures.fits) in
    added g.T.Coded.code_of xs c.as_slice.result.now c.args.item c.code.result c.in-Err.place c.as_slice.ensures.value c.code.ensures c.requires g.row.N
    c.insert.new.self.items c.in-Err.ensures.missing room c.insert.ensures.items

pub returns-else-is_full-clause-ascends : goal.returns-else-is_full-clause-ascends
returns-else-is_full-clause-ascends g c =
    added_ascends g.T.Coded.code_of c.args.list.now.items c.as_slice.result.now c.args.item c.code.result c.in-Err.place c.as_slice.ensures.value c.code.ensures
    c.requires c.insert.new.self.items c.in-Err.ensures.missing c.insert.ensures.items
