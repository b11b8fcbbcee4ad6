use Rattle.std.proofs.Common.{arith}
use Rattle.stream_table.proofs.InOrder.{in_order, are_again, put_is}
use Rattle.stream_table.proofs.places.place_entry.Goals as goal

pub put-requires : goal.put-requires
put-requires c = (omega arith, in_order c.args.entries.now.items c.requires.ascends)

pub returns-clause-after : goal.returns-clause-after
returns-clause-after c = put_is c.args.entry c.args.entries.now.items _ c.put.ensures.after

pub returns-clause-kept : goal.returns-clause-kept
returns-clause-kept c = are_again _ c.put.ensures.few c.put.ensures.ascends
