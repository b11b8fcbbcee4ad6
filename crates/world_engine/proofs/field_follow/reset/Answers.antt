use Rattle.world_engine.proofs.DueChanges.{stays_set}
use Rattle.world_engine.proofs.field_follow.reset.Goals as goal

pub returns-then-is_same_tick : goal.returns-then-is_same_tick
returns-then-is_same_tick g c =
    stays_set c.args.place c.args.class c.args.from c.args.to (g.Q.Orders.map c.args.orders.now) (c.is_same_tick.ensures c.if-is_same_tick.true)
