use Rattle.std.proofs.Common.{arith, sym, ◌∙◌}
use Rattle.bus_rules.specs.Streams.{owner_named}
use Rattle.node_streams.proofs.InTurn.{some_at, fold_step}
use Rattle.node_streams.proofs.streams.Streams.hear_owners.Goals as goal

pub unwrap-owner-requires : goal.unwrap-owner-requires
unwrap-owner-requires c = rw c.at.ensures (some_at c.args.owners.now c.loop-i.i (omega arith))

pub loop-i-preserved : goal.loop-i-preserved
loop-i-preserved c =
    fold_step (owner_named c.args.node c.args.frame) c.args.self.now c.args.owners.now c.loop-i.i c.unwrap-owner.result c.loop-i.self c.hear_owner.new.self
    (sym c.at.ensures ∙ c.unwrap-owner.ensures) c.loop-i.invariant c.hear_owner.ensures
